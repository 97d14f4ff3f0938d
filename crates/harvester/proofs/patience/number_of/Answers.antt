use Rattle.std.proofs.Common.{ℕ, ◌<◌, ◌^◌, List, subst}
use Rattle.std.specs.Str.Parse.{IsNumeral, digits_value, without_leading_plus}
use Rattle.harvester.proofs.Waits.{digits_are_text, too_large}
use Rattle.harvester.proofs.patience.number_of.Goals as goal

pub unreachable-requires : goal.unreachable-requires
unreachable-requires c = c.in_default.ensures.cases.0 (digits_are_text c.args.digits.now c.requires)

pub returns-in-Err : goal.returns-in-Err
returns-in-Err c =
    too_large c.args.digits.now c.requires
    (subst (λ (bs : List ℕ). IsNumeral 10 (without_leading_plus bs) × (digits_value 10 (without_leading_plus bs) < 2 ^ 64) → ⊥) c.in-Ok.ensures.cases.0
    c.in-Err.ensures.value.0)
