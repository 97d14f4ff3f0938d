use Rattle.std.proofs.Common.{◌≡◌, Bool, true, false, ◌||◌, refl, ap, ◌∙◌}
use Rattle.std.specs.Prelude.{bytes_eq}
use Rattle.retention.proofs.forgetting.add.Goals as goal

or_true : (b : Bool) → (b || true) ≡ true
or_true true = refl
or_true false = refl

pub returns : goal.returns
returns c = λ other was. c.in_ok-added.ensures.ok other ∙ (ap (λ (b : Bool). bytes_eq c.args.original other || b) was ∙ or_true (bytes_eq c.args.original other))
