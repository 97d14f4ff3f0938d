use Rattle.std.proofs.Common.{ℕ, List, Option, ap, sym, ◌∙◌, Bor}
use Rattle.std.specs.Option.{option_map}
use Rattle.text_fields.proofs.PartLemmas.{parts_are, parts_lacking, nowhere_lacks, split_found}
use Rattle.text_fields.proofs.parts.split_once.Goals as goal

pub returns-in_err-at-clause-parts : goal.returns-in_err-at-clause-parts
returns-in_err-at-clause-parts c =
    ap (λ (o : Option (Bor (List ℕ) × Bor (List ℕ))). option_map (λ p. (p.0.now, p.1.now)) o) c.from_residual.ensures
    ∙ sym (parts_lacking c.args.byte c.args.text.now (nowhere_lacks c.args.byte c.args.text.now c.in_err-at.ensures))

pub returns-clause-parts : goal.returns-clause-parts
returns-clause-parts c = sym ((parts_are c.args.byte c.args.text.now _).1 (split_found c.args.byte c.args.text.now c.in_ok-at.at c.in_ok-at.ensures))
