use Rattle.std.proofs.Common.{◌≡◌, ℕ, ◌∷◌, [], Option, Some, true, false, sym, ap, ◌∙◌}
use Rattle.memento_sets.specs.MementoSets.{Mementos}
use Rattle.harvest_lattice.specs.Lattice.{Kept}
use Rattle.harvest_lattice.specs.Parts.{kept_with}
use Rattle.replica_exchange.proofs.EntryLemmas.{one_made}
use Rattle.replica_exchange.proofs.entries.entry_of_one.Goals as goal

pub returns-in_default : goal.returns-in_default
returns-in_default c =
    let p : ℕ × Mementos = c.args.part in
    sym (ap (λ (w : Option ℕ). kept_with w (p ∷ [])) c.in_default.is ∙ (one_made false p ∙ ap (λ (k : Kept). Some k) (sym c.of_part.ensures)))

pub returns : goal.returns
returns c =
    let p : ℕ × Mementos = c.args.part in
    let same : c.in-Some.whole ≡ p.0 = c.if-whole-revision.false ∙ c.revision.ensures in
    sym (ap (λ (w : Option ℕ). kept_with w (p ∷ [])) (c.in-Some.is ∙ ap Some same) ∙ (one_made true p ∙ ap (λ (k : Kept). Some k) (sym c.of_part-2.ensures)))
