use Rattle.std.proofs.Common.{[], refl, sym, ◌∙◌}
use Rattle.harvest_lattice.specs.Lattice.{not_before}
use Rattle.harvest_lattice.specs.Parts.{kept_in}
use Rattle.harvest_lattice.proofs.WaitingParts.{older_joined}
use Rattle.harvest_lattice.proofs.entry.Entry.join_one.Goals as goal

pub returns-then-not-is_not_before-clause-ok : goal.returns-then-not-is_not_before-clause-ok
returns-then-not-is_not_before-clause-ok c =
    older_joined c.args.is_whole c.args.part c.args.self.now (kept_in c.args.is_whole c.args.part []) refl
    (sym (c.is_not_before.ensures ∙ (λ i. not_before (c.whole.ensures i) (c.revision.ensures i))) ∙ c.if-not-is_not_before.true)
