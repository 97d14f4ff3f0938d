use Rattle.std.proofs.Common.{ℕ, ◌<◌, length, set, ap, subst, ◌∙◌}
use Rattle.std.specs.Arc.{arc_value}
use Rattle.std.proofs.lemmas.Result.{on_ok_weaker}
use Rattle.memento_sets.specs.MementoSets.{Mementos}
use Rattle.harvest_lattice.proofs.PartLists.{absorbed_at}
use Rattle.harvest_lattice.proofs.later.absorb_at.Goals as goal

pub returns-clause-ok : goal.returns-clause-ok
returns-clause-ok c =
    let es = c.args.parts.now.items in
    let k = c.args.place in
    let e : ℕ × Mementos = c.index_mut.result.now in
    let lt : k < length es = subst (λ n. k < n) c.args.parts.now.ok.0 c.requires in
    on_ok_weaker c.absorb.result (λ is. ap (set es k) is ∙ absorbed_at es k e (arc_value c.args.mementos) lt c.index_mut.ensures.value) c.absorb.ensures.ok
