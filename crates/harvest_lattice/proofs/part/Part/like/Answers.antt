use Rattle.std.proofs.Common.{◌≡◌, sym, ◌∙◌}
use Rattle.memento_sets.specs.Sets as set
use Rattle.harvest_lattice.proofs.Entries.{same_items}
use Rattle.harvest_lattice.proofs.part.Part.like.Goals as goal

pub returns : goal.returns
returns c =
    let e = c.self.inside in
    let x = c.args.self.now in
    let y = c.args.other.now in
    let items : set.items x.1 ≡ set.items y.1 = sym c.mementos.ensures
    ∙ (c.are_same.ensures.0 c.if-not-are_same.false ∙ c.mementos-2.ensures) in
    (λ i. (e.revision, (c.in_ok-mementos.ensures ∙ sym (same_items x.1 y.1 items)) i)) ∙ (λ i. ((c.self.view_is i).0, x.1))
