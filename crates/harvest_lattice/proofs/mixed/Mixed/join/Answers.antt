use Rattle.std.proofs.Common.{[], sym, ap, subst, ◌∙◌}
use Rattle.memento_sets.specs.Sets as set
use Rattle.harvest_lattice.specs.Lattice.{Kept}
use Rattle.harvest_lattice.specs.Knowledge.{mementos_of}
use Rattle.harvest_lattice.specs.Parts.{AllStay, kept_in}
use Rattle.harvest_lattice.proofs.ShownLemmas.{shown_alone}
use Rattle.harvest_lattice.proofs.Staying.{shown_of_both}
use Rattle.harvest_lattice.proofs.mixed.Mixed.join.Goals as goal

pub invariant_of-self-2 : goal.invariant_of-self-2
invariant_of-self-2 c =
    let e = c.self.inside in
    let b = kept_in c.args.is_whole c.args.part [] in
    let stay : AllStay e.sequence b = subst (λ (k : Kept). AllStay k b) (sym c.self.view_is) c.requires in
    c.in_ok-shown.ensures
    ∙ ((λ i. set.union (c.self.invariant i) ((c.in_ok-share.ensures ∙ shown_alone c.args.is_whole c.args.part) i))
    ∙ (sym (shown_of_both e.sequence b stay) ∙ ap mementos_of (sym c.in_ok-join.ensures.ok)))
