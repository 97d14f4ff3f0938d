use Rattle.std.proofs.Common.{sym, ap, subst, ◌∙◌}
use Rattle.std.specs.Arc.{arc_value}
use Rattle.memento_sets.specs.Sets as set
use Rattle.harvest_lattice.specs.Lattice.{Kept}
use Rattle.harvest_lattice.specs.Knowledge.{mementos_of}
use Rattle.harvest_lattice.specs.Parts.{AllStay}
use Rattle.harvest_lattice.proofs.Outcomes.{if_ok_shows}
use Rattle.harvest_lattice.proofs.EntryOrder.{join_from_at_most}
use Rattle.harvest_lattice.proofs.Staying.{shown_of_both}
use Rattle.harvest_lattice.proofs.entry.Entry.shown_with.Goals as goal

pub returns-then-le : goal.returns-then-le
returns-then-le c = if_ok_shows (λ x. arc_value x) c.shown.result
    (ap mementos_of (sym (join_from_at_most c.args.self.now c.args.other.now (c.le.ensures.0 c.if-le.true))))
    c.shown.ensures

pub returns-then-stays_with : goal.returns-then-stays_with
returns-then-stays_with c =
    let a : Kept = c.args.self.now in
    let b : Kept = c.args.other.now in
    let stay : AllStay a b = subst (λ (k : Kept). AllStay k b) c.reading.ensures
    (subst (λ (k : Kept). AllStay c.reading.result k) c.reading-2.ensures
    (c.stays_with.ensures c.if-stays_with.true)) in
    if_ok_shows (λ x. arc_value x) c.united.result ((λ i. set.union (c.in_ok-shown.ensures i) (c.in_ok-shown-2.ensures i))
    ∙ sym (shown_of_both a b stay)) c.united.ensures
