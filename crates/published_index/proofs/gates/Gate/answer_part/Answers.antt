use Rattle.published_index.proofs.Answering.{advances, ok_after, err_after}
use Rattle.published_index.proofs.gates.Gate.answer_part.Goals as goal

pub returns-clause-part : goal.returns-clause-part
returns-clause-part c =
    let asked = c.in-Some.ensures in
    rw (asked.mark, ← c.self.view_is) (ok_after c.in-Some.made _ _ _ (advances _ _ _ c.self.invariant.1 asked.seen asked.told) asked.made)

pub returns-clause-refused : goal.returns-clause-refused
returns-clause-refused c =
    let asked = c.in-Some.ensures in
    rw (asked.mark, ← c.self.view_is) (err_after c.in-Some.made _ _ (advances _ _ _ c.self.invariant.1 asked.seen asked.told) asked.fault)
