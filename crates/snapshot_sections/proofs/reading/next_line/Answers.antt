use Rattle.std.proofs.Common.{rules}
use Rattle.std.proofs.lemmas.Option.{IfSome_then}
use Rattle.snapshot_sections.proofs.Refusals.{no_line, none_there, other_line}
use Rattle.snapshot_sections.proofs.reading.next_line.Goals as goal

pub returns-in_err-line-clause-refused : goal.returns-in_err-line-clause-refused
returns-in_err-line-clause-refused g c is = IfSome_then _ (search rules) no_line

pub returns-clause-refused : goal.returns-clause-refused
returns-clause-refused g c is =
    let none = rw c.deref.ensures.value at c.line_of.ensures.none in
    other_line _ _ c.in_ok-line.line.items c.in_ok-line.ensures.read c.in_ok-line.ensures.lacks (none_there c.line_of.result (rw c.ok_or.ensures.value at is) none)
