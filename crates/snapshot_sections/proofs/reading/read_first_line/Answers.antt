use Rattle.std.proofs.Common.{rules, ◌∙◌, not, nat_eq}
use lib.Pointwise.{pointwise}
use Rattle.std.proofs.lemmas.Option.{IfSome_then}
use Rattle.snapshot_sections.proofs.Refusals.{is_first_line, no_first_line, other_first_line}
use Rattle.snapshot_sections.proofs.reading.read_first_line.Goals as goal

pub returns-in_err-line-clause-refused : goal.returns-in_err-line-clause-refused
returns-in_err-line-clause-refused g c is = IfSome_then _ (search rules) no_first_line

pub returns-then-ne-clause-refused : goal.returns-then-ne-clause-refused
returns-then-ne-clause-refused g c is = other_first_line _ _ c.in_ok-line.line.items c.in_ok-line.ensures.read c.in_ok-line.ensures.lacks
    (λ same.
    let read = c.as_slice.ensures.value ∙ same in
    is_first_line (c.if-ne.ensures ∙ (λ i. not (pointwise nat_eq (read i) (c.as_slice-2.ensures i)))))
