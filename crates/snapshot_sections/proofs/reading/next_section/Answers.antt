use Rattle.std.proofs.Common.{rules}
use Rattle.std.proofs.lemmas.Option.{IfSome_then}
use Rattle.snapshot_sections.proofs.Refusals.{no_section, cut_section, other_count}
use Rattle.snapshot_sections.proofs.reading.next_section.Goals as goal

pub returns-in_err-length-clause-refused : goal.returns-in_err-length-clause-refused
returns-in_err-length-clause-refused g c is = IfSome_then _ (search rules) (no_section c.args.count)

pub returns-in_err-text-in-Section-clause-refused : goal.returns-in_err-text-in-Section-clause-refused
returns-in_err-text-in-Section-clause-refused g c is =
    cut_section c.args.count c.in-Section.length _ _ (rw c.in-Section.is at c.in_ok-length.ensures.read) (rw c.in-Section.is at c.in_ok-length.ensures.fits)
    (c.in_err-text-in-Section.ensures.refused (search rules))

pub returns-then-number-count-clause-refused : goal.returns-then-number-count-clause-refused
returns-then-number-count-clause-refused g c is =
    other_count c.args.count c.in-Last.number _ _ (rw c.in-Last.is at c.in_ok-length.ensures.read) (rw c.in-Last.is at c.in_ok-length.ensures.fits) c.if-number-count.true
