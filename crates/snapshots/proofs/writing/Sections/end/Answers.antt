use Rattle.snapshot_sections.proofs.Appending.{on_err}
use Rattle.snapshots.proofs.Beginning.{last_line_then}
use Rattle.snapshots.proofs.Sectioning.{all_ended}
use Rattle.snapshots.proofs.writing.Sections.end.Goals as goal

pub returns-clause-ended : goal.returns-clause-ended
returns-clause-ended g c =
    λ start done stands. all_ended start _ _ _ _ _ done (c.in_ok-end_begun.ensures.ended start done stands) c.in_ok-end_begun.ensures.empty c.in_ok-write_last_line.ensures.fits
    c.in_ok-write_last_line.ensures.written

pub returns-in_err-write_last_line-clause-begun : goal.returns-in_err-write_last_line-clause-begun
returns-in_err-write_last_line-clause-begun g c =
    on_err _ (last_line_then _ _ _ _ _ _ _ _ c.in_ok-end_begun.ensures.ended _ c.in_err-write_last_line.ensures.less)
