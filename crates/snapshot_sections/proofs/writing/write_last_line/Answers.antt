use Rattle.snapshot_sections.proofs.Appending.{on_err, no_last_line}
use Rattle.snapshot_sections.proofs.writing.write_last_line.Goals as goal

pub returns-in_err-extend_from_slice-clause-less : goal.returns-in_err-extend_from_slice-clause-less
returns-in_err-extend_from_slice-clause-less g c = on_err _ (no_last_line _ c.args.count)

pub returns-in_err-write_decimal-clause-less : goal.returns-in_err-write_decimal-clause-less
returns-in_err-write_decimal-clause-less g c = on_err _ (no_last_line _ c.args.count)

pub returns-in_err-push-clause-less : goal.returns-in_err-push-clause-less
returns-in_err-push-clause-less g c = on_err _ (no_last_line _ c.args.count)
