use Rattle.std.proofs.Common.{rules}
use Rattle.snapshot_sections.proofs.Refusals.{ended_line, long_line}
use Rattle.snapshot_sections.proofs.reading.read_line.Goals as goal

pub returns-in_err-byte-clause-refused : goal.returns-in_err-byte-clause-refused
returns-in_err-byte-clause-refused g c is = ended_line _ _ c.loop.line.items c.loop.invariant.0 c.loop.invariant.1 (search rules)

pub returns-clause-refused : goal.returns-clause-refused
returns-clause-refused g c is = long_line _ _ c.loop.line.items c.loop.invariant.0 c.loop.invariant.1 (search rules)
