use Rattle.std.proofs.Common.{◌≡◌, length}
use Rattle.std.specs.Io.KnownBytes.{Consumes}
use Rattle.text_fields.specs.Parts.{Lacks}
use Rattle.snapshot_sections.proofs.reading.read_line.Given as goal

abbrev pub invariant-loop : goal.invariant-loop
invariant-loop g l = Consumes (g.R.Read.remaining l.fn.reader) (g.R.Read.remaining l.reader) l.line.items
    × Lacks 10 l.line.items × (length l.line.items ≡ l.counter)
