use Rattle.std.proofs.Common.{◌≡◌, [], map}
use Rattle.harvest_lattice.specs.Rows.{lent_entry}
use Rattle.delta_parts.specs.Filling.{HasLines, IsLast, lent_key}
use Rattle.delta_parts.proofs.lines.Lines.fill.Given as goal

abbrev pub invariant-loop-archive : goal.invariant-loop-archive
invariant-loop-archive l = record {
  lines : HasLines l.stamped l.start (map lent_entry l.yielded) [] l.self.text.items 0 l.self.count;
  last : IsLast (lent_key l.last) (map lent_entry l.yielded);
}
