use Rattle.std.proofs.Common.{◌≡◌, ◌-◌, ◌^◌, map, min}
use Rattle.harvest_lattice.specs.Rows.{lent_entry}
use Rattle.round_values.proofs.AheadLemmas.{ahead_in}
use Rattle.round_values.proofs.ahead.count_ahead.Given as goal

abbrev pub invariant-loop-row : goal.invariant-loop-row
invariant-loop-row l = l.count ≡ min (ahead_in l.last.0 (map lent_entry l.yielded)) (2 ^ 64 - 1)
