use Rattle.std.proofs.Common.{◌≡◌}
use Rattle.gate_probe.proofs.climbs.climb.Given as goal

abbrev pub invariant-loop-number : goal.invariant-loop-number
invariant-loop-number g l = record {
  one : l.one.opening ≡ l.merger.opening;
  other : l.other.opening ≡ l.merger.opening;
}
