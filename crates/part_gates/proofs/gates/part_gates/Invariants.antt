use Rattle.std.proofs.Common.{◌≡◌, All, map}
use Rattle.part_gates.proofs.gates.part_gates.Given as goal

abbrev pub invariant-loop-gate : goal.invariant-loop-gate
invariant-loop-gate g l = (map (λ it. it.gate) l.made.items ≡ l.yielded) × All (λ it. it.room ≡ l.room) l.made.items
    × All (λ gate. gate.base ≡ g.B.NamesBase.base) l.gate-iterator.rest.items
