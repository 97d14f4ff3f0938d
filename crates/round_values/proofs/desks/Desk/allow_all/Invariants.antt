use Rattle.std.proofs.Common.{◌≡◌, ◌++◌, true, map, take, drop}
use Rattle.round_values.proofs.desks.Desk.allow_all.Given as goal

abbrev pub invariant-loop-may : goal.invariant-loop-may
invariant-loop-may l = l.may-items ≡ map (λ _. true) (take l.may-index l.initial.may-items) ++ drop l.may-index l.initial.may-items
