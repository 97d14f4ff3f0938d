use Rattle.std.proofs.Common.{◌≡◌}
use Rattle.futures.specs.Task.{Keeps}
use Rattle.futures.specs.Queued.{AllPollable, set_places}
use Rattle.gate_server.proofs.crowds.CrowdFuture.poll.Given as goal

abbrev pub invariant-loop : goal.invariant-loop
invariant-loop g l =
    AllPollable g.O.Served.Future.can_poll (set_places l.self.served) × Keeps l.initial.cx l.cx
    × (l.self.tally.connections ≡ l.initial.self.tally.connections)
