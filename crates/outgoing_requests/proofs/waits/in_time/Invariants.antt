use Rattle.outgoing_requests.proofs.waits.in_time.Given as goal

abbrev pub invariant-loop : goal.invariant-loop
invariant-loop g l = record {
  can : g.F.Future.can_poll l.waiting;
  gives : (x : _) → g.F.Future.gives l.waiting x → g.F.Future.gives l.fn.wanted x;
}
