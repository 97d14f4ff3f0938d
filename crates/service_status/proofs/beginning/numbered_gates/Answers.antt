use Rattle.std.proofs.Common.{◌≤◌, ◌+◌, refl, arith}
use Rattle.std.proofs.lemmas.List.Elements.{All-push, All-weaker}
use Rattle.service_status.specs.declared.status.GateStatus.{GateStatus}
use Rattle.service_status.proofs.SeriesLemmas.{numbered_more}
use Rattle.service_status.proofs.beginning.numbered_gates.Goals as goal

pub loop-place-preserved : goal.loop-place-preserved
loop-place-preserved c =
    let before = c.loop-place.gates.items in
    let place = c.loop-place.place in
    record {
      apart = rw c.in_ok-push.ensures.items (numbered_more (λ (gate : GateStatus). gate.number) before _ place c.loop-place.invariant.apart c.loop-place.invariant.below refl);
      below = rw c.in_ok-push.ensures.items
          (All-push (λ (gate : GateStatus). gate.number ≤ place + 1) before _
          (All-weaker (λ (gate : GateStatus). gate.number ≤ place) (λ (gate : GateStatus). gate.number ≤ place + 1) (λ gate least. omega (arith, least)) before c.loop-place.invariant.below)
          (omega arith));
    }
