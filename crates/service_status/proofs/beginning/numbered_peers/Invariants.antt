use Rattle.std.proofs.Common.{◌≤◌, length}
use Rattle.std.specs.Prelude.{All}
use Rattle.service_status.specs.declared.status.PeerStatus.{PeerStatus}
use Rattle.service_status.specs.Series.{AreApart}
use Rattle.service_status.proofs.beginning.numbered_peers.Given as goal

-- so far the numbers are apart, and none is greater than how many there are
abbrev pub invariant-loop-base : goal.invariant-loop-base
invariant-loop-base l = record {
  can : (goal.iterator-loop-base).can_next l.base-iterator;
  finite : (goal.iterator-loop-base).is_finite l.base-iterator;
  apart : AreApart (λ (peer : PeerStatus). peer.number) l.peers.items;
  below : All (λ (peer : PeerStatus). peer.number ≤ length l.peers.items) l.peers.items;
}
