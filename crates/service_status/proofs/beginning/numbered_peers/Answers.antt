use Rattle.std.proofs.Common.{length, arith}
use Rattle.service_status.specs.declared.status.PeerStatus.{PeerStatus}
use Rattle.service_status.proofs.SeriesLemmas.{numbered_more, below_more}
use Rattle.service_status.proofs.beginning.numbered_peers.Goals as goal

pub loop-base-preserved : goal.loop-base-preserved
loop-base-preserved c =
    let before = c.loop-base.peers.items in
    record {
      can = tt;
      finite = tt;
      apart = rw c.in_ok-push.ensures.items
          (numbered_more (λ (peer : PeerStatus). peer.number) before _ (length before) c.loop-base.invariant.apart c.loop-base.invariant.below
          (omega (arith, c.len-in-loop-base.ensures)));
      below = rw c.in_ok-push.ensures.items
          (below_more (λ (peer : PeerStatus). peer.number) before _ c.loop-base.invariant.below (omega (arith, c.len-in-loop-base.ensures)));
    }
