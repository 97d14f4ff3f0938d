use Rattle.std.proofs.Common.{◌≡◌, length, true}
use Rattle.std.specs.Prelude.{All}
use Rattle.service_settings.specs.Peers.{is_reached}
use Rattle.service_settings.proofs.values.peers_at.Given as goal

abbrev pub invariant-loop-value : goal.invariant-loop-value
invariant-loop-value l = record {
  count : length l.peers.items ≡ l.value-index;
  reached : All (λ peer. is_reached peer ≡ true) l.peers.items;
}
