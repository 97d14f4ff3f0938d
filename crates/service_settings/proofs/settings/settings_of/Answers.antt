use Rattle.service_settings.proofs.ThreadLemmas.{few_of_each}
use Rattle.service_settings.proofs.settings.settings_of.Goals as goal

pub invariant_of-result : goal.invariant_of-result
invariant_of-result c = record {
  few_gates = c.in_ok-gates.ensures;
  few_connections = c.in_ok-connections.ensures;
  few_rounds = c.in_ok-rounds.ensures;
  short_pause = c.in_ok-pause.ensures;
  few_originals = c.in_ok-originals.ensures;
  few_peers = c.in_ok-peers.ensures.few;
  reached_peers = c.in_ok-peers.ensures.reached;
  few_archives = c.in_ok-archives.ensures.few;
  few_of_each = few_of_each c.number_if-walks.result c.in_ok-walks.field-0 c.most_at_once.result c.new-threads.result.stacks
      c.in_ok-archives.archives.items c.most_at_once.ensures.read c.in_ok-walks.was c.new-threads.ensures.stacks
      c.in_ok-archives.ensures.at_once;
  fair_patience = c.in_ok-patience.ensures;
  few_at_once = c.in_ok-own.ensures.at_once;
  few_hosts = c.in_ok-hosts.ensures;
}
