use Rattle.aggregator.proofs.check.check.Goals as goal

pub invariant_of-settings : goal.invariant_of-settings
invariant_of-settings g c = record {
  few_gates = c.in_ok-settings.settings.few_gates;
  few_connections = c.in_ok-settings.settings.few_connections;
  few_rounds = c.in_ok-settings.settings.few_rounds;
  short_pause = c.in_ok-settings.settings.short_pause;
  few_originals = c.in_ok-settings.settings.few_originals;
  few_peers = c.in_ok-settings.settings.few_peers;
  reached_peers = c.in_ok-settings.settings.reached_peers;
  few_archives = c.in_ok-settings.settings.few_archives;
  few_of_each = c.in_ok-settings.settings.few_of_each;
  fair_patience = c.in_ok-settings.settings.fair_patience;
  few_at_once = c.in_ok-settings.settings.few_at_once;
  few_hosts = c.in_ok-settings.settings.few_hosts;
}

pub invariant_of-settings-2 : goal.invariant_of-settings-2
invariant_of-settings-2 g c = record {
  few_gates = c.in_ok-settings.settings.few_gates;
  few_connections = c.in_ok-settings.settings.few_connections;
  few_rounds = c.in_ok-settings.settings.few_rounds;
  short_pause = c.in_ok-settings.settings.short_pause;
  few_originals = c.in_ok-settings.settings.few_originals;
  few_peers = c.in_ok-settings.settings.few_peers;
  reached_peers = c.in_ok-settings.settings.reached_peers;
  few_archives = c.in_ok-settings.settings.few_archives;
  few_of_each = c.in_ok-settings.settings.few_of_each;
  fair_patience = c.in_ok-settings.settings.fair_patience;
  few_at_once = c.in_ok-settings.settings.few_at_once;
  few_hosts = c.in_ok-settings.settings.few_hosts;
}

pub invariant_of-settings-in_err-say_what_they_hold : goal.invariant_of-settings-in_err-say_what_they_hold
invariant_of-settings-in_err-say_what_they_hold g c = record {
  few_gates = c.in_ok-settings.settings.few_gates;
  few_connections = c.in_ok-settings.settings.few_connections;
  few_rounds = c.in_ok-settings.settings.few_rounds;
  short_pause = c.in_ok-settings.settings.short_pause;
  few_originals = c.in_ok-settings.settings.few_originals;
  few_peers = c.in_ok-settings.settings.few_peers;
  reached_peers = c.in_ok-settings.settings.reached_peers;
  few_archives = c.in_ok-settings.settings.few_archives;
  few_of_each = c.in_ok-settings.settings.few_of_each;
  fair_patience = c.in_ok-settings.settings.fair_patience;
  few_at_once = c.in_ok-settings.settings.few_at_once;
  few_hosts = c.in_ok-settings.settings.few_hosts;
}
