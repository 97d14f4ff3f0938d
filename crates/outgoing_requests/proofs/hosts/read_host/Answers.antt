use Rattle.std.proofs.Common.{rules, tests}
use Rattle.outgoing_requests.proofs.Listed.{read_as, spelled, spells_none}
use Rattle.outgoing_requests.proofs.hosts.read_host.Goals as goal

pub returns-then-not-has_host_written : goal.returns-then-not-has_host_written
returns-then-not-has_host_written c =
    spells_none c.args.text.now c.in-Some.url (read_as _ _ _ c.in_ok-url.ensures c.in-Some.is) (λ same. search (rules, tests))

pub returns : goal.returns
returns c =
    spelled c.args.text.now c.in-Some.url c.entry_of.result (read_as _ _ _ c.in_ok-url.ensures c.in-Some.is) (search (rules, tests)) c.entry_of.ensures
