use Rattle.std.proofs.Common.{sym, rules}
use Rattle.url.specs.Host.{borrowed_host}
use Rattle.outgoing_requests.proofs.Listed.{left_allowed}
use Rattle.outgoing_requests.proofs.exchanges.addresses_of.Goals as goal

pub returns-in-Ok : goal.returns-in-Ok
returns-in-Ok g c =
    left_allowed c.args.hosts c.in-Some.hosts c.args.url.now (borrowed_host c.in-Some-host.host) c.in_ok-found.found.items c.in-Ok.addresses.items
    c.in-Some.is (search rules) (sym c.in-Some-host.ensures) (search rules)
