use Rattle.std.specs.Prelude.{IfSome}
use Rattle.outgoing_requests.specs.Hosts.{IsListedText}
use Rattle.outgoing_requests.proofs.Listed.{of_any, read_as, text_listed}
use Rattle.outgoing_requests.proofs.exchanges.get.Goals as goal

pub returns-clause-listed : goal.returns-clause-listed
returns-clause-listed g c =
    of_any (IfSome c.args.hosts (λ listed. IsListedText listed.now c.args.url.now)) c.run.result
    (text_listed c.args.hosts c.in-Ok-Some.address c.args.url.now c.in_ok-addresses.addresses.items
    (read_as _ _ _ c.in-Ok-Some.ensures c.in-Ok-Some.field-0-is) c.in_ok-addresses.ensures)
