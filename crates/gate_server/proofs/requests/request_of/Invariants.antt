use Rattle.std.proofs.Common.{◌≡◌, ◌++◌, map, codes}
use Rattle.http_header.specs.HeaderMap.{get_all}
use Rattle.gate_server.proofs.requests.request_of.Given as goal

abbrev pub invariant-loop-value : goal.invariant-loop-value
invariant-loop-value g l =
    l.values.items ++ map (λ v. v.bytes) l.value-iterator
    ≡ map (λ v. v.bytes) (get_all l.sent.head.headers (codes "accept-datetime"))
