use Rattle.std.proofs.Common.{◌≡◌, ◌++◌, map}
use Rattle.http_header.specs.HeaderMap.{get_all}
use Rattle.http_header.specs.Token.{lowercase}
use Rattle.outgoing_requests.proofs.exchanges.values_of.Given as goal

abbrev pub invariant-loop-value : goal.invariant-loop-value
invariant-loop-value l =
    l.values.items ++ map (λ v. v.bytes) l.value-iterator ≡ map (λ v. v.bytes) (get_all l.head.headers (lowercase l.name))
