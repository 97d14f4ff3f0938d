use Rattle.std.proofs.Common.{rules, List, ℕ, sym, subst}
use Rattle.replica_exchange.specs.declared.fault.StateFault.{StateFault}
use Rattle.delta_parts.specs.PartText.{IsPartText, IsPartCause}
use Rattle.outgoing_requests.proofs.pulls.part_in.Goals as goal

pub returns-in-Err-NotState-clause-err : goal.returns-in-Err-NotState-clause-err
returns-in-Err-NotState-clause-err c =
    let cause = subst (λ (f : StateFault). IsPartCause f c.as_slice.result.now) c.in-Err-NotState.field-0-is c.in-Err-NotState.ensures.cause in
    (search rules, λ part brings. cause part (subst (λ (t : List ℕ). IsPartText t part) (sym c.as_slice.ensures) brings.text))
