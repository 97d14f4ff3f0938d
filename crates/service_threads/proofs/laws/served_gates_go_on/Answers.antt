use Rattle.std.proofs.Common.{subst}
use Rattle.gate_server.specs.Gates.{GoesOn}
use Rattle.service_threads.proofs.laws.served_gates_go_on.Goals as goal

pub returns : goal.returns
returns g c = λ switches closed.
    subst (λ from. GoesOn from.gate c.args.later.now.gate.gate.gate.gate.gate.gate) (switches.same closed) switches.later
