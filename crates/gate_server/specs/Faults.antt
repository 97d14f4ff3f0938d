-- The words of faults.
use Rattle.std.specs.Prelude.{ℕ, List, codes}
use Rattle.gate_server.specs.declared.faults.FormFault.{FormFault}
use Rattle.gate_server.specs.declared.faults.FormFault.TheVariants as form
use Rattle.gate_server.specs.declared.faults.RespondFault.{RespondFault}
use Rattle.gate_server.specs.declared.faults.RespondFault.TheVariants as respond
use Rattle.gate_server.specs.declared.faults.EdgeFault.{EdgeFault}
use Rattle.gate_server.specs.declared.faults.EdgeFault.TheVariants as edge

-- why a reply has no form
abbrev pub form_words : FormFault → List ℕ
form_words form.NoForm = codes "a reply that HTTP can't carry"
form_words form.NoMemory = codes "no memory"

-- why a service gives no response
abbrev pub respond_words : RespondFault → List ℕ
respond_words respond.Closed = codes "a closed gate"
respond_words respond.NoForm = codes "a reply that HTTP can't carry"
respond_words respond.NoMemory = codes "no memory"

-- why a gate isn't served
abbrev pub edge_words : EdgeFault → List ℕ
edge_words edge.Bind = codes "an address that can't be bound"
edge_words edge.Accept = codes "no further connection"
edge_words edge.NoMemory = codes "no memory"
