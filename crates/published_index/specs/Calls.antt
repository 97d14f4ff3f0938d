-- The calls of one gate, one after the other, and what they make of its pass.
use Rattle.std.specs.Prelude.{◌≡◌, List, [], ◌∷◌}
use Rattle.published_index.specs.declared.faults.GateFault.{GateFault}
use Rattle.published_index.specs.Batches.{Batch}
use Rattle.published_index.specs.Passes.{Pass, Advances, AfterFault, Learns}

-- a receipt of a list was learnt; a reply was made from a front; or an answer was refused
pub data Call : Type 0 where
  Learn : List Batch → Call
  Answer : List Batch → Call
  Refusal : Call

-- what the call makes of the pass, as the contracts of a gate say
abbrev pub Leads : Pass → Call → Pass → Type 0
Leads old (Learn list) new = Learns old list new
Leads old (Answer front) new = Advances old new × (new.front ≡ front)
Leads old Refusal new = (fault : GateFault) × AfterFault fault old new

-- what the calls make of it, one after the other
abbrev pub Calls : Pass → List Call → Pass → Type 0
Calls start [] end = end ≡ start
Calls start (call ∷ calls) end = (mid : Pass) × Leads start call mid × Calls mid calls end
