-- What a pull takes of a peer's answer.
use Rattle.std.specs.Prelude.{◌≡◌, ◌≢◌, ◌≤◌, ◌<◌, length}
use Rattle.replica_exchange.specs.declared.delta.Delta.{Delta}
use Rattle.replica_exchange.specs.DeltaText.{IsDeltaText}
use Rattle.replica_exchange.specs.Faults.{longest_text}
use Rattle.harvester.specs.declared.fetches.Answer.{Answer}
use Rattle.outgoing_requests.specs.declared.faults.PullFault.{PullFault}
use Rattle.outgoing_requests.specs.declared.faults.PullFault.TheVariants.{Failed, Status, BadState, TooLong, NoMemory}
use Rattle.outgoing_requests.specs.declared.pulls.Pulled.{Pulled}
use Rattle.outgoing_requests.specs.declared.pulls.Pulled.TheVariants.{Whole, InPart}
use Rattle.delta_parts.specs.declared.part.Part.{Part}
use Rattle.delta_parts.specs.PartText.{IsPartText, IsTooLong}

-- the answer is 200 with the delta's text, in either format, which isn't too long
pub record Brings (answer : Answer) (delta : Delta) : Type 0 where
  pub status : answer.status ≡ 200
  pub text : IsDeltaText answer.body delta
  pub within : length answer.body ≤ longest_text

-- some answer brings the delta: it has a text that isn't too long
abbrev pub IsBrought : Delta → Type 0
IsBrought delta = (answer : Answer) × Brings answer delta

-- Why an answer brings no delta: first its status, and then its body. Memory is asked for only to read a body.
abbrev pub IsRefusedFor : Answer → PullFault → Type 0
IsRefusedFor answer (Status status) = (answer.status ≡ status) × (status ≢ 200)
IsRefusedFor answer BadState = (answer.status ≡ 200) × ((delta : Delta) → ¬ (Brings answer delta))
IsRefusedFor answer TooLong = (answer.status ≡ 200) × (longest_text < length answer.body)
IsRefusedFor answer NoMemory = answer.status ≡ 200
IsRefusedFor answer Failed = ⊥

-- the answer is 200 with the text of a part of a delta
pub record BringsPart (answer : Answer) (part : Part) : Type 0 where
  pub status : answer.status ≡ 200
  pub text : IsPartText answer.body part

-- some answer brings the part
abbrev pub IsPartBrought : Part → Type 0
IsPartBrought part = (answer : Answer) × BringsPart answer part

-- why an answer brings no part
abbrev pub IsPartRefusedFor : Answer → PullFault → Type 0
IsPartRefusedFor answer (Status status) = (answer.status ≡ status) × (status ≢ 200)
IsPartRefusedFor answer BadState = (answer.status ≡ 200) × ((part : Part) → ¬ (BringsPart answer part))
IsPartRefusedFor answer TooLong = (answer.status ≡ 200) × IsTooLong answer.body
IsPartRefusedFor answer NoMemory = answer.status ≡ 200
IsPartRefusedFor answer Failed = ⊥

-- what a peer is asked for, and what it gave: a delta, or a part of one
abbrev pub IsPulled : Pulled → Type 0
IsPulled (Whole delta) = IsBrought delta
IsPulled (InPart part) = IsPartBrought part
