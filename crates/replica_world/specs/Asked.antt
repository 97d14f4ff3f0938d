-- What two replicas answer to one request after a list of events.
use Rattle.std.specs.Prelude.{◌≡◌, ℕ, List, Ok, zip}
use Rattle.timegate.specs.declared.reply.Reply.{Reply}
use Rattle.timegate.specs.declared.request.Request.{Request}
use Rattle.timegate.specs.Route.{IsOfTaken}
use Rattle.replica_events.specs.declared.event.Event.{Event}
use Rattle.replica_events.specs.declared.event.Event.TheVariants.{Ask}
use Rattle.replica_events.specs.declared.event.Said.TheVariants.{Replied}
use Rattle.replica_world.specs.declared.asked.Asked.{Asked}
use Rattle.replica_events.specs.World.{World, Step, Run, start}
use Rattle.replica_events.specs.History.{LearntAlike}

-- the events lead to one world, in which both replicas are asked; if both have learnt the same harvests and no delta
-- is asked for, their replies are the same
pub record AgreeAfter (base : List ℕ) (count : ℕ) (events : List Event) (q : Request) (i j : ℕ)
    (said : Asked) : Type 0 where
  pub world : World
  pub run : Run base (start count) events said.answers.items world
  pub first : Step base world (Ask i q) said.first world
  pub second : Step base world (Ask j q) said.second world
  pub learnt : (r s : Reply) → IsOfTaken q → LearntAlike (zip events said.answers.items) i j
      → said.first ≡ Ok (Replied r) → said.second ≡ Ok (Replied s) → r ≡ s
