-- What a command does to the worlds that a world in memory stands for.
use Rattle.std.specs.Prelude.{◌≡◌, ℕ, List, Some}
use Rattle.replica_events.specs.declared.event.Event.{Event}
use Rattle.replica_events.specs.World.{World}
use Rattle.replica_world.specs.Stands.{Kept, Stands}
use Rattle.replica_world.specs.Fields.{after_empty_lines}
use Rattle.replica_world.specs.Script.{Taking, Command, command_at}
use Rattle.timemap_reader.specs.declared.page.Page.{Page}
use Rattle.replica_world.specs.Output.{Happens, TakesHarvest, TakesPage, Performs}

-- from a world, a text is written and a world reached that the new one stands for
pub record Reaches (writes : World → List ℕ → World → Type 0) (w : World) (text : List ℕ) (new : Kept) : Type 0 where
  pub next : World
  pub written : writes w text next
  pub kept : Stands new next

-- whatever world the old one stands for
abbrev pub ReachesAll : (List ℕ → World → List ℕ → World → Type 0) → Kept → List ℕ → Kept → Type 0
ReachesAll writes old text new =
    (new.base ≡ old.base) × ((w : World) → Stands old w → Reaches (writes old.base) w text new)

-- an event happened, and this was written
abbrev pub IsHappening : Kept → List ℕ → Event → List ℕ → Kept → Type 0
IsHappening old accepted event text new =
    ReachesAll (λ base w text next. Happens base w accepted event text next) old text new

-- a harvest was taken, and this was written
abbrev pub IsHarvestTaken : Kept → Taking → List ℕ → Page → List ℕ → Kept → Type 0
IsHarvestTaken old t original page text new =
    ReachesAll (λ base w text next. TakesHarvest base w t original page text next) old text new

-- a page was taken, and this was written
abbrev pub IsPageTaken : Kept → Taking → List ℕ → Kept → Type 0
IsPageTaken old t text new = ReachesAll (λ base w text next. TakesPage base w t text next) old text new

-- a command was performed, and this was written
abbrev pub IsPerformed : Kept → Command → List ℕ → Kept → Type 0
IsPerformed old command text new = ReachesAll (λ base w text next. Performs base w command text next) old text new

-- the command at the front of a text: what it writes, and the text from the next command on
pub record IsFirstPerformed (old : Kept) (text said rest : List ℕ) (new : Kept) : Type 0 where
  pub command : Command
  pub after : List ℕ
  pub found : command_at text ≡ Some (command, after)
  pub performed : IsPerformed old command said new
  pub rest_is : rest ≡ after_empty_lines after
