-- No script is without an output.
use Rattle.std.proofs.Common.{ℕ, ◌≤◌, ◌⊎◌, List, [], ◌∷◌, ◌++◌, length, Option, Some, None, inl, inr, refl}
use Rattle.std.specs.Prelude.{MatchOption, codes}
use Rattle.std.proofs.Math.Nat.{lt_of_not-le}
use Rattle.memento_time.specs.Text.{IsArchiveName}
use Rattle.timemap_reader.specs.declared.page.Page.{Page}
use Rattle.timegate.specs.Route.{original_at}
use Rattle.replica_events.specs.declared.event.Event.{Event}
use Rattle.replica_events.specs.declared.event.Event.TheVariants.{Take}
use Rattle.replica_events.specs.World.{World, start}
use Rattle.replica_world.specs.Script as script
use Rattle.replica_world.specs.Script.{Command, Taking, Start, script_of}
use Rattle.replica_world.specs.Output.{Happens, RefusedAs, IsPage, TakesHarvest, TakesPage, Performs, Says, Writes, IsOutput, answer_text, taken_line, harvest_of}
use Rattle.replica_events.proofs.Outcomes.{effect_happens}

-- not every text and world is refused
abbrev NotNone : (List ℕ → World → Type 0) → Type 0
NotNone writes = ¬ ((text : List ℕ) (next : World) → ¬ writes text next)

happens_some : (base : List ℕ) (w : World) (accepted : List ℕ) (event : Event) → NotNone (Happens base w accepted event)
happens_some base w accepted event none = effect_happens base w event (λ answer next effect. none (answer_text accepted answer) next (answer, effect, refl))

harvest_some : (base : List ℕ) (w : World) (t : Taking) (original : List ℕ) (page : Page) → NotNone (TakesHarvest base w t original page)
harvest_some base w t original page none = none _ w (inl (no_name, (refl, refl))) where
  few : IsArchiveName t.archive → length page.mementos ≤ 100000 → ⊥
  few name small = happens_some base w (taken_line page) (Take t.replica (harvest_of t original page)) (λ text next happens. none text next (inr (name, inr (small, happens))))

  no_name : ¬ IsArchiveName t.archive
  no_name name = none _ w (inr (name, inl (lt_of_not-le (few name), (refl, refl))))

page_some : (base : List ℕ) (w : World) (t : Taking) → NotNone (TakesPage base w t)
page_some base w t = on (original_at t.original) where
  on : (o : Option (List ℕ)) → NotNone (λ text next. MatchOption o (RefusedAs (codes "bad original") w text next) (λ original.
      (((page : Page) → ¬ (IsPage t.address t.body page)) × RefusedAs (codes "bad page") w text next)
      ⊎ ((page : Page) × IsPage t.address t.body page × TakesHarvest base w t original page text next)))
  on None none = none _ w (refl, refl)
  on (Some original) none = none _ w (inl ((λ page is. harvest_some base w t original page (λ text next takes. none text next (inr (page, is, takes)))), (refl, refl)))

performs_some : (base : List ℕ) (w : World) (command : Command) → NotNone (Performs base w command)
performs_some base w (script.Take t) = page_some base w t
performs_some base w (script.Step event) = happens_some base w _ event

says_some : (base : List ℕ) (w : World) (commands : List Command) → NotNone (Says base w commands)
says_some base w [] none = none [] w (refl, refl)
says_some base w (command ∷ commands) none =
    performs_some base w command (λ first next performs. says_some base next commands (λ later end says. none (first ++ later) end (first, next, later, performs, says, refl)))

writes_some : (begin : Option Start) (commands : List Command) → ¬ ((output : List ℕ) → ¬ Writes begin commands output)
writes_some None commands none = none [] refl
writes_some (Some s) commands none = says_some s.base (start s.replicas) commands (λ text end says. none text (end, says))

-- so a script has an output
pub some_output : (text : List ℕ) → ¬ ((output : List ℕ) → ¬ IsOutput text output)
some_output text = writes_some (script_of text).start (script_of text).commands.list
