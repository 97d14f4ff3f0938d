-- Which archives were absent from a round, and what follows it.
use Rattle.std.specs.Prelude.{◌≡◌, ◌↔◌, ⊤, ℕ, ◌-◌, ◌*◌, ◌^◌, ◌==◌, Bool, true, if◌then◌else◌, min, List, [], ◌∷◌, Contains, Some, None, IsSome}
use Rattle.std.specs.List.{sum_by}
use Rattle.service_settings.specs.declared.asking.Asking.{Asking}
use Rattle.service_settings.specs.declared.settings.Settings.{Settings}
use Rattle.round_values.specs.declared.absences.Absences.{Absences}
use Rattle.round_values.specs.declared.absences.Next.{Next}
use Rattle.round_values.specs.declared.absences.Presence.{Presence}
use Rattle.round_values.specs.declared.absences.Presence.TheVariants as presence
use Rattle.round_values.specs.declared.absences.Scope.{Scope}
use Rattle.round_values.specs.declared.absences.Scope.TheVariants.{All, Absent}

-- so many seconds in milliseconds, as far as 64 bits count
abbrev pub in_ms : ℕ → ℕ
in_ms seconds = min (seconds * 1000) (2 ^ 64 - 1)

abbrev pub pause_ms : Settings → ℕ
pause_ms settings = in_ms settings.pause

-- what an archive is when a round begins that has something to ask for
abbrev pub presence_by : Scope → Presence → Presence
presence_by All before = presence.Absent
presence_by Absent presence.NotAsked = presence.NotAsked
presence_by Absent presence.Absent = presence.Absent
presence_by Absent presence.Present = presence.NotAsked

-- and when one begins that asks for so many originals
abbrev pub presence_at : Scope → ℕ → Presence → Presence
presence_at scope originals before = if originals == 0 then presence.NotAsked else presence_by scope before

-- once a job of it was answered or passed over
abbrev pub noted : Presence → Presence
noted presence.NotAsked = presence.NotAsked
noted presence.Absent = presence.Present
noted presence.Present = presence.Present

-- the round asks it
abbrev pub IsAsked : Presence → Type 0
IsAsked presence.NotAsked = ⊥
IsAsked presence.Absent = ⊤
IsAsked presence.Present = ⊤

-- the rest of the pause passes, and then all archives are asked
abbrev pub whole : ℕ → Next
whole left = record { wait = left; scope = All }

-- What follows a round after which so much is left of the pause: with a tolerance, absent archives are asked after they
-- slept, if all aren't asked before.
pub record Follows (asking : Asking) (left : ℕ) (IsAbsent : Type 0) (next : Next) : Type 0 where
  pub none_absent : ¬ IsAbsent → next ≡ whole left
  pub intolerant : asking.tolerance ≡ None → next ≡ whole left
  pub absent : IsAbsent → IsSome asking.tolerance → next.wait ≡ min (in_ms asking.dormant) left
  pub scope : (next.scope ≡ All) ↔ (next.wait ≡ left)

-- how much is left of the pause when a round is over
abbrev pub left_after : Scope → ℕ → ℕ → ℕ
left_after All pause left = pause
left_after Absent pause left = left

abbrev pub left_at : Settings → Absences → ℕ
left_at settings it = left_after it.scope (pause_ms settings) it.left

-- a round is over, and so much is waited before the next one
pub record Ends (settings : Settings) (old : Absences) (wait : ℕ) (new : Absences) : Type 0 where
  pub archives : new.archives ≡ old.archives
  pub follows : Follows settings.asking (left_at settings old) (Contains old.archives.items presence.Absent)
      (record { wait = wait; scope = new.scope })
  pub left : new.left ≡ left_at settings old - wait

-- what follows the rounds of a pause, one after the other: rounds that ask absent archives alone, and behind them one
-- that asks all
abbrev pub IsPause : Asking → ℕ → List Next → Type 0
IsPause asking left [] = ⊥
IsPause asking left (next ∷ []) =
    (next.scope ≡ All) × ((some_absent : Bool) × Follows asking left (some_absent ≡ true) next)
IsPause asking left (next ∷ another ∷ rest) =
    (next.scope ≡ Absent) × ((some_absent : Bool) × Follows asking left (some_absent ≡ true) next)
    × IsPause asking (left - next.wait) (another ∷ rest)

abbrev pub wait_of : Next → ℕ
wait_of next = next.wait

-- this holds of each that asks absent archives alone
abbrev pub WaitsAre : ℕ → List Next → Type 0
WaitsAre wait [] = ⊤
WaitsAre wait (next ∷ rest) = (next.scope ≡ Absent → next.wait ≡ wait) × WaitsAre wait rest

-- However often absent archives are asked meanwhile, from one round that asks all to the next one the service waits
-- for the whole pause, and absent archives are asked each time that they slept, no sooner.
pub record PausesAreWhole : Type 0 where
  pub sum_is : (asking : Asking) (left : ℕ) (rounds : List Next) → IsPause asking left rounds
      → sum_by wait_of rounds ≡ left
  pub waits : (asking : Asking) (left : ℕ) (rounds : List Next) → IsPause asking left rounds
      → WaitsAre (in_ms asking.dormant) rounds

-- worked examples: archives are dormant for ten minutes, and so much is left of a pause
pub record ArePauses : Type 0 where
  pub an_hour : (asking : Asking) (next : Next) → asking.tolerance ≡ Some 5 → asking.dormant ≡ 600
      → Follows asking 3600000 ⊤ next → next ≡ record { wait = 600000; scope = Absent }
  pub ten_minutes : (asking : Asking) (next : Next) → asking.tolerance ≡ Some 5 → asking.dormant ≡ 600
      → Follows asking 600000 ⊤ next → next ≡ record { wait = 600000; scope = All }
  pub a_minute : (asking : Asking) (next : Next) → asking.tolerance ≡ Some 5 → asking.dormant ≡ 600
      → Follows asking 60000 ⊤ next → next ≡ record { wait = 60000; scope = All }
  pub all_there : (asking : Asking) (next : Next) → asking.tolerance ≡ Some 5 → asking.dormant ≡ 600
      → Follows asking 3600000 ⊥ next → next ≡ record { wait = 3600000; scope = All }
  pub intolerant : (asking : Asking) (next : Next) → asking.tolerance ≡ None → asking.dormant ≡ 600
      → Follows asking 3600000 ⊤ next → next ≡ record { wait = 3600000; scope = All }
