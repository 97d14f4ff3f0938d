-- How often archives may be asked, and what a round passes over.
use Rattle.std.specs.Prelude.{◌≡◌, ◌↔◌, ◌+◌, ◌-◌, ◌*◌, ◌^◌, ◌<◌, ◌≤◌, ℕ, Bool, All, IsSomeAnd, IsTrue, [], map, min, MatchBool, slice_get, unwrap_or}
use Rattle.std.specs.List.{sum_by}
use Rattle.std.specs.Option.{option_map_or}
use Rattle.harvest_schedule.specs.declared.moods.Limits.{Limits}
use Rattle.harvest_schedule.specs.declared.moods.Pace.{Pace}
use Rattle.harvest_schedule.specs.declared.schedules.Schedule.{Schedule}
use Rattle.harvest_schedule.specs.Lanes.{after_begin, left_of, new_standing}
use Rattle.round_values.specs.Absences.{IsAsked}
use Rattle.round_values.specs.declared.absences.Absences.{Absences}
use Rattle.service_settings.specs.declared.archives.Archive.{Archive}
use Rattle.service_settings.specs.declared.settings.Settings.{Settings}

-- An archive with a time between two requests is walked one at a time. Any other is walked as often at once as the
-- settings say of it, or of all.
abbrev pub pace_of : Settings → Archive → Pace
pace_of settings archive = option_map_or (λ every. record { at_once = 1; every = every })
    archive.every
    (record { at_once = unwrap_or archive.at_once settings.asking.at_once; every = 0 })

-- after how many failures an archive sleeps, and for how many milliseconds, as far as 64 bits count
abbrev pub limits_of : Settings → Limits
limits_of settings = record { tolerance = settings.asking.tolerance; pause = min (settings.asking.dormant * 1000) (2 ^ 64 - 1) }

-- the schedule of these settings before the first round, in which no archive has a job
pub record IsNew (settings : Settings) (schedule : Schedule) : Type 0 where
  pub limits : schedule.limits ≡ limits_of settings
  pub lanes : schedule.lanes.items ≡ map (new_standing 0) (map (pace_of settings) settings.archives.items)

-- A round begins, in which each archive is asked for so many originals, unless a job is out: then nothing changes.
pub record Begins (originals : ℕ) (old new : Schedule) : Type 0 where
  pub is_begun : Bool
  pub idle : IsTrue is_begun ↔ All (λ s. s.out ≡ []) old.lanes.items
  pub lanes : MatchBool is_begun (new.lanes.items ≡ map (after_begin originals) old.lanes.items)
      (new.lanes.items ≡ old.lanes.items)

-- how many jobs of all archives are neither handed out nor passed over
abbrev pub left_in : Schedule → ℕ
left_in schedule = sum_by left_of schedule.lanes.items

-- So many jobs are passed over by then: those that are no longer left, and as many as 64 bits count.
pub record Passes (before : ℕ) (old : Schedule) (passed : ℕ) (new : Schedule) : Type 0 where
  pub left : left_in new ≤ left_in old
  pub most : passed ≤ before + (left_in old - left_in new)
  pub counted : before + (left_in old - left_in new) < 2 ^ 64 → passed ≡ before + (left_in old - left_in new)

-- nothing happens to any other archive than this
abbrev pub IsAt : ℕ → Schedule → Schedule → Type 0
IsAt archive old new = (place : ℕ) → ¬ (place ≡ archive) → slice_get new.lanes.items place ≡ slice_get old.lanes.items place

-- nothing happens to archives that a round asks
abbrev pub LeavesAsked : Absences → Schedule → Schedule → Type 0
LeavesAsked absences old new = (place : ℕ) → IsSomeAnd (slice_get absences.archives.items place) IsAsked
    → slice_get new.lanes.items place ≡ slice_get old.lanes.items place
