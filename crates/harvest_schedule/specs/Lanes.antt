-- What may be asked of an archive, and what asking and answers change.
use Rattle.std.specs.Prelude.{◌≡◌, ◌⊎◌, true, false, ℕ, ◌+◌, ◌-◌, ◌<◌, ◌≤◌, List, [], ◌∷◌, ◌++◌, length, Option, Some, None, IsSome, IsNone, max, remove, if◌then◌else◌, nat_lt, ◌==◌, option_map}
use Rattle.std.specs.List.{position_or_len}
use Rattle.harvest_schedule.specs.declared.moods.Limits.{Limits}
use Rattle.harvest_schedule.specs.declared.moods.Pace.{Pace}
use Rattle.harvest_schedule.specs.declared.moods.Mood.TheVariants.{Awake}
use Rattle.harvest_schedule.specs.declared.moods.Verdict.{Verdict}
use Rattle.harvest_schedule.specs.Moods as moods
use Rattle.harvest_schedule.specs.Standing.{Standing, walks}

-- an archive of which nothing was asked yet
abbrev pub new_standing : ℕ → Pace → Standing
new_standing originals pace = record {
  pace = pace;
  originals = originals;
  next = 0;
  out = [];
  again = [];
  wished = 0;
  mood = Awake 0;
  rest = 0;
  list_next = false;
}

-- a new round begins, in which its list starts anew
abbrev pub after_begin : ℕ → Standing → Standing
after_begin originals s = record s { originals = originals; next = 0; again = [] }

-- the job that is handed out next: one that comes again, or the next of the list
abbrev pub job_by : List ℕ → ℕ → ℕ → Option ℕ
job_by (original ∷ rest) next originals = Some original
job_by [] next originals = if nat_lt next originals then Some next else None

abbrev pub job_of : Standing → Option ℕ
job_of s = job_by s.again s.next s.originals

-- how many jobs are neither handed out nor passed over, those that come again included
abbrev pub left_of : Standing → ℕ
left_of s = s.originals - s.next + length s.again

-- one walk more may begin: not too many are out, and its time has come by its pace and by its mood
pub record MayWalk (now : ℕ) (s : Standing) : Type 0 where
  pub few : walks s < s.pace.at_once
  pub rested : s.rest ≤ now
  pub may : moods.MayAsk now s.mood

-- A walk beyond the list may begin: one walk more may, and the list has no job that goes next.
pub record MayWish (now : ℕ) (s : Standing) : Type 0 where
  pub may : MayWalk now s
  pub turn : s.list_next ≡ true → IsNone (job_of s)

-- a job may be handed out: there is one, and one walk more may begin
pub record IsReady (now : ℕ) (s : Standing) : Type 0 where
  pub job : IsSome (job_of s)
  pub may : MayWalk now s

-- the list without its next job, so that it had its turn
abbrev pub advanced_by : List ℕ → Standing → Standing
advanced_by (original ∷ rest) s = record s { again = rest; list_next = false }
advanced_by [] s = record s { next = s.next + 1; list_next = false }

abbrev pub after_advance : Standing → Standing
after_advance s = advanced_by s.again s

-- the archive is asked at this time
abbrev pub after_asking : ℕ → Standing → Standing
after_asking now s = record s { mood = moods.mood_once_asked s.mood; rest = moods.rest_after s.pace now s.rest }

-- a walk of the archive has ended at this time
abbrev pub after_answer : Limits → ℕ → Verdict → Standing → Standing
after_answer limits now verdict s = record s {
  mood = moods.mood_after limits verdict now s.mood;
  rest = moods.rest_after s.pace now s.rest;
}

-- the next job, which is this original's, is handed out
abbrev pub after_handing : ℕ → ℕ → Standing → Standing
after_handing now original s = after_asking now (record (after_advance s) { out = s.out ++ original ∷ [] })

-- the originals without the first place of one
abbrev pub without : ℕ → List ℕ → List ℕ
without original xs = remove xs (position_or_len (λ x. x == original) xs)

-- the walk of an original has ended
abbrev pub after_end : Limits → ℕ → ℕ → Verdict → Standing → Standing
after_end limits now original verdict s = after_answer limits now verdict (record s {
  out = without original s.out;
  again = (if moods.comes_again limits verdict then s.again ++ original ∷ [] else s.again);
})

-- a walk beyond the list begins, so that the list goes next
abbrev pub walk_begun : ℕ → Standing → Standing
walk_begun now s = after_asking now (record s { wished = s.wished + 1; list_next = true })

-- a walk beyond the list has ended
abbrev pub walk_ended : Limits → ℕ → Verdict → Standing → Standing
walk_ended limits now verdict s = after_answer limits now verdict (record s { wished = s.wished - 1 })

-- the round is over for the archive: no job is out, and none is left, or the archive is dormant until a later time
pub record IsOver (now : ℕ) (s : Standing) : Type 0 where
  pub idle : s.out ≡ []
  pub done : IsNone (job_of s) ⊎ moods.SleepsAt now s.mood

-- the archive is dormant, at whatever time
abbrev pub IsDormant : Standing → Type 0
IsDormant s = moods.is_dormant s.mood

-- the earliest time at which one walk more may begin if nothing else happens, if there is one
abbrev pub walk_from : Standing → Option ℕ
walk_from s = if nat_lt (walks s) s.pace.at_once then option_map (max s.rest) (moods.asked_from s.mood) else None

-- the time after this one from which on a job may be handed out if nothing else happens, if there is one
abbrev pub after : ℕ → Option ℕ → Option ℕ
after now None = None
after now (Some time) = if nat_lt now time then Some time else None

abbrev pub time_by : Option ℕ → ℕ → Standing → Option ℕ
time_by None now s = None
time_by (Some original) now s = after now (walk_from s)

abbrev pub time_after : ℕ → Standing → Option ℕ
time_after now s = time_by (job_of s) now s
