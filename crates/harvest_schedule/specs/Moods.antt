-- What walks that end tell of an archive, and when it may be asked.
use Rattle.std.specs.Prelude.{ℕ, ◌+◌, ◌^◌, ◌-◌, ◌<◌, ◌≤◌, Bool, false, is_some, min, max, Option, Some, None, if◌then◌else◌, nat_le, ◌==◌, ⊤}
use Rattle.harvest_schedule.specs.declared.moods.Limits.{Limits}
use Rattle.harvest_schedule.specs.declared.moods.Pace.{Pace}
use Rattle.harvest_schedule.specs.declared.moods.Mood.{Mood}
use Rattle.harvest_schedule.specs.declared.moods.Mood.TheVariants.{Awake, Aside, Tried, Dormant, Probed}
use Rattle.harvest_schedule.specs.declared.moods.Verdict.{Verdict}
use Rattle.harvest_schedule.specs.declared.moods.Verdict.TheVariants.{Answered, There, Failed, Unknown, Busy, Later}

-- a time so much later than another, as far as 64 bits count
abbrev pub later : ℕ → ℕ → ℕ
later now span = min (now + span) (2 ^ 64 - 1)

-- from when on the archive may be asked: a walk that finds it out has to end first
abbrev pub asked_from : Mood → Option ℕ
asked_from (Awake failed) = Some 0
asked_from (Aside until failed) = Some until
asked_from (Tried failed) = None
asked_from (Dormant until named) = Some until
asked_from Probed = None

-- at this time the archive may be asked: it is awake, or its time has come
abbrev pub MayAsk : ℕ → Mood → Type 0
MayAsk now (Awake failed) = ⊤
MayAsk now (Aside until failed) = until ≤ now
MayAsk now (Tried failed) = ⊥
MayAsk now (Dormant until named) = until ≤ now
MayAsk now Probed = ⊥

-- Of an archive that was put aside one walk finds out whether it is still busy, and of a dormant one whether it works.
abbrev pub mood_once_asked : Mood → Mood
mood_once_asked (Awake failed) = Awake failed
mood_once_asked (Aside until failed) = Tried failed
mood_once_asked (Tried failed) = Tried failed
mood_once_asked (Dormant until named) = Probed
mood_once_asked Probed = Probed

-- dormant from this time on, and at least until another, which the archive named
abbrev pub dormant : Limits → ℕ → ℕ → Mood
dormant limits now until = Dormant (max until (later now limits.pause)) until

-- After so many failures in a row, if so many are borne: dormant, or the mood that is given. If any number is
-- borne, nothing is waited for.
abbrev pub failing_by : Option ℕ → Limits → ℕ → ℕ → ℕ → Mood → Mood
failing_by None limits now until failed otherwise = Awake failed
failing_by (Some tolerance) limits now until failed otherwise =
    if nat_le tolerance failed then dormant limits now until else otherwise

abbrev pub failing : Limits → ℕ → ℕ → ℕ → Mood → Mood
failing limits now until failed otherwise = failing_by limits.tolerance limits now until failed otherwise

-- one more, as far as 64 bits count
abbrev pub one_more : ℕ → ℕ
one_more n = later n 1

-- An answer wakes the archive, but not before a time that it named: what answers while it is put aside or dormant was
-- asked before.
abbrev pub after_answer : Mood → Mood
after_answer (Awake failed) = Awake 0
after_answer (Aside until failed) = Aside until 0
after_answer (Tried failed) = Awake 0
after_answer (Dormant until named) = Aside named 0
after_answer Probed = Awake 0

-- the row of failures that made an archive dormant
abbrev pub row_of : Option ℕ → ℕ
row_of None = 0
row_of (Some tolerance) = tolerance

-- Put aside until a time that the archive named, after so many failures in a row. If any number is borne, nothing is
-- waited for.
abbrev pub aside_by : Option ℕ → ℕ → ℕ → Mood
aside_by None until failed = Awake failed
aside_by (Some tolerance) until failed = Aside until failed

-- A failure of an archive that is awake or tried counts, and so does `Busy`. What ends while it is put aside or dormant
-- doesn't count, but a later time that it names does. One that is tried without an outcome is tried anew. A probe that
-- brings no sign of the archive makes it dormant anew. What shows no more than that the archive is there leaves the row
-- of failures as it was: a probe that shows it wakes the archive, and one failure more makes it dormant.
abbrev pub mood_after : Limits → Verdict → ℕ → Mood → Mood
mood_after limits Answered now mood = after_answer mood
mood_after limits There now (Awake failed) = Awake failed
mood_after limits There now (Aside until failed) = Aside until failed
mood_after limits There now (Tried failed) = Awake failed
mood_after limits There now (Dormant until named) = Dormant until named
mood_after limits There now Probed = Awake (row_of limits.tolerance)
mood_after limits Failed now (Awake failed) = failing limits now 0 (one_more failed) (Awake (one_more failed))
mood_after limits Failed now (Aside until failed) = Aside until failed
mood_after limits Failed now (Tried failed) = failing limits now 0 (one_more failed) (Awake (one_more failed))
mood_after limits Failed now (Dormant until named) = Dormant until named
mood_after limits Failed now Probed = dormant limits now 0
mood_after limits Unknown now (Awake failed) = Awake failed
mood_after limits Unknown now (Aside until failed) = Aside until failed
mood_after limits Unknown now (Tried failed) = Aside 0 failed
mood_after limits Unknown now (Dormant until named) = Dormant until named
mood_after limits Unknown now Probed = dormant limits now 0
mood_after limits (Busy asked_until) now (Awake failed) =
    failing limits now asked_until (one_more failed) (Aside asked_until (one_more failed))
mood_after limits (Busy asked_until) now (Aside until failed) = Aside (max until asked_until) failed
mood_after limits (Busy asked_until) now (Tried failed) =
    failing limits now asked_until (one_more failed) (Aside asked_until (one_more failed))
mood_after limits (Busy asked_until) now (Dormant until named) = Dormant (max until asked_until) (max named asked_until)
mood_after limits (Busy asked_until) now Probed = dormant limits now asked_until
mood_after limits (Later asked_until) now (Awake failed) = aside_by limits.tolerance asked_until failed
mood_after limits (Later asked_until) now (Aside until failed) = Aside (max until asked_until) failed
mood_after limits (Later asked_until) now (Tried failed) = aside_by limits.tolerance asked_until failed
mood_after limits (Later asked_until) now (Dormant until named) = Dormant (max until asked_until) (max named asked_until)
mood_after limits (Later asked_until) now Probed = aside_by limits.tolerance asked_until (row_of limits.tolerance)

-- the job of a walk that ended so is handed out again: the archive was busy, and may be waited for
abbrev pub comes_again : Limits → Verdict → Bool
comes_again limits Answered = false
comes_again limits There = false
comes_again limits Failed = false
comes_again limits Unknown = false
comes_again limits (Busy until) = is_some limits.tolerance
comes_again limits (Later until) = is_some limits.tolerance

-- from when on an archive may be asked, once it was asked or a walk of it ended
abbrev pub rest_after : Pace → ℕ → ℕ → ℕ
rest_after pace now rest = if pace.every == 0 then rest else max rest (later now pace.every)

-- the archive is dormant, at whatever time
abbrev pub is_dormant : Mood → Type 0
is_dormant (Awake failed) = ⊥
is_dormant (Aside until failed) = ⊥
is_dormant (Tried failed) = ⊥
is_dormant (Dormant until named) = ⊤
is_dormant Probed = ⊥

-- the archive is dormant, and its time hasn't come
abbrev pub SleepsAt : ℕ → Mood → Type 0
SleepsAt now (Awake failed) = ⊥
SleepsAt now (Aside until failed) = ⊥
SleepsAt now (Tried failed) = ⊥
SleepsAt now (Dormant until named) = now < until
SleepsAt now Probed = ⊥
