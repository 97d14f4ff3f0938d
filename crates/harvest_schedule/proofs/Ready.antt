-- When a job may be handed out if nothing else happens.
use Rattle.std.proofs.Common.{◌≡◌, ℕ, ◌≤◌, Bool, true, false, nat_lt, Option, Some, None, IfSome, IsSome, if◌then◌else◌, max, option_map, refl, sym, subst, arith, rules}
use Rattle.std.proofs.lemmas.Bool.{false≢true, ltb-false, ltb-true}
use Rattle.std.proofs.lemmas.Option.{none-some}
use Rattle.harvest_schedule.specs.declared.moods.Mood.{Mood}
use Rattle.harvest_schedule.specs.declared.moods.Mood.TheVariants.{Awake, Aside, Tried, Dormant, Probed}
use Rattle.harvest_schedule.specs.Moods.{MayAsk, asked_from}
use Rattle.harvest_schedule.specs.Standing.{Standing, walks}
use Rattle.harvest_schedule.specs.Lanes.{IsReady, MayWalk, after, job_of, time_after, time_by, walk_from}
use Rattle.harvest_schedule.specs.Runs.{AllTimed, IsFirstTime}

-- it holds from this time on, and not before, or never
abbrev HoldsFrom : Option ℕ → (ℕ → Type 0) → Type 0
HoldsFrom None P = (time : ℕ) → P time → ⊥
HoldsFrom (Some start) P = (time : ℕ) → (P time → start ≤ time) × (start ≤ time → P time)

mood_holds : (mood : Mood) → HoldsFrom (asked_from mood) (λ time. MayAsk time mood)
mood_holds (Awake failed) = λ time. (λ may. omega arith, λ le. search rules)
mood_holds (Aside until failed) = λ time. (λ may. may, λ le. le)
mood_holds (Tried failed) = λ time may. may
mood_holds (Dormant until named) = λ time. (λ may. may, λ le. le)
mood_holds Probed = λ time may. may

walk_by : (b : Bool) (o : Option ℕ) (s : Standing) → nat_lt (walks s) s.pace.at_once ≡ b → HoldsFrom o (λ time. MayAsk time s.mood)
    → HoldsFrom (if b then option_map (max s.rest) o else None) (λ time. MayWalk time s)
walk_by false o s e h = λ time may. let f = may.few in let g = ltb-false (walks s) s.pace.at_once e in absurd (omega (arith, f, g))
walk_by true None s e h = λ time may. h time may.may
walk_by true (Some start) s e h = λ time. (
  λ may. let r = may.rested in let m = (h time).0 may.may in omega (arith, r, m),
  λ le. record { few = ltb-true (walks s) s.pace.at_once e; rested = omega (arith, le); may = (h time).1 (omega (arith, le)) },
)

walk_holds : (s : Standing) → HoldsFrom (walk_from s) (λ time. MayWalk time s)
walk_holds s = walk_by (nat_lt (walks s) s.pace.at_once) (asked_from s.mood) s refl (mood_holds s.mood)

record IsTimed (now : ℕ) (o : Option ℕ) (s : Standing) : Type 0 where
  some : IfSome o (λ time. IsFirstTime now time s)
  none : o ≡ None → (later : ℕ) → now ≤ later → IsReady later s → IsReady now s

after_by : (b : Bool) (now start : ℕ) (s : Standing) → nat_lt now start ≡ b → IsSome (job_of s) → HoldsFrom (Some start) (λ time. MayWalk time s)
    → IsTimed now (if b then Some start else None) s
after_by true now start s e job h = record {
  some = record {
    later = ltb-true now start e;
    ready = record { job = job; may = (h start).1 (omega arith) };
    early = λ before lt ready. let le = (h before).0 ready.may in absurd (omega (arith, lt, le));
  };
  none = λ e. absurd (none-some start (sym e));
}
after_by false now start s e job h = record {
  some = search rules;
  none = λ _. λ later le ready. record { job = job; may = (h now).1 (ltb-false now start e) };
}

walk_timed : (o : Option ℕ) (now : ℕ) (s : Standing) → IsSome (job_of s) → HoldsFrom o (λ time. MayWalk time s) → IsTimed now (after now o) s
walk_timed None now s job h = record { some = search rules; none = λ _. λ later le ready. absurd (h later ready.may) }
walk_timed (Some start) now s job h = after_by (nat_lt now start) now start s refl job h

none_job : (o : Option ℕ) → None ≡ o → IsSome o → ⊥
none_job None e some = false≢true some
none_job (Some n) e some = none-some n e

job_timed : (o : Option ℕ) (now : ℕ) (s : Standing) → o ≡ job_of s → IsTimed now (time_by o now s) s
job_timed None now s is = record { some = search rules; none = λ _. λ later le ready. absurd (none_job (job_of s) is ready.job) }
job_timed (Some original) now s is = walk_timed (walk_from s) now s (subst (λ o. IsSome o) is refl) (walk_holds s)

pub all_timed : AllTimed
all_timed now s = (let t : IsTimed now (time_after now s) s = job_timed (job_of s) now s refl in (t.some, t.none))
