-- No archive is asked before its time.
use Rattle.std.proofs.Common.{◌≡◌, ℕ, ◌<◌, ◌≤◌, ◌==◌, Bool, true, false, nat_le, List, [], ◌∷◌, Option, Some, None, IsSome, if◌then◌else◌, max, refl, sym, ap, subst, arith, rules}
use Rattle.std.specs.Prelude.{⊤}
use Rattle.std.proofs.lemmas.Bool.Decides.{nat_tests}
use Rattle.std.proofs.lemmas.Bool.{false≢true}
use Rattle.harvest_schedule.specs.declared.moods.Limits.{Limits}
use Rattle.harvest_schedule.specs.declared.moods.Pace.{Pace}
use Rattle.harvest_schedule.specs.declared.moods.Mood.{Mood}
use Rattle.harvest_schedule.specs.declared.moods.Mood.TheVariants.{Awake, Aside, Tried, Dormant, Probed}
use Rattle.harvest_schedule.specs.declared.moods.Verdict.{Verdict}
use Rattle.harvest_schedule.specs.declared.moods.Verdict.TheVariants.{Answered, There, Failed, Unknown, Busy, Later}
use Rattle.harvest_schedule.specs.Moods as moods
use Rattle.harvest_schedule.specs.Standing.{Standing}
use Rattle.harvest_schedule.specs.Lanes.{MayWalk, after_advance}
use Rattle.harvest_schedule.specs.Steps.{Act, Begun, Can, Ended, Handed, Passed, WalkBegun, WalkEnded, after_act}
use Rattle.harvest_schedule.specs.Runs.{AllHeeded, AllPaced, AllTried, AllWait, AreLeft, AreNoEnds, AreQuiet, IsAsked, IsBusy, IsLeft, IsMet, IsNoAnswer, IsNoEnd, IsQuiet, Leads, Names, WaitsUntil}
use Rattle.harvest_schedule.proofs.Acts.{Advances, advances}

-- ---- the pace

rest_grows_by : (b : Bool) (rest time : ℕ) → rest ≤ (if b then rest else max rest time)
rest_grows_by true rest time = omega arith
rest_grows_by false rest time = omega arith

rest_grows : (pace : Pace) (now rest : ℕ) → rest ≤ moods.rest_after pace now rest
rest_grows pace now rest = rest_grows_by (pace.every == 0) rest (moods.later now pace.every)

rest_waits_by : (b : Bool) (rest time : ℕ) → b ≡ false → time ≤ (if b then rest else max rest time)
rest_waits_by b rest time e = rw e (omega arith)

rest_waits : (pace : Pace) (now rest : ℕ) → 0 < pace.every → moods.later now pace.every ≤ moods.rest_after pace now rest
rest_waits pace now rest some =
    let e : (pace.every == 0) ≡ false = grind (arith, nat_tests, some) in
    rest_waits_by (pace.every == 0) rest (moods.later now pace.every) e

record Rests (s t : Standing) : Type 0 where
  pace : t.pace ≡ s.pace
  rest : s.rest ≤ t.rest

rests_by : (limits : Limits) (act : Act) (s : Standing) → Can act s → Rests s (after_act limits act s)
rests_by limits (Handed now original) s can =
    let a : Advances 0 original s (after_advance s) = advances 0 original s can.1 in
    let e = a.rest in
    let g = rest_grows (after_advance s).pace now (after_advance s).rest in
    record { pace = a.pace; rest = omega (arith, e, g) }
rests_by limits (Passed original) s can =
    let a : Advances 0 original s (after_advance s) = advances 0 original s can in
    let e = a.rest in
    record { pace = a.pace; rest = omega (arith, e) }
rests_by limits (Ended now original verdict) s can = record { pace = refl; rest = rest_grows s.pace now s.rest }
rests_by limits (WalkBegun now) s can = record { pace = refl; rest = rest_grows s.pace now s.rest }
rests_by limits (WalkEnded now verdict) s can = record { pace = refl; rest = rest_grows s.pace now s.rest }
rests_by limits (Begun originals) s can = record { pace = refl; rest = omega arith }

rests : (limits : Limits) (acts : List Act) (s t : Standing) → Leads limits acts s t → s.rest ≤ t.rest
rests limits [] s t leads = subst (λ (t : Standing). s.rest ≤ t.rest) (sym leads) (omega arith)
rests limits (act ∷ acts) s t leads =
    let r : Rests s (after_act limits act s) = rests_by limits act s leads.0 in
    let a = r.rest in
    let b = rests limits acts (after_act limits act s) t leads.1 in
    omega (arith, a, b)

met_rests : (limits : Limits) (act : Act) (s : Standing) (before : ℕ) → 0 < s.pace.every → IsMet before act → Can act s
    → moods.later before s.pace.every ≤ (after_act limits act s).rest
met_rests limits (Handed now original) s before some met can =
    let a : Advances 0 original s (after_advance s) = advances 0 original s can.1 in
    let every : (after_advance s).pace.every ≡ s.pace.every = ap (λ (p : Pace). p.every) a.pace in
    let w = rest_waits (after_advance s).pace now (after_advance s).rest (omega (arith, some, every)) in
    omega (arith, w, every, met)
met_rests limits (Passed original) s before some met can = absurd met
met_rests limits (Ended now original verdict) s before some met can = (let w = rest_waits s.pace now s.rest some in omega (arith, w, met))
met_rests limits (WalkBegun now) s before some met can = (let w = rest_waits s.pace now s.rest some in omega (arith, w, met))
met_rests limits (WalkEnded now verdict) s before some met can = (let w = rest_waits s.pace now s.rest some in omega (arith, w, met))
met_rests limits (Begun originals) s before some met can = absurd met

-- an archive that is asked may be asked at that time
record Asks (now : ℕ) (s : Standing) : Type 0 where
  rested : s.rest ≤ now
  may : moods.MayAsk now s.mood

asks_at : (now before : ℕ) (s : Standing) → before ≡ now → MayWalk before s → Asks now s
asks_at now before s same may = subst (λ n. Asks n s) same (record { rested = may.rested; may = may.may })

asks : (now : ℕ) (act : Act) (s : Standing) → IsAsked now act → Can act s → Asks now s
asks now (Handed before original) s asked can = asks_at now before s asked can.0.may
asks now (Passed original) s asked can = absurd asked
asks now (Ended before original verdict) s asked can = absurd asked
asks now (WalkBegun before) s asked can = asks_at now before s asked can.may
asks now (WalkEnded before verdict) s asked can = absurd asked
asks now (Begun originals) s asked can = absurd asked

pub all_paced : AllPaced
all_paced limits met asking acts s t before now some is_met leads asked can =
    let a = met_rests limits met s before some is_met leads.0 in
    let b = rests limits acts (after_act limits met s) t leads.1 in
    let r : Asks now t = asks now asking t asked can in
    let c = r.rested in
    omega (arith, a, b, c)

-- ---- moods

waits_quiet : (limits : Limits) (verdict : Verdict) (now until : ℕ) (mood : Mood) → IsNoAnswer verdict → WaitsUntil until mood
    → WaitsUntil until (moods.mood_after limits verdict now mood)
waits_quiet limits verdict now until (Awake failed) quiet waits = absurd waits
waits_quiet limits verdict now until (Tried failed) quiet waits = absurd waits
waits_quiet limits verdict now until Probed quiet waits = absurd waits
waits_quiet limits Answered now until (Aside time failed) quiet waits = absurd quiet
waits_quiet limits There now until (Aside time failed) quiet waits = waits
waits_quiet limits Failed now until (Aside time failed) quiet waits = waits
waits_quiet limits Unknown now until (Aside time failed) quiet waits = waits
waits_quiet limits (Busy asked) now until (Aside time failed) quiet waits = omega (arith, waits)
waits_quiet limits (Later asked) now until (Aside time failed) quiet waits = omega (arith, waits)
waits_quiet limits Answered now until (Dormant time named) quiet waits = absurd quiet
waits_quiet limits There now until (Dormant time named) quiet waits = waits
waits_quiet limits Failed now until (Dormant time named) quiet waits = waits
waits_quiet limits Unknown now until (Dormant time named) quiet waits = waits
waits_quiet limits (Busy asked) now until (Dormant time named) quiet waits = omega (arith, waits)
waits_quiet limits (Later asked) now until (Dormant time named) quiet waits = omega (arith, waits)

waits_by : (limits : Limits) (act : Act) (s : Standing) (until : ℕ) → IsQuiet act → Can act s → WaitsUntil until s.mood
    → WaitsUntil until (after_act limits act s).mood
waits_by limits (Handed now original) s until quiet can waits = absurd quiet
waits_by limits (Passed original) s until quiet can waits =
    let a : Advances 0 original s (after_advance s) = advances 0 original s can in
    subst (WaitsUntil until) (sym a.mood) waits
waits_by limits (Ended now original verdict) s until quiet can waits = waits_quiet limits verdict now until s.mood quiet waits
waits_by limits (WalkBegun now) s until quiet can waits = absurd quiet
waits_by limits (WalkEnded now verdict) s until quiet can waits = waits_quiet limits verdict now until s.mood quiet waits
waits_by limits (Begun originals) s until quiet can waits = waits

waits_on : (limits : Limits) (acts : List Act) (s t : Standing) (until : ℕ) → WaitsUntil until s.mood → AreQuiet acts → Leads limits acts s t
    → WaitsUntil until t.mood
waits_on limits [] s t until waits quiet leads = subst (λ (t : Standing). WaitsUntil until t.mood) (sym leads) waits
waits_on limits (act ∷ acts) s t until waits quiet leads =
    waits_on limits acts (after_act limits act s) t until (waits_by limits act s until quiet.0 leads.0 waits) quiet.1 leads.1

its_time : (now until : ℕ) (mood : Mood) → WaitsUntil until mood → moods.MayAsk now mood → until ≤ now
its_time now until (Awake failed) waits may = absurd waits
its_time now until (Aside time failed) waits may = omega (arith, waits, may)
its_time now until (Tried failed) waits may = absurd waits
its_time now until (Dormant time named) waits may = omega (arith, waits, may)
its_time now until Probed waits may = absurd waits

pub all_wait : AllWait
all_wait limits asking acts s t until now waits quiet leads asked can =
    let r : Asks now t = asks now asking t asked can in
    its_time now until t.mood (waits_on limits acts s t until waits quiet leads) r.may

-- ---- archives that are busy

-- the archive isn't asked before this time, which it named
abbrev Heeds : ℕ → Mood → Type 0
Heeds until (Awake failed) = ⊥
Heeds until (Aside time failed) = until ≤ time
Heeds until (Tried failed) = ⊥
Heeds until (Dormant time named) = (until ≤ time) × (until ≤ named)
Heeds until Probed = ⊥

heeded_if : (b : Bool) (limits : Limits) (now until failed : ℕ)
    → Heeds until (if b then moods.dormant limits now until else Aside until failed)
heeded_if true limits now until failed = (omega arith, omega arith)
heeded_if false limits now until failed = omega arith

heeded_tolerance : (tolerance : Option ℕ) (limits : Limits) (now until failed : ℕ) → IsSome tolerance
    → Heeds until (moods.failing_by tolerance limits now until failed (Aside until failed))
heeded_tolerance None limits now until failed some = absurd (false≢true some)
heeded_tolerance (Some tolerance) limits now until failed some = heeded_if (nat_le tolerance failed) limits now until failed

heeded_busy : (limits : Limits) (now until : ℕ) (mood : Mood) → IsSome limits.tolerance
    → Heeds until (moods.mood_after limits (Busy until) now mood)
heeded_busy limits now until (Awake failed) some = heeded_tolerance limits.tolerance limits now until (moods.one_more failed) some
heeded_busy limits now until (Aside time failed) some = omega arith
heeded_busy limits now until (Tried failed) some = heeded_tolerance limits.tolerance limits now until (moods.one_more failed) some
heeded_busy limits now until (Dormant time named) some = (omega arith, omega arith)
heeded_busy limits now until Probed some = (omega arith, omega arith)

heeded_aside : (tolerance : Option ℕ) (until failed : ℕ) → IsSome tolerance → Heeds until (moods.aside_by tolerance until failed)
heeded_aside None until failed some = absurd (false≢true some)
heeded_aside (Some tolerance) until failed some = omega arith

heeded_later : (limits : Limits) (now until : ℕ) (mood : Mood) → IsSome limits.tolerance
    → Heeds until (moods.mood_after limits (Later until) now mood)
heeded_later limits now until (Awake failed) some = heeded_aside limits.tolerance until failed some
heeded_later limits now until (Aside time failed) some = omega arith
heeded_later limits now until (Tried failed) some = heeded_aside limits.tolerance until failed some
heeded_later limits now until (Dormant time named) some = (omega arith, omega arith)
heeded_later limits now until Probed some = heeded_aside limits.tolerance until (moods.row_of limits.tolerance) some

heeded_mood : (limits : Limits) (verdict : Verdict) (now until : ℕ) (mood : Mood) → IsSome limits.tolerance → Names until verdict
    → Heeds until (moods.mood_after limits verdict now mood)
heeded_mood limits Answered now until mood some names = absurd names
heeded_mood limits There now until mood some names = absurd names
heeded_mood limits Failed now until mood some names = absurd names
heeded_mood limits Unknown now until mood some names = absurd names
heeded_mood limits (Busy time) now until mood some same =
    subst (λ n. Heeds n (moods.mood_after limits (Busy time) now mood)) same (heeded_busy limits now time mood some)
heeded_mood limits (Later time) now until mood some same =
    subst (λ n. Heeds n (moods.mood_after limits (Later time) now mood)) same (heeded_later limits now time mood some)

heeded_by : (limits : Limits) (act : Act) (s : Standing) (until : ℕ) → IsSome limits.tolerance → IsBusy until act
    → Heeds until (after_act limits act s).mood
heeded_by limits (Handed now original) s until some busy = absurd busy
heeded_by limits (Passed original) s until some busy = absurd busy
heeded_by limits (Ended now original verdict) s until some busy = heeded_mood limits verdict now until s.mood some busy
heeded_by limits (WalkBegun now) s until some busy = absurd busy
heeded_by limits (WalkEnded now verdict) s until some busy = heeded_mood limits verdict now until s.mood some busy
heeded_by limits (Begun originals) s until some busy = absurd busy

heeds_on : (limits : Limits) (verdict : Verdict) (now until : ℕ) (mood : Mood) → Heeds until mood
    → Heeds until (moods.mood_after limits verdict now mood)
heeds_on limits verdict now until (Awake failed) heeds = absurd heeds
heeds_on limits Answered now until (Aside time failed) heeds = heeds
heeds_on limits There now until (Aside time failed) heeds = heeds
heeds_on limits Failed now until (Aside time failed) heeds = heeds
heeds_on limits Unknown now until (Aside time failed) heeds = heeds
heeds_on limits (Busy asked) now until (Aside time failed) heeds = omega (arith, heeds)
heeds_on limits (Later asked) now until (Aside time failed) heeds = omega (arith, heeds)
heeds_on limits verdict now until (Tried failed) heeds = absurd heeds
heeds_on limits Answered now until (Dormant time named) heeds = heeds.1
heeds_on limits There now until (Dormant time named) heeds = heeds
heeds_on limits Failed now until (Dormant time named) heeds = heeds
heeds_on limits Unknown now until (Dormant time named) heeds = heeds
heeds_on limits (Busy asked) now until (Dormant time named) heeds =
    let a = heeds.0 in
    let b = heeds.1 in
    (omega (arith, a), omega (arith, b))
heeds_on limits (Later asked) now until (Dormant time named) heeds =
    let a = heeds.0 in
    let b = heeds.1 in
    (omega (arith, a), omega (arith, b))
heeds_on limits verdict now until Probed heeds = absurd heeds

heeds_by : (limits : Limits) (act : Act) (s : Standing) (until : ℕ) → IsLeft act → Can act s → Heeds until s.mood
    → Heeds until (after_act limits act s).mood
heeds_by limits (Handed now original) s until left can heeds = absurd left
heeds_by limits (Passed original) s until left can heeds =
    let a : Advances 0 original s (after_advance s) = advances 0 original s can in
    subst (Heeds until) (sym a.mood) heeds
heeds_by limits (Ended now original verdict) s until left can heeds = heeds_on limits verdict now until s.mood heeds
heeds_by limits (WalkBegun now) s until left can heeds = absurd left
heeds_by limits (WalkEnded now verdict) s until left can heeds = heeds_on limits verdict now until s.mood heeds
heeds_by limits (Begun originals) s until left can heeds = heeds

heeds_all : (limits : Limits) (acts : List Act) (s t : Standing) (until : ℕ) → Heeds until s.mood → AreLeft acts → Leads limits acts s t
    → Heeds until t.mood
heeds_all limits [] s t until heeds left leads = subst (λ (t : Standing). Heeds until t.mood) (sym leads) heeds
heeds_all limits (act ∷ acts) s t until heeds left leads =
    heeds_all limits acts (after_act limits act s) t until (heeds_by limits act s until left.0 leads.0 heeds) left.1 leads.1

its_named_time : (now until : ℕ) (mood : Mood) → Heeds until mood → moods.MayAsk now mood → until ≤ now
its_named_time now until (Awake failed) heeds may = absurd heeds
its_named_time now until (Aside time failed) heeds may = omega (arith, heeds, may)
its_named_time now until (Tried failed) heeds may = absurd heeds
its_named_time now until (Dormant time named) heeds may = (let a = heeds.0 in omega (arith, a, may))
its_named_time now until Probed heeds may = absurd heeds

pub all_heeded : AllHeeded
all_heeded limits busy asking acts s t until now some is_busy left leads asked can =
    let r : Asks now t = asks now asking t asked can in
    let first = heeded_by limits busy s until some is_busy in
    its_named_time now until t.mood (heeds_all limits acts (after_act limits busy s) t until first left leads.1) r.may

-- ---- archives that one walk finds out about

-- a walk finds out about the archive
abbrev IsFoundOut : Mood → Type 0
IsFoundOut (Awake failed) = ⊥
IsFoundOut (Aside until failed) = ⊥
IsFoundOut (Tried failed) = ⊤
IsFoundOut (Dormant until named) = ⊥
IsFoundOut Probed = ⊤

found_out_first : (until : ℕ) (mood : Mood) → WaitsUntil until mood → IsFoundOut (moods.mood_once_asked mood)
found_out_first until (Awake failed) waits = absurd waits
found_out_first until (Aside time failed) waits = search rules
found_out_first until (Tried failed) waits = absurd waits
found_out_first until (Dormant time named) waits = search rules
found_out_first until Probed waits = absurd waits

found_out_on : (mood : Mood) → IsFoundOut mood → IsFoundOut (moods.mood_once_asked mood)
found_out_on (Awake failed) out = absurd out
found_out_on (Aside time failed) out = absurd out
found_out_on (Tried failed) out = out
found_out_on (Dormant time named) out = absurd out
found_out_on Probed out = out

tried_first : (limits : Limits) (act : Act) (s : Standing) (before : ℕ) → IsAsked before act → Can act s → WaitsUntil 0 s.mood
    → IsFoundOut (after_act limits act s).mood
tried_first limits (Handed now original) s before asked can waits =
    let a : Advances 0 original s (after_advance s) = advances 0 original s can.1 in
    subst (λ (m : Mood). IsFoundOut (moods.mood_once_asked m)) (sym a.mood) (found_out_first 0 s.mood waits)
tried_first limits (Passed original) s before asked can waits = absurd asked
tried_first limits (Ended now original verdict) s before asked can waits = absurd asked
tried_first limits (WalkBegun now) s before asked can waits = found_out_first 0 s.mood waits
tried_first limits (WalkEnded now verdict) s before asked can waits = absurd asked
tried_first limits (Begun originals) s before asked can waits = absurd asked

tried_by : (limits : Limits) (act : Act) (s : Standing) → IsNoEnd act → Can act s → IsFoundOut s.mood
    → IsFoundOut (after_act limits act s).mood
tried_by limits (Handed now original) s end can out =
    let a : Advances 0 original s (after_advance s) = advances 0 original s can.1 in
    subst (λ (m : Mood). IsFoundOut (moods.mood_once_asked m)) (sym a.mood) (found_out_on s.mood out)
tried_by limits (Passed original) s end can out =
    let a : Advances 0 original s (after_advance s) = advances 0 original s can in
    subst IsFoundOut (sym a.mood) out
tried_by limits (Ended now original verdict) s end can out = absurd end
tried_by limits (WalkBegun now) s end can out = found_out_on s.mood out
tried_by limits (WalkEnded now verdict) s end can out = absurd end
tried_by limits (Begun originals) s end can out = out

tried_all : (limits : Limits) (acts : List Act) (s t : Standing) → IsFoundOut s.mood → AreNoEnds acts → Leads limits acts s t
    → IsFoundOut t.mood
tried_all limits [] s t out ends leads = subst (λ (t : Standing). IsFoundOut t.mood) (sym leads) out
tried_all limits (act ∷ acts) s t out ends leads =
    tried_all limits acts (after_act limits act s) t (tried_by limits act s ends.0 leads.0 out) ends.1 leads.1

not_yet : (now : ℕ) (mood : Mood) → IsFoundOut mood → moods.MayAsk now mood → ⊥
not_yet now (Awake failed) out may = absurd out
not_yet now (Aside time failed) out may = absurd out
not_yet now (Tried failed) out may = may
not_yet now (Dormant time named) out may = absurd out
not_yet now Probed out may = may

pub all_tried : AllTried
all_tried limits first asking acts s t before now waits is_first ends leads asked can =
    let r : Asks now t = asks now asking t asked can in
    let out = tried_first limits first s before is_first leads.0 waits in
    not_yet now t.mood (tried_all limits acts (after_act limits first s) t out ends leads.1) r.may
