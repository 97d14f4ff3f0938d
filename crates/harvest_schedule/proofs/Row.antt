-- Rows of failures.
use Rattle.std.proofs.Common.{◌≡◌, ℕ, ◌+◌, ◌<◌, ◌≤◌, ◌^◌, Bool, true, false, nat_le, List, [], ◌∷◌, Option, Some, None, if◌then◌else◌, max, refl, sym, subst, ◌∙◌, arith}
use Rattle.std.proofs.lemmas.Bool.Decides.{nat_tests}
use Rattle.std.proofs.lemmas.Bool.{true≢false}
use Rattle.std.proofs.lemmas.Option.{same_Some, none-some}
use Rattle.harvest_schedule.specs.declared.moods.Limits.{Limits}
use Rattle.harvest_schedule.specs.declared.moods.Mood.{Mood}
use Rattle.harvest_schedule.specs.declared.moods.Mood.TheVariants.{Awake, Aside, Tried, Dormant, Probed}
use Rattle.harvest_schedule.specs.declared.moods.Verdict.{Verdict}
use Rattle.harvest_schedule.specs.declared.moods.Verdict.TheVariants.{Answered, There, Failed, Unknown, Busy, Later}
use Rattle.harvest_schedule.specs.Moods as moods
use Rattle.harvest_schedule.specs.Standing.{Standing}
use Rattle.harvest_schedule.specs.Lanes.{after_advance, new_standing}
use Rattle.harvest_schedule.specs.Steps.{Act, Begun, Can, Ended, Handed, Passed, WalkBegun, WalkEnded, after_act}
use Rattle.harvest_schedule.specs.Runs.{Leads, WaitsUntil, times}
use Rattle.harvest_schedule.specs.Rows.{AllAsleep, AllAwake, AllThere, Fails, FailsBy, GoOn, GoesOn, GoesOnBy, IsAnswer, IsAsleep, ShowsThere, SleepsUntil, failures, failures_by}
use Rattle.harvest_schedule.proofs.Acts.{Advances, advances}

-- ---- few failures

-- awake or aside, after at most so many failures in a row
abbrev Borne : ℕ → Mood → Type 0
Borne n (Awake failed) = failed ≤ n
Borne n (Aside until failed) = failed ≤ n
Borne n (Tried failed) = failed ≤ n
Borne n (Dormant until named) = ⊥
Borne n Probed = ⊥

borne_more : (n m : ℕ) (mood : Mood) → n ≤ m → Borne n mood → Borne m mood
borne_more n m (Awake failed) le borne = omega (arith, le, borne)
borne_more n m (Aside until failed) le borne = omega (arith, le, borne)
borne_more n m (Tried failed) le borne = omega (arith, le, borne)
borne_more n m (Dormant until named) le borne = absurd borne
borne_more n m Probed le borne = absurd borne

awake_of : (n : ℕ) (mood : Mood) → Borne n mood → IsAsleep mood → ⊥
awake_of n (Awake failed) borne asleep = asleep
awake_of n (Aside until failed) borne asleep = asleep
awake_of n (Tried failed) borne asleep = asleep
awake_of n (Dormant until named) borne asleep = borne
awake_of n Probed borne asleep = borne

few_by : (b : Bool) (P : Mood → Type 0) (m k : Mood) → b ≡ false → P k → P (if b then m else k)
few_by true P m k e holds = absurd (true≢false e)
few_by false P m k e holds = holds

-- fewer failures than are borne
few : (P : Mood → Type 0) (o : Option ℕ) (limits : Limits) (tolerance now until failed : ℕ) (otherwise : Mood) → o ≡ Some tolerance → failed < tolerance
    → P otherwise → P (moods.failing_by o limits now until failed otherwise)
few P None limits tolerance now until failed otherwise e lt holds = absurd (none-some tolerance e)
few P (Some most) limits tolerance now until failed otherwise e lt holds =
    let same : most ≡ tolerance = same_Some most tolerance e in
    few_by (nat_le most failed) P (moods.dormant limits now until) otherwise (grind (arith, nat_tests, lt, same)) holds

borne_aside : (o : Option ℕ) (until failed n : ℕ) → failed ≤ n → Borne n (moods.aside_by o until failed)
borne_aside None until failed n le = le
borne_aside (Some tolerance) until failed n le = le

borne_on : (limits : Limits) (verdict : Verdict) (mood : Mood) (now n m tolerance : ℕ) → limits.tolerance ≡ Some tolerance → Borne n mood
    → n + failures_by verdict ≤ m → m < tolerance → Borne m (moods.mood_after limits verdict now mood)
borne_on limits verdict (Dormant until named) now n m tolerance e borne le lt = absurd borne
borne_on limits verdict Probed now n m tolerance e borne le lt = absurd borne
borne_on limits Answered (Awake failed) now n m tolerance e borne le lt = omega arith
borne_on limits Answered (Aside until failed) now n m tolerance e borne le lt = omega arith
borne_on limits Answered (Tried failed) now n m tolerance e borne le lt = omega arith
borne_on limits There (Awake failed) now n m tolerance e borne le lt = omega (arith, borne, le)
borne_on limits There (Aside until failed) now n m tolerance e borne le lt = omega (arith, borne, le)
borne_on limits There (Tried failed) now n m tolerance e borne le lt = omega (arith, borne, le)
borne_on limits Failed (Awake failed) now n m tolerance e borne le lt =
    few (Borne m) limits.tolerance limits tolerance now 0 (moods.one_more failed) (Awake (moods.one_more failed)) e
    (omega (arith, borne, le, lt)) (omega (arith, borne, le))
borne_on limits Failed (Aside until failed) now n m tolerance e borne le lt = omega (arith, borne, le)
borne_on limits Failed (Tried failed) now n m tolerance e borne le lt =
    few (Borne m) limits.tolerance limits tolerance now 0 (moods.one_more failed) (Awake (moods.one_more failed)) e
    (omega (arith, borne, le, lt)) (omega (arith, borne, le))
borne_on limits Unknown (Awake failed) now n m tolerance e borne le lt = omega (arith, borne, le)
borne_on limits Unknown (Aside until failed) now n m tolerance e borne le lt = omega (arith, borne, le)
borne_on limits Unknown (Tried failed) now n m tolerance e borne le lt = omega (arith, borne, le)
borne_on limits (Busy asked) (Awake failed) now n m tolerance e borne le lt =
    few (Borne m) limits.tolerance limits tolerance now asked (moods.one_more failed) (Aside asked (moods.one_more failed)) e
    (omega (arith, borne, le, lt)) (omega (arith, borne, le))
borne_on limits (Busy asked) (Aside until failed) now n m tolerance e borne le lt = omega (arith, borne, le)
borne_on limits (Busy asked) (Tried failed) now n m tolerance e borne le lt =
    few (Borne m) limits.tolerance limits tolerance now asked (moods.one_more failed) (Aside asked (moods.one_more failed)) e
    (omega (arith, borne, le, lt)) (omega (arith, borne, le))
borne_on limits (Later asked) (Awake failed) now n m tolerance e borne le lt =
    borne_aside limits.tolerance asked failed m (omega (arith, borne, le))
borne_on limits (Later asked) (Aside until failed) now n m tolerance e borne le lt = omega (arith, borne, le)
borne_on limits (Later asked) (Tried failed) now n m tolerance e borne le lt =
    borne_aside limits.tolerance asked failed m (omega (arith, borne, le))

borne_asked : (n : ℕ) (mood : Mood) → Borne n mood → Borne n (moods.mood_once_asked mood)
borne_asked n (Awake failed) borne = borne
borne_asked n (Aside until failed) borne = borne
borne_asked n (Tried failed) borne = borne
borne_asked n (Dormant until named) borne = absurd borne
borne_asked n Probed borne = absurd borne

borne_by : (limits : Limits) (act : Act) (s : Standing) (n m tolerance : ℕ) → limits.tolerance ≡ Some tolerance → Borne n s.mood → Can act s
    → n + failures act ≤ m → m < tolerance → Borne m (after_act limits act s).mood
borne_by limits (Handed now original) s n m tolerance e borne can le lt =
    let a : Advances 0 original s (after_advance s) = advances 0 original s can.1 in
    borne_more n m (moods.mood_once_asked (after_advance s).mood) (omega (arith, le))
    (subst (λ (mood : Mood). Borne n (moods.mood_once_asked mood)) (sym a.mood) (borne_asked n s.mood borne))
borne_by limits (Passed original) s n m tolerance e borne can le lt =
    let a : Advances 0 original s (after_advance s) = advances 0 original s can in
    borne_more n m (after_advance s).mood (omega (arith, le)) (subst (Borne n) (sym a.mood) borne)
borne_by limits (Ended now original verdict) s n m tolerance e borne can le lt =
    borne_on limits verdict s.mood now n m tolerance e borne le lt
borne_by limits (WalkBegun now) s n m tolerance e borne can le lt =
    borne_more n m (moods.mood_once_asked s.mood) (omega (arith, le)) (borne_asked n s.mood borne)
borne_by limits (WalkEnded now verdict) s n m tolerance e borne can le lt =
    borne_on limits verdict s.mood now n m tolerance e borne le lt
borne_by limits (Begun originals) s n m tolerance e borne can le lt = borne_more n m s.mood (omega (arith, le)) borne

awake_all : (limits : Limits) (acts : List Act) (s t : Standing) (n tolerance : ℕ) → limits.tolerance ≡ Some tolerance → Borne n s.mood
    → n + times failures acts < tolerance → Leads limits acts s t → IsAsleep t.mood → ⊥
awake_all limits [] s t n tolerance e borne lt leads asleep =
    awake_of n s.mood borne (subst (λ (x : Standing). IsAsleep x.mood) leads asleep)
awake_all limits (act ∷ acts) s t n tolerance e borne lt leads asleep =
    awake_all limits acts (after_act limits act s) t (n + failures act) tolerance e
    (borne_by limits act s n (n + failures act) tolerance e borne leads.0 (omega arith) (omega (arith, lt))) (omega (arith, lt)) leads.1 asleep

-- what an answer leaves
unburdened : (mood : Mood) → Borne 0 (moods.after_answer mood)
unburdened (Awake failed) = omega arith
unburdened (Aside until failed) = omega arith
unburdened (Tried failed) = omega arith
unburdened (Dormant until named) = omega arith
unburdened Probed = omega arith

answered : (P : Mood → Type 0) (limits : Limits) (answer : Act) (s : Standing) → IsAnswer answer → P (moods.after_answer s.mood)
    → P (after_act limits answer s).mood
answered P limits (Handed now original) s is holds = absurd is
answered P limits (Passed original) s is holds = absurd is
answered P limits (Ended now original verdict) s is holds =
    subst (λ (v : Verdict). P (moods.mood_after limits v now s.mood)) (sym is) holds
answered P limits (WalkBegun now) s is holds = absurd is
answered P limits (WalkEnded now verdict) s is holds =
    subst (λ (v : Verdict). P (moods.mood_after limits v now s.mood)) (sym is) holds
answered P limits (Begun originals) s is holds = absurd is

pub all_awake : AllAwake
all_awake = record {
  first = λ limits originals pace acts t tolerance e leads lt.
      awake_all limits acts (new_standing originals pace) t 0 tolerance e (omega arith) (omega (arith, lt)) leads;
  answered = λ limits answer acts s t tolerance e is leads lt.
      awake_all limits acts (after_act limits answer s) t 0 tolerance e (answered (Borne 0) limits answer s is (unburdened s.mood)) (omega (arith, lt)) leads.1;
}

-- ---- failures in a row

-- awake, after so many failures in a row
abbrev IsAwake : ℕ → Mood → Type 0
IsAwake n (Awake failed) = failed ≡ n
IsAwake n (Aside until failed) = ⊥
IsAwake n (Tried failed) = ⊥
IsAwake n (Dormant until named) = ⊥
IsAwake n Probed = ⊥

awake_same : (n m : ℕ) (mood : Mood) → n ≡ m → IsAwake n mood → IsAwake m mood
awake_same n m (Awake failed) same is = is ∙ same
awake_same n m (Aside until failed) same is = absurd is
awake_same n m (Tried failed) same is = absurd is
awake_same n m (Dormant until named) same is = absurd is
awake_same n m Probed same is = absurd is

awake_asked : (n : ℕ) (mood : Mood) → IsAwake n mood → IsAwake n (moods.mood_once_asked mood)
awake_asked n (Awake failed) is = is
awake_asked n (Aside until failed) is = absurd is
awake_asked n (Tried failed) is = absurd is
awake_asked n (Dormant until named) is = absurd is
awake_asked n Probed is = absurd is

awake_on : (limits : Limits) (verdict : Verdict) (mood : Mood) (now n m tolerance : ℕ) → limits.tolerance ≡ Some tolerance → tolerance < 2 ^ 64
    → IsAwake n mood → GoesOnBy verdict → n + failures_by verdict ≡ m → m < tolerance
    → IsAwake m (moods.mood_after limits verdict now mood)
awake_on limits verdict (Aside until failed) now n m tolerance e small is on same lt = absurd is
awake_on limits verdict (Tried failed) now n m tolerance e small is on same lt = absurd is
awake_on limits verdict (Dormant until named) now n m tolerance e small is on same lt = absurd is
awake_on limits verdict Probed now n m tolerance e small is on same lt = absurd is
awake_on limits Answered (Awake failed) now n m tolerance e small is on same lt = absurd on
awake_on limits There (Awake failed) now n m tolerance e small is on same lt = omega (arith, is, same)
awake_on limits Failed (Awake failed) now n m tolerance e small is on same lt =
    few (IsAwake m) limits.tolerance limits tolerance now 0 (moods.one_more failed) (Awake (moods.one_more failed)) e
    (omega (arith, is, same, lt)) (omega (arith, is, same, lt, small))
awake_on limits Unknown (Awake failed) now n m tolerance e small is on same lt = omega (arith, is, same)
awake_on limits (Busy asked) (Awake failed) now n m tolerance e small is on same lt = absurd on
awake_on limits (Later asked) (Awake failed) now n m tolerance e small is on same lt = absurd on

awake_by : (limits : Limits) (act : Act) (s : Standing) (n m tolerance : ℕ) → limits.tolerance ≡ Some tolerance → tolerance < 2 ^ 64
    → IsAwake n s.mood → GoesOn act → Can act s → n + failures act ≡ m → m < tolerance → IsAwake m (after_act limits act s).mood
awake_by limits (Handed now original) s n m tolerance e small is on can same lt =
    let a : Advances 0 original s (after_advance s) = advances 0 original s can.1 in
    awake_same n m (moods.mood_once_asked (after_advance s).mood) (omega (arith, same))
    (subst (λ (mood : Mood). IsAwake n (moods.mood_once_asked mood)) (sym a.mood) (awake_asked n s.mood is))
awake_by limits (Passed original) s n m tolerance e small is on can same lt =
    let a : Advances 0 original s (after_advance s) = advances 0 original s can in
    awake_same n m (after_advance s).mood (omega (arith, same)) (subst (IsAwake n) (sym a.mood) is)
awake_by limits (Ended now original verdict) s n m tolerance e small is on can same lt =
    awake_on limits verdict s.mood now n m tolerance e small is on same lt
awake_by limits (WalkBegun now) s n m tolerance e small is on can same lt =
    awake_same n m (moods.mood_once_asked s.mood) (omega (arith, same)) (awake_asked n s.mood is)
awake_by limits (WalkEnded now verdict) s n m tolerance e small is on can same lt =
    awake_on limits verdict s.mood now n m tolerance e small is on same lt
awake_by limits (Begun originals) s n m tolerance e small is on can same lt = awake_same n m s.mood (omega (arith, same)) is

row_all : (limits : Limits) (acts : List Act) (s t : Standing) (n m tolerance : ℕ) → limits.tolerance ≡ Some tolerance → tolerance < 2 ^ 64
    → IsAwake n s.mood → GoOn acts → Leads limits acts s t → n + times failures acts ≡ m → m < tolerance → IsAwake m t.mood
row_all limits [] s t n m tolerance e small is on leads same lt =
    subst (λ (x : Standing). IsAwake m x.mood) (sym leads) (awake_same n m s.mood (omega (arith, same)) is)
row_all limits (act ∷ acts) s t n m tolerance e small is on leads same lt =
    row_all limits acts (after_act limits act s) t (n + failures act) m tolerance e small
    (awake_by limits act s n (n + failures act) tolerance e small is on.0 leads.0 (omega arith) (omega (arith, same, lt))) on.1 leads.1
    (omega (arith, same)) lt

-- an answer of an archive that isn't put aside wakes it
fresh : (mood : Mood) → (WaitsUntil 0 mood → ⊥) → IsAwake 0 (moods.after_answer mood)
fresh (Awake failed) not = refl
fresh (Aside until failed) not = absurd (not (omega arith))
fresh (Tried failed) not = refl
fresh (Dormant until named) not = absurd (not (omega arith))
fresh Probed not = refl

many_by : (b : Bool) (time : ℕ) (m k : Mood) → b ≡ true → SleepsUntil time m → SleepsUntil time (if b then m else k)
many_by true time m k e holds = holds
many_by false time m k e holds = absurd (true≢false (sym e))

-- as many failures as are borne
many : (o : Option ℕ) (limits : Limits) (tolerance now until failed : ℕ) (otherwise : Mood) → o ≡ Some tolerance → tolerance ≤ failed
    → SleepsUntil (max until (moods.later now limits.pause)) (moods.failing_by o limits now until failed otherwise)
many None limits tolerance now until failed otherwise e le = absurd (none-some tolerance e)
many (Some most) limits tolerance now until failed otherwise e le =
    let same : most ≡ tolerance = same_Some most tolerance e in
    many_by (nat_le most failed) (max until (moods.later now limits.pause)) (moods.dormant limits now until) otherwise (grind (arith, nat_tests, le, same)) refl

last_on : (limits : Limits) (verdict : Verdict) (mood : Mood) (now named n tolerance : ℕ) → limits.tolerance ≡ Some tolerance → tolerance < 2 ^ 64
    → IsAwake n mood → n + 1 ≡ tolerance → FailsBy named verdict
    → SleepsUntil (max named (moods.later now limits.pause)) (moods.mood_after limits verdict now mood)
last_on limits verdict (Aside until failed) now named n tolerance e small is all fails = absurd is
last_on limits verdict (Tried failed) now named n tolerance e small is all fails = absurd is
last_on limits verdict (Dormant until before) now named n tolerance e small is all fails = absurd is
last_on limits verdict Probed now named n tolerance e small is all fails = absurd is
last_on limits Answered (Awake failed) now named n tolerance e small is all fails = absurd fails
last_on limits There (Awake failed) now named n tolerance e small is all fails = absurd fails
last_on limits Failed (Awake failed) now named n tolerance e small is all fails =
    subst (λ k. SleepsUntil (max k (moods.later now limits.pause)) (moods.mood_after limits Failed now (Awake failed))) (sym fails)
    (many limits.tolerance limits tolerance now 0 (moods.one_more failed) (Awake (moods.one_more failed)) e (omega (arith, small, is, all)))
last_on limits Unknown (Awake failed) now named n tolerance e small is all fails = absurd fails
last_on limits (Busy until) (Awake failed) now named n tolerance e small is all fails =
    subst (λ k. SleepsUntil (max k (moods.later now limits.pause)) (moods.mood_after limits (Busy until) now (Awake failed))) (sym fails)
    (many limits.tolerance limits tolerance now until (moods.one_more failed) (Aside until (moods.one_more failed)) e (omega (arith, small, is, all)))
last_on limits (Later until) (Awake failed) now named n tolerance e small is all fails = absurd fails

last_by : (limits : Limits) (last : Act) (t : Standing) (now named n tolerance : ℕ) → limits.tolerance ≡ Some tolerance → tolerance < 2 ^ 64
    → IsAwake n t.mood → n + 1 ≡ tolerance → Fails now named last
    → SleepsUntil (max named (moods.later now limits.pause)) (after_act limits last t).mood
last_by limits (Handed time original) t now named n tolerance e small is all fails = absurd fails
last_by limits (Passed original) t now named n tolerance e small is all fails = absurd fails
last_by limits (Ended time original verdict) t now named n tolerance e small is all fails =
    subst (λ k. SleepsUntil (max named (moods.later k limits.pause)) (moods.mood_after limits verdict time t.mood)) (sym fails.0)
    (last_on limits verdict t.mood time named n tolerance e small is all fails.1)
last_by limits (WalkBegun time) t now named n tolerance e small is all fails = absurd fails
last_by limits (WalkEnded time verdict) t now named n tolerance e small is all fails =
    subst (λ k. SleepsUntil (max named (moods.later k limits.pause)) (moods.mood_after limits verdict time t.mood)) (sym fails.0)
    (last_on limits verdict t.mood time named n tolerance e small is all fails.1)
last_by limits (Begun originals) t now named n tolerance e small is all fails = absurd fails

probe_on : (limits : Limits) (verdict : Verdict) (now named : ℕ) → FailsBy named verdict
    → SleepsUntil (max named (moods.later now limits.pause)) (moods.mood_after limits verdict now Probed)
probe_on limits Answered now named fails = absurd fails
probe_on limits There now named fails = absurd fails
probe_on limits Failed now named fails = omega (arith, fails)
probe_on limits Unknown now named fails = absurd fails
probe_on limits (Busy until) now named fails = omega (arith, fails)
probe_on limits (Later until) now named fails = absurd fails

probed : (limits : Limits) (verdict : Verdict) (mood : Mood) (time now named : ℕ) → mood ≡ Probed → now ≡ time → FailsBy named verdict
    → SleepsUntil (max named (moods.later now limits.pause)) (moods.mood_after limits verdict time mood)
probed limits verdict mood time now named is same fails =
    subst (λ k. SleepsUntil (max named (moods.later k limits.pause)) (moods.mood_after limits verdict time mood)) (sym same)
    (subst (λ (x : Mood). SleepsUntil (max named (moods.later time limits.pause)) (moods.mood_after limits verdict time x)) (sym is)
    (probe_on limits verdict time named fails))

probe_by : (limits : Limits) (last : Act) (t : Standing) (now named : ℕ) → t.mood ≡ Probed → Fails now named last
    → SleepsUntil (max named (moods.later now limits.pause)) (after_act limits last t).mood
probe_by limits (Handed time original) t now named is fails = absurd fails
probe_by limits (Passed original) t now named is fails = absurd fails
probe_by limits (Ended time original verdict) t now named is fails = probed limits verdict t.mood time now named is fails.0 fails.1
probe_by limits (WalkBegun time) t now named is fails = absurd fails
probe_by limits (WalkEnded time verdict) t now named is fails = probed limits verdict t.mood time now named is fails.0 fails.1
probe_by limits (Begun originals) t now named is fails = absurd fails

pub all_asleep : AllAsleep
all_asleep = record {
  row = λ limits answer last acts s t tolerance now named e small is apart on leads all fails can.
      let n : ℕ = times failures acts in
      last_by limits last t now named n tolerance e small
      (row_all limits acts (after_act limits answer s) t 0 n tolerance e small (answered (IsAwake 0) limits answer s is (fresh s.mood apart)) on leads.1
      (omega arith) (omega (arith, all))) all fails;
  probe = λ limits last t now named is fails can. probe_by limits last t now named is fails;
}

-- ---- signs

aside_awake : (o : Option ℕ) (until failed : ℕ) → IsAsleep (moods.aside_by o until failed) → ⊥
aside_awake None until failed asleep = asleep
aside_awake (Some tolerance) until failed asleep = asleep

sign_on : (limits : Limits) (verdict : Verdict) (now : ℕ) (mood : Mood) → ShowsThere verdict → IsAsleep (moods.mood_after limits verdict now mood)
    → WaitsUntil 0 mood × IsAsleep mood
sign_on limits Answered now mood shows asleep = absurd shows
sign_on limits Failed now mood shows asleep = absurd shows
sign_on limits Unknown now mood shows asleep = absurd shows
sign_on limits (Busy until) now mood shows asleep = absurd shows
sign_on limits There now (Awake failed) shows asleep = absurd asleep
sign_on limits There now (Aside time failed) shows asleep = absurd asleep
sign_on limits There now (Tried failed) shows asleep = absurd asleep
sign_on limits There now (Dormant time named) shows asleep = (omega arith, asleep)
sign_on limits There now Probed shows asleep = absurd asleep
sign_on limits (Later until) now (Awake failed) shows asleep = absurd (aside_awake limits.tolerance until failed asleep)
sign_on limits (Later until) now (Aside time failed) shows asleep = absurd asleep
sign_on limits (Later until) now (Tried failed) shows asleep = absurd (aside_awake limits.tolerance until failed asleep)
sign_on limits (Later until) now (Dormant time named) shows asleep = (omega arith, asleep)
sign_on limits (Later until) now Probed shows asleep = absurd (aside_awake limits.tolerance until (moods.row_of limits.tolerance) asleep)

pub all_there : AllThere
all_there limits (Handed now original) s is can asleep = absurd is
all_there limits (Passed original) s is can asleep = absurd is
all_there limits (Ended now original verdict) s is can asleep = sign_on limits verdict now s.mood is asleep
all_there limits (WalkBegun now) s is can asleep = absurd is
all_there limits (WalkEnded now verdict) s is can asleep = sign_on limits verdict now s.mood is asleep
all_there limits (Begun originals) s is can asleep = absurd is
