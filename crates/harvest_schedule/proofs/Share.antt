-- Jobs and walks beyond the list take turns.
use Rattle.std.proofs.Common.{◌≡◌, ℕ, ◌≤◌, Bool, true, false, nat_lt, List, [], ◌∷◌, ◌++◌, Some, None, IsSome, if◌then◌else◌, refl, sym, subst, ◌∙◌, arith}
use Rattle.std.proofs.lemmas.Bool.Decides.{nat_tests}
use Rattle.std.proofs.lemmas.Bool.{true≢false, false≢true}
use Rattle.harvest_schedule.specs.declared.moods.Limits.{Limits}
use Rattle.harvest_schedule.specs.Moods.{comes_again}
use Rattle.harvest_schedule.specs.Standing.{Standing}
use Rattle.harvest_schedule.specs.Lanes.{MayWish, advanced_by, job_by, job_of}
use Rattle.harvest_schedule.specs.Steps.{Act, Begun, Can, Ended, Handed, Passed, WalkBegun, WalkEnded, after_act}
use Rattle.harvest_schedule.specs.Runs.{Leads, times}
use Rattle.harvest_schedule.specs.Sharing.{AllGranted, AllServed, IsTurn, KeepWaiting, KeepsWaiting, wishes}

-- a list has a job still if one comes again
with_again : (b : Bool) (original : ℕ) (again : List ℕ) (next originals : ℕ) → IsSome (job_by again next originals)
    → IsSome (job_by (if b then again ++ original ∷ [] else again) next originals)
with_again false original again next originals some = some
with_again true original [] next originals some = refl
with_again true original (x ∷ rest) next originals some = refl

first_by : (b : Bool) → b ≡ true → IsSome {T = ℕ} (if b then Some 0 else None)
first_by true e = refl
first_by false e = absurd (true≢false (sym e))

keeps : (limits : Limits) (act : Act) (s : Standing) → IsSome (job_of s) → KeepsWaiting act → Can act s → IsSome (job_of (after_act limits act s))
keeps limits (Handed now original) s some waits can = absurd waits
keeps limits (Passed original) s some waits can = absurd waits
keeps limits (Ended now original verdict) s some waits can =
    with_again (comes_again limits verdict) original s.again s.next s.originals some
keeps limits (WalkBegun now) s some waits can = some
keeps limits (WalkEnded now verdict) s some waits can = some
keeps limits (Begun originals) s some waits can = first_by (nat_lt 0 originals) (grind (arith, nat_tests, waits))

record FewWishes (acts : List Act) (s : Standing) : Type 0 where
  most : times wishes acts ≤ 1
  none : s.list_next ≡ true → times wishes acts ≤ 0

-- what changes nothing of whose turn it is
as_before : (act : Act) (acts : List Act) (s n : Standing) → wishes act ≡ 0 → n.list_next ≡ s.list_next → FewWishes acts n
    → FewWishes (act ∷ acts) s
as_before act acts s n zero same few =
    let m = few.most in
    record {
      most = omega (arith, zero, m);
      none = λ e. let r = few.none (same ∙ e) in omega (arith, zero, r);
    }

one_wish : (now : ℕ) (acts : List Act) (s n : Standing) → IsSome (job_of s) → MayWish now s → n.list_next ≡ true → FewWishes acts n
    → FewWishes (WalkBegun now ∷ acts) s
one_wish now acts s n some may next few =
    let r = few.none next in
    record {
      most = omega (arith, r);
      none = λ e. absurd (false≢true (sym (may.turn e) ∙ some));
    }

few_wishes : (limits : Limits) (acts : List Act) (s t : Standing) → IsSome (job_of s) → KeepWaiting acts → Leads limits acts s t → FewWishes acts s
few_wishes limits [] s t some waits leads = record { most = omega arith; none = λ e. omega arith }
few_wishes limits (Handed now original ∷ acts) s t some waits leads = absurd waits.0
few_wishes limits (Passed original ∷ acts) s t some waits leads = absurd waits.0
few_wishes limits (Ended now original verdict ∷ acts) s t some waits leads =
    let act : Act = Ended now original verdict in
    let n : Standing = after_act limits act s in
    as_before act acts s n refl refl (few_wishes limits acts n t (keeps limits act s some waits.0 leads.0) waits.1 leads.1)
few_wishes limits (WalkBegun now ∷ acts) s t some waits leads =
    let act : Act = WalkBegun now in
    let n : Standing = after_act limits act s in
    one_wish now acts s n some leads.0 refl (few_wishes limits acts n t (keeps limits act s some waits.0 leads.0) waits.1 leads.1)
few_wishes limits (WalkEnded now verdict ∷ acts) s t some waits leads =
    let act : Act = WalkEnded now verdict in
    let n : Standing = after_act limits act s in
    as_before act acts s n refl refl (few_wishes limits acts n t (keeps limits act s some waits.0 leads.0) waits.1 leads.1)
few_wishes limits (Begun originals ∷ acts) s t some waits leads =
    let act : Act = Begun originals in
    let n : Standing = after_act limits act s in
    as_before act acts s n refl refl (few_wishes limits acts n t (keeps limits act s some waits.0 leads.0) waits.1 leads.1)

pub all_served : AllServed
all_served limits acts s t some waits leads = (few_wishes limits acts s t some waits leads).most

-- ---- wishes have their turn

turned_by : (again : List ℕ) (s : Standing) → (advanced_by again s).list_next ≡ false
turned_by [] s = refl
turned_by (original ∷ rest) s = refl

turned : (limits : Limits) (turn : Act) (s : Standing) → IsTurn turn → (after_act limits turn s).list_next ≡ false
turned limits (Handed now original) s is = turned_by s.again s
turned limits (Passed original) s is = turned_by s.again s
turned limits (Ended now original verdict) s is = absurd is
turned limits (WalkBegun now) s is = absurd is
turned limits (WalkEnded now verdict) s is = absurd is
turned limits (Begun originals) s is = absurd is

stays : (limits : Limits) (act : Act) (s : Standing) → wishes act ≤ 0 → s.list_next ≡ false → (after_act limits act s).list_next ≡ false
stays limits (Handed now original) s none is = turned_by s.again s
stays limits (Passed original) s none is = turned_by s.again s
stays limits (Ended now original verdict) s none is = is
stays limits (WalkBegun now) s none is = absurd (omega (arith, none))
stays limits (WalkEnded now verdict) s none is = is
stays limits (Begun originals) s none is = is

all_stay : (limits : Limits) (acts : List Act) (s t : Standing) → times wishes acts ≤ 0 → Leads limits acts s t → s.list_next ≡ false
    → t.list_next ≡ false
all_stay limits [] s t none leads is = subst (λ (x : Standing). x.list_next ≡ false) (sym leads) is
all_stay limits (act ∷ acts) s t none leads is =
    all_stay limits acts (after_act limits act s) t (omega (arith, none)) leads.1 (stays limits act s (omega (arith, none)) is)

pub all_granted : AllGranted
all_granted = record {
  jobless = λ now s may none. record { may = may; turn = λ e. none };
  next = λ limits turn acts s t now is none leads may.
      let free : t.list_next ≡ false = all_stay limits acts (after_act limits turn s) t none leads.1 (turned limits turn s is) in
      record { may = may; turn = λ e. absurd (true≢false (sym e ∙ free)) };
}
