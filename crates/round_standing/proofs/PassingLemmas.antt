-- What a round passes over is what is no longer left.
use Rattle.std.proofs.Common.{◌≡◌, ◌+◌, ◌-◌, ◌^◌, ◌<◌, ℕ, zero, suc, Bool, true, false, nat_lt, List, [], ◌∷◌, length, Some, None, if◌then◌else◌, min, IsSomeAnd, refl, sym, ap, subst, ◌∙◌, arith, slice_get, slice_set}
use Rattle.std.proofs.lemmas.Bool.Decides.{nat_tests}
use Rattle.std.proofs.lemmas.Option.{same_Some, none-some}
use Rattle.std.proofs.lemmas.List.Sums.{sum_by-cons}
use Rattle.std.specs.List.{sum_by}
use Rattle.harvest_schedule.specs.declared.moods.Limits.{Limits}
use Rattle.harvest_schedule.specs.declared.schedules.Schedule.{Schedule}
use Rattle.harvest_schedule.specs.Standing.{Standing}
use Rattle.harvest_schedule.specs.Lanes.{after_advance, advanced_by, job_by, left_of}
use Rattle.harvest_schedule.specs.Steps.{Answers, Does, Passed}
use Rattle.round_values.specs.Absences.{IsAsked}
use Rattle.round_values.specs.declared.absences.Absences.{Absences}
use Rattle.round_standing.specs.Paces.{IsAt, LeavesAsked, Passes, left_in}

some_by : (b : Bool) (next original : ℕ) → (if b then Some next else None) ≡ Some original → b ≡ true
some_by true next original e = refl
some_by false next original e = absurd (none-some original e)

-- one less is left of an archive whose next job is passed over
left_by : (original : ℕ) (again : List ℕ) (s : Standing) → s.again ≡ again → job_by again s.next s.originals ≡ Some original
    → left_of (advanced_by again s) + 1 ≡ left_of s
left_by original [] s is job =
    let e : nat_lt s.next s.originals ≡ true = some_by (nat_lt s.next s.originals) s.next original job in
    let lt : s.next < s.originals = grind (arith, nat_tests, e) in
    omega (arith, lt)
left_by original (x ∷ rest) s is job = (let l : length s.again ≡ length (x ∷ rest) = ap length is in omega (arith, l))

-- and of all archives
left_at : (archive : ℕ) (lanes : List Standing) (s t : Standing) → slice_get lanes archive ≡ Some s → left_of t + 1 ≡ left_of s
    → sum_by left_of (slice_set lanes archive t) + 1 ≡ sum_by left_of lanes
left_at archive [] s t at less = absurd (none-some s at)
left_at zero (first ∷ rest) s t at less =
    let same : first ≡ s = same_Some first s at in
    let l : left_of first ≡ left_of s = ap left_of same in
    omega (arith, sum_by-cons left_of t rest, sum_by-cons left_of first rest, less, l)
left_at (suc archive) (first ∷ rest) s t at less =
    omega (arith, sum_by-cons left_of first (slice_set rest archive t), sum_by-cons left_of first rest, left_at archive rest s t at less)

left_once : (limits : Limits) (archive original : ℕ) (old new : List Standing) → Does limits archive (Passed original) old new
    → sum_by left_of new + 1 ≡ sum_by left_of old
left_once limits archive original old new does =
    subst (λ (lanes : List Standing). sum_by left_of lanes + 1 ≡ sum_by left_of old) (sym does.standings)
    (left_at archive old does.standing (after_advance does.standing) does.at (left_by original does.standing.again does.standing refl does.can))

-- nothing is passed over so far
pub none_passed : (passed : ℕ) (schedule : Schedule) → Passes passed schedule passed schedule
none_passed passed schedule = record { left = omega arith; most = omega arith; counted = λ few. omega arith }

-- a job more is passed over
pub one_more_passed : (before : ℕ) (start old new : Schedule) (passed archive original : ℕ) → Passes before start passed old
    → Answers old.limits archive (Passed original) true old.lanes.items new.lanes.items → Passes before start (min (passed + 1) (2 ^ 64 - 1)) new
one_more_passed before start old new passed archive original passes answers =
    let less : left_in new + 1 ≡ left_in old = left_once old.limits archive original old.lanes.items new.lanes.items (answers.yes refl) in
    record {
      left = omega (arith, less, passes.left);
      most = omega (arith, less, passes.left, passes.most);
      counted = λ few.
          (let before_it : passed ≡ before + (left_in start - left_in old) = passes.counted (omega (arith, less, passes.left, few)) in
          omega (arith, less, passes.left, few, before_it));
    }

-- a job isn't, since it isn't the next of its archive
pub no_more_passed : (before : ℕ) (start old new : Schedule) (passed archive original : ℕ) → Passes before start passed old
    → Answers old.limits archive (Passed original) false old.lanes.items new.lanes.items → Passes before start passed new
no_more_passed before start old new passed archive original passes answers =
    let same : left_in new ≡ left_in old = ap (sum_by left_of) (answers.same refl) in
    record {
      left = omega (arith, same, passes.left);
      most = omega (arith, same, passes.most);
      counted = λ few. (let it = passes.counted (omega (arith, same, few)) in omega (arith, same, it));
    }

-- those of one archive more are
pub all_more_passed : (before : ℕ) (start old new : Schedule) (passed more : ℕ) → Passes before start passed old → Passes passed old more new
    → Passes before start more new
all_more_passed before start old new passed more first next =
    record {
      left = omega (arith, first.left, next.left);
      most = omega (arith, first.left, first.most, next.left, next.most);
      counted = λ few.
          (let it : passed ≡ before + (left_in start - left_in old) = first.counted (omega (arith, first.left, next.left, few)) in
          let more_it : more ≡ passed + (left_in old - left_in new) = next.counted (omega (arith, first.left, next.left, few, it)) in
          omega (arith, first.left, next.left, it, more_it));
    }

-- another place stays
other_at : (lanes : List Standing) (archive place : ℕ) (t : Standing) → ¬ (place ≡ archive)
    → slice_get (slice_set lanes archive t) place ≡ slice_get lanes place
other_at [] archive place t other = refl
other_at (first ∷ rest) zero zero t other = absurd (other refl)
other_at (first ∷ rest) zero (suc place) t other = refl
other_at (first ∷ rest) (suc archive) zero t other = refl
other_at (first ∷ rest) (suc archive) (suc place) t other = other_at rest archive place t (λ same. other (ap suc same))

-- a call that passes over a job leaves the other archives as they are
pub others_stay : (limits : Limits) (archive original : ℕ) (b : Bool) (old new : Schedule)
    → Answers limits archive (Passed original) b old.lanes.items new.lanes.items → IsAt archive old new
others_stay limits archive original true old new answers place other =
    let does = answers.yes refl in
    ap (λ (lanes : List Standing). slice_get lanes place) does.standings
    ∙ other_at old.lanes.items archive place (after_advance does.standing) other
others_stay limits archive original false old new answers place other =
    ap (λ (lanes : List Standing). slice_get lanes place) (answers.same refl)

pub others_still_stay : (archive : ℕ) (start old new : Schedule) → IsAt archive start old → IsAt archive old new → IsAt archive start new
others_still_stay archive start old new first next place other = next place other ∙ first place other

pub all_stay : (archive : ℕ) (schedule : Schedule) → IsAt archive schedule schedule
all_stay archive schedule place other = refl

-- the archives that a round asks stay, if this isn't one of them
pub asked_stay : (absences : Absences) (archive : ℕ) (old new : Schedule)
    → ¬ (IsSomeAnd (slice_get absences.archives.items archive) IsAsked) → IsAt archive old new → LeavesAsked absences old new
asked_stay absences archive old new unasked stays place asked =
    stays place (λ same. unasked (subst (λ (k : ℕ). IsSomeAnd (slice_get absences.archives.items k) IsAsked) same asked))

-- they stay over one archive more, where what the round asks is as before
pub asked_still_stay : (absences same : Absences) (start old new : Schedule) → same ≡ absences
    → LeavesAsked absences start old → LeavesAsked same old new → LeavesAsked absences start new
asked_still_stay absences same start old new is first next place asked =
    subst (λ (it : Absences). LeavesAsked it old new) is next place asked ∙ first place asked

pub none_is_left_out : (absences : Absences) (schedule : Schedule) → LeavesAsked absences schedule schedule
none_is_left_out absences schedule place asked = refl

-- they stay, whatever else changes of what the round notes
pub asked_by_same : (absences same : Absences) (start new : Schedule) → same ≡ absences → LeavesAsked absences start new
    → LeavesAsked same start new
asked_by_same absences same start new is stay = subst (λ (it : Absences). LeavesAsked it start new) (sym is) stay
