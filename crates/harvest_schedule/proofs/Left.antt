-- What is left of a round.
use Rattle.std.proofs.Common.{◌≡◌, ℕ, ◌+◌, ◌-◌, ◌<◌, Bool, true, false, nat_lt, List, [], ◌∷◌, ◌++◌, length, Contains, Some, None, if◌then◌else◌, refl, sym, ap, subst, ◌∙◌, arith, length-append}
use Rattle.std.proofs.lemmas.Bool.Decides.{nat_tests}
use Rattle.std.proofs.lemmas.Option.{none-some}
use Rattle.harvest_schedule.specs.declared.moods.Limits.{Limits}
use Rattle.harvest_schedule.specs.Moods.{comes_again}
use Rattle.harvest_schedule.specs.Standing.{Standing}
use Rattle.harvest_schedule.specs.Lanes.{after_advance, advanced_by, job_by, left_of, without}
use Rattle.harvest_schedule.specs.Steps.{Act, Begun, Can, Ended, Handed, Passed, WalkBegun, WalkEnded, after_act}
use Rattle.harvest_schedule.specs.Runs.{AllCounted, IsOfRound, IsOneRound, Leads, closes, times}
use Rattle.harvest_schedule.proofs.Acts.{Advances, advances}
use Rattle.harvest_schedule.proofs.Counts.{length_without}

some_by : (b : Bool) (next original : ℕ) → (if b then Some next else None) ≡ Some original → b ≡ true
some_by true next original e = refl
some_by false next original e = absurd (none-some original e)

-- one less is left once the list goes on
left_by : (original : ℕ) (again : List ℕ) (s : Standing) → s.again ≡ again → job_by again s.next s.originals ≡ Some original
    → left_of (advanced_by again s) + 1 ≡ left_of s
left_by original [] s is job =
    let e : nat_lt s.next s.originals ≡ true = some_by (nat_lt s.next s.originals) s.next original job in
    let lt : s.next < s.originals = grind (arith, nat_tests, e) in
    omega (arith, lt)
left_by original (x ∷ rest) s is job = (let l : length s.again ≡ length (x ∷ rest) = ap length is in omega (arith, l))

record Closes (limits : Limits) (act : Act) (s t : Standing) : Type 0 where
  originals : t.originals ≡ s.originals
  balance : closes limits act + length t.out + left_of t ≡ length s.out + left_of s

ended_by : (b : Bool) (original : ℕ) (out again : List ℕ) (n : ℕ) → Contains out original
    → (if b then 0 else 1) + length (without original out) + (n + length (if b then again ++ original ∷ [] else again))
    ≡ length out + (n + length again)
ended_by true original out again n has =
    (let l = length_without original out has in let a = length-append again (original ∷ []) in omega (arith, l, a))
ended_by false original out again n has = (let l = length_without original out has in omega (arith, l))

closes_by : (limits : Limits) (act : Act) (s : Standing) → IsOfRound act → Can act s → Closes limits act s (after_act limits act s)
closes_by limits (Handed now original) s within can =
    let a : Advances 0 original s (after_advance s) = advances 0 original s can.1 in
    let l : left_of (after_advance s) + 1 ≡ left_of s = left_by original s.again s refl can.1 in
    let p = length-append s.out (original ∷ []) in
    record { originals = a.originals; balance = omega (arith, l, p) }
closes_by limits (Passed original) s within can =
    let a : Advances 0 original s (after_advance s) = advances 0 original s can in
    let l : left_of (after_advance s) + 1 ≡ left_of s = left_by original s.again s refl can in
    let o : length (after_advance s).out ≡ length s.out = ap length a.out in
    record { originals = a.originals; balance = omega (arith, l, o) }
closes_by limits (Ended now original verdict) s within can =
    record { originals = refl; balance = ended_by (comes_again limits verdict) original s.out s.again (s.originals - s.next) can }
closes_by limits (WalkBegun now) s within can = record { originals = refl; balance = omega arith }
closes_by limits (WalkEnded now verdict) s within can = record { originals = refl; balance = omega arith }
closes_by limits (Begun originals) s within can = absurd within

record Closed (limits : Limits) (acts : List Act) (s t : Standing) : Type 0 where
  originals : t.originals ≡ s.originals
  balance : times (closes limits) acts + length t.out + left_of t ≡ length s.out + left_of s

none_closed : (limits : Limits) (s : Standing) → Closed limits [] s s
none_closed limits s = record { originals = refl; balance = omega arith }

one_more : (limits : Limits) (act : Act) (acts : List Act) (s n t : Standing) → Closes limits act s n → Closed limits acts n t
    → Closed limits (act ∷ acts) s t
one_more limits act acts s n t c r =
    let cb = c.balance in
    let rb = r.balance in
    record { originals = r.originals ∙ c.originals; balance = omega (arith, cb, rb) }

closed : (limits : Limits) (acts : List Act) (s t : Standing) → IsOneRound acts → Leads limits acts s t → Closed limits acts s t
closed limits [] s t one leads = subst (Closed limits [] s) (sym leads) (none_closed limits s)
closed limits (act ∷ acts) s t one leads =
    one_more limits act acts s (after_act limits act s) t (closes_by limits act s one.0 leads.0)
    (closed limits acts (after_act limits act s) t one.1 leads.1)

pub all_counted : AllCounted
all_counted limits acts s t begun one leads =
    let r : Closed limits acts s t = closed limits acts s t one leads in
    let b = r.balance in
    let o = r.originals in
    let next = begun.next in
    let out : length s.out ≡ 0 = ap length begun.out in
    let again : length s.again ≡ 0 = ap length begun.again in
    omega (arith, b, o, next, out, again)
