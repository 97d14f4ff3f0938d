-- What one act changes.
use Rattle.std.proofs.Common.{◌≡◌, ℕ, ◌+◌, ◌≤◌, ◌==◌, Bool, true, false, nat_lt, List, [], ◌∷◌, ◌++◌, length, Contains, Some, None, if◌then◌else◌, refl, sym, ap, ◌∙◌, arith, length-append}
use Rattle.std.proofs.lemmas.Option.{same_Some, none-some}
use Rattle.harvest_schedule.specs.declared.moods.Limits.{Limits}
use Rattle.harvest_schedule.specs.Moods.{comes_again}
use Rattle.harvest_schedule.specs.Standing.{Standing, walks}
use Rattle.harvest_schedule.specs.Lanes.{after_advance, advanced_by, job_by, without}
use Rattle.harvest_schedule.specs.Steps.{Act, Begun, Can, Ended, Handed, Passed, WalkBegun, WalkEnded, after_act}
use Rattle.harvest_schedule.specs.Runs.{IsOfRound, begins, comes, count_of, ends, finishes, hands, one_if, passes, settles}
use Rattle.harvest_schedule.proofs.Counts.{below, below_next, count_cons, count_push, count_without, length_without}

-- the job of a list from which none comes again
next_is_by : (b : Bool) (next original : ℕ) → (if b then Some next else None) ≡ Some original → original ≡ next
next_is_by true next original e = same_Some original next (sym e)
next_is_by false next original e = absurd (none-some original e)

-- the list goes on by the job of an original
pub record Advances (k original : ℕ) (s t : Standing) : Type 0 where
  pub out : t.out ≡ s.out
  pub pace : t.pace ≡ s.pace
  pub rest : t.rest ≡ s.rest
  pub mood : t.mood ≡ s.mood
  pub wished : t.wished ≡ s.wished
  pub originals : t.originals ≡ s.originals
  pub counts : count_of k t.again + below k s.next + one_if (original == k) ≡ count_of k s.again + below k t.next
  pub again : count_of k t.again ≤ count_of k s.again
  pub grows : s.next ≤ t.next

advances_by : (k original : ℕ) (again : List ℕ) (s : Standing) → s.again ≡ again → job_by again s.next s.originals ≡ Some original
    → Advances k original s (advanced_by again s)
advances_by k original [] s is job =
    let same : original ≡ s.next = next_is_by (nat_lt s.next s.originals) s.next original job in
    let e : one_if (original == k) ≡ one_if (s.next == k) = ap (λ n. one_if (n == k)) same in
    let more = below_next k s.next in
    record {
      out = refl;
      pace = refl;
      rest = refl;
      mood = refl;
      wished = refl;
      originals = refl;
      counts = omega (arith, e, more);
      again = omega arith;
      grows = omega arith;
    }
advances_by k original (x ∷ rest) s is job =
    let same : original ≡ x = same_Some original x (sym job) in
    let e : one_if (original == k) ≡ one_if (x == k) = ap (λ n. one_if (n == k)) same in
    let c : count_of k s.again ≡ one_if (x == k) + count_of k rest = ap (count_of k) is ∙ count_cons k x rest in
    record {
      out = refl;
      pace = refl;
      rest = refl;
      mood = refl;
      wished = refl;
      originals = refl;
      counts = omega (arith, e, c);
      again = omega (arith, c);
      grows = omega arith;
    }

pub advances : (k original : ℕ) (s : Standing) → job_by s.again s.next s.originals ≡ Some original → Advances k original s (after_advance s)
advances k original s job = advances_by k original s.again s refl job

-- ---- the jobs of a round

-- what an act does for the job of an original
pub record Moves (limits : Limits) (k : ℕ) (act : Act) (s t : Standing) : Type 0 where
  pub settled : settles limits k act + count_of k t.out + count_of k t.again + below k s.next ≡ count_of k s.out + count_of k s.again + below k t.next
  pub walked : hands k act + count_of k s.out ≡ ends k act + count_of k t.out
  pub told : ends k act + passes k act ≡ comes limits k act + settles limits k act
  pub again : count_of k t.again ≤ comes limits k act + count_of k s.again
  pub known : comes limits k act ≤ count_of k s.out
  pub grows : s.next ≤ t.next

settled_by : (b : Bool) (k o : ℕ) (out again : List ℕ) (n : ℕ) → Contains out o
    → (if b then 0 else one_if (o == k)) + count_of k (without o out) + count_of k (if b then again ++ o ∷ [] else again) + n
    ≡ count_of k out + count_of k again + n
settled_by true k o out again n has = (let w = count_without k o out has in let p = count_push k o again in omega (arith, w, p))
settled_by false k o out again n has = (let w = count_without k o out has in omega (arith, w))

told_by : (b : Bool) (n : ℕ) → n + 0 ≡ (if b then n else 0) + (if b then 0 else n)
told_by true n = omega arith
told_by false n = omega arith

again_by : (b : Bool) (k o : ℕ) (again : List ℕ)
    → count_of k (if b then again ++ o ∷ [] else again) ≤ (if b then one_if (o == k) else 0) + count_of k again
again_by true k o again = (let p = count_push k o again in omega (arith, p))
again_by false k o again = omega arith

known_by : (b : Bool) (k o : ℕ) (out : List ℕ) → Contains out o → (if b then one_if (o == k) else 0) ≤ count_of k out
known_by true k o out has = (let w = count_without k o out has in omega (arith, w))
known_by false k o out has = omega arith

pub moves : (limits : Limits) (k : ℕ) (act : Act) (s : Standing) → IsOfRound act → Can act s → Moves limits k act s (after_act limits act s)
moves limits k (Handed now original) s within can =
    let a : Advances k original s (after_advance s) = advances k original s can.1 in
    let p = count_push k original s.out in
    let c = a.counts in
    let g = a.again in
    let n = a.grows in
    record {
      settled = omega (arith, p, c);
      walked = omega (arith, p);
      told = omega arith;
      again = omega (arith, g);
      known = omega arith;
      grows = n;
    }
moves limits k (Passed original) s within can =
    let a : Advances k original s (after_advance s) = advances k original s can in
    let c = a.counts in
    let o : count_of k (after_advance s).out ≡ count_of k s.out = ap (count_of k) a.out in
    let g = a.again in
    let n = a.grows in
    record {
      settled = omega (arith, c, o);
      walked = omega (arith, o);
      told = omega arith;
      again = omega (arith, g);
      known = omega arith;
      grows = n;
    }
moves limits k (Ended now original verdict) s within can =
    let w = count_without k original s.out can in
    record {
      settled = settled_by (comes_again limits verdict) k original s.out s.again (below k s.next) can;
      walked = omega (arith, w);
      told = told_by (comes_again limits verdict) (one_if (original == k));
      again = again_by (comes_again limits verdict) k original s.again;
      known = known_by (comes_again limits verdict) k original s.out can;
      grows = omega arith;
    }
moves limits k (WalkBegun now) s within can = record {
  settled = omega arith;
  walked = omega arith;
  told = omega arith;
  again = omega arith;
  known = omega arith;
  grows = omega arith;
}
moves limits k (WalkEnded now verdict) s within can = record {
  settled = omega arith;
  walked = omega arith;
  told = omega arith;
  again = omega arith;
  known = omega arith;
  grows = omega arith;
}
moves limits k (Begun originals) s within can = absurd within

-- ---- walks

-- what an act does for the walks that are out
pub record Walks (act : Act) (s t : Standing) : Type 0 where
  pub pace : t.pace ≡ s.pace
  pub balance : begins act + walks s ≡ finishes act + walks t
  pub few : walks s ≤ s.pace.at_once → walks t ≤ s.pace.at_once

pub walks_by : (limits : Limits) (act : Act) (s : Standing) → Can act s → Walks act s (after_act limits act s)
walks_by limits (Handed now original) s can =
    let a : Advances 0 original s (after_advance s) = advances 0 original s can.1 in
    let w = a.wished in
    let l = length-append s.out (original ∷ []) in
    let f = can.0.may.few in
    record { pace = a.pace; balance = omega (arith, w, l); few = λ h. omega (arith, w, l, f) }
walks_by limits (Passed original) s can =
    let a : Advances 0 original s (after_advance s) = advances 0 original s can in
    let w = a.wished in
    let l : length (after_advance s).out ≡ length s.out = ap length a.out in
    record { pace = a.pace; balance = omega (arith, w, l); few = λ h. omega (arith, w, l, h) }
walks_by limits (Ended now original verdict) s can =
    let l = length_without original s.out can in
    record { pace = refl; balance = omega (arith, l); few = λ h. omega (arith, l, h) }
walks_by limits (WalkBegun now) s can =
    let f = can.may.few in record { pace = refl; balance = omega arith; few = λ h. omega (arith, f) }
walks_by limits (WalkEnded now verdict) s can = record { pace = refl; balance = omega (arith, can); few = λ h. omega (arith, h) }
walks_by limits (Begun originals) s can = record { pace = refl; balance = omega arith; few = λ h. h }
