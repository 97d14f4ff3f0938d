-- What a round comes to, from the acts of an archive.
use Rattle.std.proofs.Common.{◌≡◌, ⊎_elim, inl, inr, ℕ, ◌+◌, ◌<◌, ◌≤◌, Bool, true, false, nat_lt, List, [], ◌∷◌, Some, None, IsNone, if◌then◌else◌, refl, sym, ap, subst, ◌∙◌, arith}
use Rattle.std.proofs.lemmas.Bool.Decides.{nat_tests}
use Rattle.std.proofs.lemmas.Bool.{true≢false}
use Rattle.harvest_schedule.specs.declared.moods.Limits.{Limits}
use Rattle.harvest_schedule.specs.declared.moods.Pace.{Pace}
use Rattle.harvest_schedule.specs.Moods.{SleepsAt}
use Rattle.harvest_schedule.specs.Standing.{Standing, walks}
use Rattle.harvest_schedule.specs.Lanes.{new_standing, job_by, job_of}
use Rattle.harvest_schedule.specs.Steps.{Act, after_act}
use Rattle.harvest_schedule.specs.Runs.{AllFair, AllFew, AllRest, HasBegun, IsFair, IsOneRound, Leads, begins, comes, count_of, ends, finishes, hands, passes, settles, times}
use Rattle.harvest_schedule.proofs.Acts.{Moves, Walks, moves, walks_by}
use Rattle.harvest_schedule.proofs.Counts.{below, below_no, below_yes, one_if_le}

-- what acts of one round do for the job of an original
record Sums (limits : Limits) (k : ℕ) (acts : List Act) (s t : Standing) : Type 0 where
  settled : times (settles limits k) acts + count_of k t.out + count_of k t.again + below k s.next ≡ count_of k s.out + count_of k s.again + below k t.next
  walked : times (hands k) acts + count_of k s.out ≡ times (ends k) acts + count_of k t.out
  told : times (ends k) acts + times (passes k) acts ≡ times (comes limits k) acts + times (settles limits k) acts
  again : count_of k t.again ≤ times (comes limits k) acts + count_of k s.again
  grows : s.next ≤ t.next
  early : t.next ≤ k → count_of k s.out + count_of k s.again ≡ 0 → times (hands k) acts + times (passes k) acts ≡ 0

none_done : (limits : Limits) (k : ℕ) (s : Standing) → Sums limits k [] s s
none_done limits k s = record {
  settled = omega arith;
  walked = omega arith;
  told = omega arith;
  again = omega arith;
  grows = omega arith;
  early = λ late none. omega arith;
}

-- before its time a job isn't met
early_by : (limits : Limits) (k : ℕ) (act : Act) (acts : List Act) (s n t : Standing) → Moves limits k act s n → Sums limits k acts n t
    → t.next ≤ k → count_of k s.out + count_of k s.again ≡ 0 → times (hands k) (act ∷ acts) + times (passes k) (act ∷ acts) ≡ 0
early_by limits k act acts s n t m r late none =
    let grows = r.grows in
    let more = m.grows in
    let settled = m.settled in
    let walked = m.walked in
    let told = m.told in
    let known = m.known in
    let b : below k s.next ≡ 0 = below_no k s.next (omega (arith, grows, more, late)) in
    let c : below k n.next ≡ 0 = below_no k n.next (omega (arith, grows, late)) in
    let rest : times (hands k) acts + times (passes k) acts ≡ 0 = r.early late (omega (arith, settled, b, c, none)) in
    omega (arith, settled, walked, told, known, b, c, none, rest)

one_more : (limits : Limits) (k : ℕ) (act : Act) (acts : List Act) (s n t : Standing) → Moves limits k act s n → Sums limits k acts n t
    → Sums limits k (act ∷ acts) s t
one_more limits k act acts s n t m r =
    let ms = m.settled in
    let rs = r.settled in
    let mw = m.walked in
    let rw = r.walked in
    let mt = m.told in
    let rt = r.told in
    let ma = m.again in
    let ra = r.again in
    let mg = m.grows in
    let rg = r.grows in
    record {
      settled = omega (arith, ms, rs);
      walked = omega (arith, mw, rw);
      told = omega (arith, mt, rt);
      again = omega (arith, ma, ra);
      grows = omega (arith, mg, rg);
      early = early_by limits k act acts s n t m r;
    }

sums : (limits : Limits) (k : ℕ) (acts : List Act) (s t : Standing) → IsOneRound acts → Leads limits acts s t → Sums limits k acts s t
sums limits k [] s t one leads = subst (Sums limits k [] s) (sym leads) (none_done limits k s)
sums limits k (act ∷ acts) s t one leads =
    one_more limits k act acts s (after_act limits act s) t (moves limits k act s one.0 leads.0)
    (sums limits k acts (after_act limits act s) t one.1 leads.1)

-- what they do from the beginning of the round
record FromBegin (limits : Limits) (k : ℕ) (acts : List Act) (t : Standing) : Type 0 where
  settled : times (settles limits k) acts + count_of k t.out + count_of k t.again ≡ below k t.next
  walked : times (hands k) acts ≡ times (ends k) acts + count_of k t.out
  told : times (ends k) acts + times (passes k) acts ≡ times (comes limits k) acts + times (settles limits k) acts
  again : count_of k t.again ≤ times (comes limits k) acts
  early : t.next ≤ k → times (hands k) acts + times (passes k) acts ≡ 0

from_begin : (limits : Limits) (k : ℕ) (acts : List Act) (s t : Standing) → HasBegun s → IsOneRound acts → Leads limits acts s t
    → FromBegin limits k acts t
from_begin limits k acts s t begun one leads =
    let r : Sums limits k acts s t = sums limits k acts s t one leads in
    let rs = r.settled in
    let rw = r.walked in
    let ra = r.again in
    let next = begun.next in
    let out : count_of k s.out ≡ 0 = ap (count_of k) begun.out in
    let again : count_of k s.again ≡ 0 = ap (count_of k) begun.again in
    let b : below k s.next ≡ 0 = below_no k s.next (omega (arith, next)) in
    record {
      settled = omega (arith, rs, out, again, b);
      walked = omega (arith, rw, out);
      told = r.told;
      again = omega (arith, ra, again);
      early = λ late. r.early late (omega (arith, out, again));
    }

fair_of : (limits : Limits) (k : ℕ) (acts : List Act) (t : Standing) → FromBegin limits k acts t → IsFair limits k acts t
fair_of limits k acts t f =
    let settled = f.settled in
    let walked = f.walked in
    let told = f.told in
    let again = f.again in
    let most : below k t.next ≤ 1 = one_if_le (nat_lt k t.next) in
    record {
      each_once = omega (arith, settled, walked, told, again, most);
      in_order = λ lt. let b = below_yes k t.next lt in omega (arith, settled, walked, told, again, b);
      not_yet = f.early;
      as_many = walked;
      settled = λ lt. let b = below_yes k t.next lt in omega (arith, settled, b);
    }

pub all_fair : AllFair
all_fair limits acts s t begun one leads k = fair_of limits k acts t (from_begin limits k acts s t begun one leads)

-- ---- the end of a round

some_isnt_none : (b : Bool) (next : ℕ) → IsNone (if b then Some next else None) → b ≡ false
some_isnt_none true next none = absurd (true≢false none)
some_isnt_none false next none = refl

none_left : (k : ℕ) (again : List ℕ) (next originals : ℕ) → IsNone (job_by again next originals) → (count_of k again ≡ 0) × (originals ≤ next)
none_left k [] next originals none =
    let e : nat_lt next originals ≡ false = some_isnt_none (nat_lt next originals) next none in
    (refl, grind (arith, nat_tests, e))
none_left k (x ∷ rest) next originals none = absurd (true≢false none)

done_with : (limits : Limits) (k : ℕ) (acts : List Act) (t : Standing) → FromBegin limits k acts t → t.out ≡ [] → IsNone (job_of t)
    → k < t.originals → times (settles limits k) acts ≡ 1
done_with limits k acts t f idle none lt =
    let settled = f.settled in
    let left = none_left k t.again t.next t.originals none in
    let again = left.0 in
    let all = left.1 in
    let out : count_of k t.out ≡ 0 = ap (count_of k) idle in
    let b = below_yes k t.next (omega (arith, lt, all)) in
    omega (arith, settled, again, out, b)

pub all_rest : AllRest
all_rest limits acts s t now begun one leads over k lt =
    let f = from_begin limits k acts s t begun one leads in
    ⊎_elim (λ (none : IsNone (job_of t)). inl (done_with limits k acts t f over.idle none lt))
    (λ (sleeps : SleepsAt now t.mood). inr sleeps) over.done

-- ---- walks

record Out (acts : List Act) (s t : Standing) : Type 0 where
  pace : t.pace ≡ s.pace
  balance : times begins acts + walks s ≡ times finishes acts + walks t
  few : walks s ≤ s.pace.at_once → walks t ≤ s.pace.at_once

outs : (limits : Limits) (acts : List Act) (s t : Standing) → Leads limits acts s t → Out acts s t
outs limits [] s t leads =
    subst (Out [] s) (sym leads) (record { pace = refl; balance = omega arith; few = λ h. h })
outs limits (act ∷ acts) s t leads =
    let n : Standing = after_act limits act s in
    let w : Walks act s n = walks_by limits act s leads.0 in
    let r : Out acts n t = outs limits acts n t leads.1 in
    let wb = w.balance in
    let rb = r.balance in
    let same : n.pace.at_once ≡ s.pace.at_once = ap (λ (p : Pace). p.at_once) w.pace in
    record {
      pace = r.pace ∙ w.pace;
      balance = omega (arith, wb, rb);
      few = λ h. let wf = w.few h in let rf = r.few (omega (arith, wf, same)) in omega (arith, rf, same);
    }

pub all_few : AllFew
all_few limits originals pace acts s leads =
    let o : Out acts (new_standing originals pace) s = outs limits acts (new_standing originals pace) s leads in
    let b = o.balance in
    let f = o.few (omega arith) in
    let same : s.pace.at_once ≡ pace.at_once = ap (λ (p : Pace). p.at_once) o.pace in
    (record { few = omega (arith, f, same); as_many = omega (arith, b) }, o.pace)
