use Rattle.std.proofs.Common.{◌≡◌, ◌∙◌, ℕ, List, ◌++◌, length, take, drop, ap, arith, refl}
use Rattle.std.proofs.lemmas.List.{append-nil, drop_all, length-drop}
use borrow.Rule.Slice.PartMut.{put_mid}
use Rattle.memento_time.specs.Second.{imf}
use Rattle.memento_time.proofs.DayLemmas.{imf_same_day}
use Rattle.memento_time.proofs.dates.DateWriter.write.Goals as goal
use Rattle.memento_time.proofs.dates.DateWriter.write.Goals.{then-secs, else-secs}

-- nothing stands behind the clock
put_last : (text clock : List ℕ) → length text ≡ 29 → put_mid 17 12 text clock ≡ take 17 text ++ clock
put_last text clock len = rw (drop_all 12 (drop 17 text) (rw length-drop (omega (arith, len)))) (ap (λ (rest : List ℕ). take 17 text ++ rest) (append-nil clock))

text_is : (c : goal.Joined-secs) → c.if-secs.text ≡ imf c.args.moment
text_is c =
    elim c.if-secs.branch [
      | then-secs w ↦
          w.text-is ∙ (put_last c.self.inside.text _ c.self.told
          ∙ (rw (w.copy_from_slice.ensures.after, w.to_clock.ensures, c.secs-secs.ensures.value, c.self.invariant)
          (imf_same_day c.args.moment c.self.inside.moment (rw c.secs-secs.ensures.value at c.secs-secs.ensures.bound) (rw c.secs.ensures.value at c.secs.ensures.bound)
          (rw (c.secs-secs.ensures.value, c.secs.ensures.value) at w.if-secs.true))))
      | else-secs w ↦ w.text-is ∙ w.to_imf-text.ensures
    ]

pub invariant_of-self : goal.invariant_of-self
invariant_of-self c = text_is c

pub returns : goal.returns
returns c = record { text = text_is c; day = refl }
