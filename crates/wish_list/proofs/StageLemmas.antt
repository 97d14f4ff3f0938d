-- How often archives are asked.
use Rattle.std.proofs.Common.{◌≡◌, ℕ, suc, zero, ◌+◌, Bool, true, false, List, [], ◌∷◌, refl, sym, ap, inl, inr, arith, map}
use Rattle.std.specs.Prelude.{◌==◌, slice_get, slice_set, if◌then◌else◌}
use Rattle.std.proofs.lemmas.Bool.{true≢false, cases_eq, false_from_ne_true}
use Rattle.std.proofs.lemmas.Bool.Decides.{Decides-eqb}
use Rattle.wish_list.specs.declared.stages.Stage.{Stage}
use Rattle.wish_list.specs.declared.stages.Stage.TheVariants.{Waits, Out, Has, HasNone, Failed, Skipped, Spared}
use Rattle.wish_list.specs.declared.stages.WishAnswer.{WishAnswer}
use Rattle.wish_list.specs.declared.stages.WishAnswer.TheVariants.{Copies, NoCopies, NoHarvest}
use Rattle.wish_list.specs.Stages.{Act, AreAskedOnce, IsRun, asks, stage_at_first, can, stages_after, holds, is_out, stage_of, times_asked, waits, was_asked}
use Rattle.wish_list.specs.Stages.Act.{Asks, Comes, Skips}

one : Bool → ℕ
one b = if b then 1 else 0

abbrev asked_at : List Stage → ℕ → ℕ
asked_at stages archive = if holds was_asked (slice_get stages archive) then 1 else 0

-- of a stage that replaces one
abbrev counts : Stage → ℕ
counts stage = if was_asked stage then 1 else 0

waits_uncounted : (stage : Stage) → waits stage ≡ true → counts stage ≡ 0
unfolding waits
waits_uncounted Waits h = refl
waits_uncounted Out h = absurd (true≢false (sym h))
waits_uncounted Has h = absurd (true≢false (sym h))
waits_uncounted HasNone h = absurd (true≢false (sym h))
waits_uncounted Failed h = absurd (true≢false (sym h))
waits_uncounted Skipped h = absurd (true≢false (sym h))
waits_uncounted Spared h = absurd (true≢false (sym h))

out_counted : (stage : Stage) → is_out stage ≡ true → counts stage ≡ 1
unfolding is_out
out_counted Waits h = absurd (true≢false (sym h))
out_counted Out h = refl
out_counted Has h = absurd (true≢false (sym h))
out_counted HasNone h = absurd (true≢false (sym h))
out_counted Failed h = absurd (true≢false (sym h))
out_counted Skipped h = absurd (true≢false (sym h))
out_counted Spared h = absurd (true≢false (sym h))

answer_counted : (answer : WishAnswer) → counts (stage_of answer) ≡ 1
answer_counted Copies = refl
answer_counted NoCopies = refl
answer_counted NoHarvest = refl

-- what a change of one archive does to the count of that archive, and of another
at_same : (stages : List Stage) (archive : ℕ) (test : Stage → Bool) (stage : Stage) → holds test (slice_get stages archive) ≡ true → asked_at (slice_set stages archive stage) archive ≡ counts stage
at_same [] archive test stage h = absurd (true≢false (sym h))
at_same (x ∷ xs) zero test stage h = refl
at_same (x ∷ xs) (suc archive) test stage h = at_same xs archive test stage h

at_other : (stages : List Stage) (archive other : ℕ) (stage : Stage) → (other ≡ archive → ⊥) → asked_at (slice_set stages archive stage) other ≡ asked_at stages other
at_other [] archive other stage ne = refl
at_other (x ∷ xs) zero zero stage ne = absurd (ne refl)
at_other (x ∷ xs) zero (suc other) stage ne = refl
at_other (x ∷ xs) (suc archive) zero stage ne = refl
at_other (x ∷ xs) (suc archive) (suc other) stage ne = at_other xs archive other stage (λ e. ne (ap (λ (n : ℕ). suc n) e))

-- what was counted of an archive of which a test holds
was : (stages : List Stage) (archive : ℕ) (test : Stage → Bool) (n : ℕ) → ((stage : Stage) → test stage ≡ true → counts stage ≡ n)
    → holds test (slice_get stages archive) ≡ true → asked_at stages archive ≡ n
was [] archive test n each h = absurd (true≢false (sym h))
was (x ∷ xs) zero test n each h = each x h
was (x ∷ xs) (suc archive) test n each h = was xs archive test n each h

eqb_true : (a b : ℕ) → a ≡ b → (a == b) ≡ true
eqb_true a b e = (Decides-eqb a b).1 e

eqb_false : (a b : ℕ) → (a ≡ b → ⊥) → (a == b) ≡ false
eqb_false a b ne = false_from_ne_true (a == b) (λ t. ne ((Decides-eqb a b).0 t))

asks_same : (a b : ℕ) → a ≡ b → asks a (Asks b) ≡ 1
asks_same a b e = ap (λ (t : Bool). if t then 1 else 0) (eqb_true a b e)

asks_other : (a b : ℕ) → (a ≡ b → ⊥) → asks a (Asks b) ≡ 0
asks_other a b ne = ap (λ (t : Bool). if t then 1 else 0) (eqb_false a b ne)

-- one call counts what it asks
step : (act : Act) (stages : List Stage) (archive : ℕ) → can act stages ≡ true → asks archive act + asked_at stages archive ≡ asked_at (stages_after act stages) archive
step (Asks other) stages archive h = elim (cases_eq archive other) [
  | inl e ↦
      let before : asked_at stages other ≡ 0 = was stages other waits 0 waits_uncounted h in
      let after : asked_at (slice_set stages other Out) other ≡ 1 = at_same stages other waits Out h in
      let once : asks archive (Asks other) ≡ 1 = asks_same archive other e in
      let old : asked_at stages archive ≡ asked_at stages other = ap (λ (n : ℕ). asked_at stages n) e in
      let new : asked_at (slice_set stages other Out) archive ≡ asked_at (slice_set stages other Out) other = ap (λ (n : ℕ). asked_at (slice_set stages other Out) n) e in
      omega (arith, before, after, once, old, new)
  | inr ne ↦
      let same : asked_at (slice_set stages other Out) archive ≡ asked_at stages archive = at_other stages other archive Out ne in
      let none : asks archive (Asks other) ≡ 0 = asks_other archive other ne in
      omega (arith, same, none)
]
step (Comes other answer) stages archive h = elim (cases_eq archive other) [
  | inl e ↦
      let before : asked_at stages other ≡ 1 = was stages other is_out 1 out_counted h in
      let after : asked_at (slice_set stages other (stage_of answer)) other ≡ counts (stage_of answer) = at_same stages other is_out (stage_of answer) h in
      let counted : counts (stage_of answer) ≡ 1 = answer_counted answer in
      let old : asked_at stages archive ≡ asked_at stages other = ap (λ (n : ℕ). asked_at stages n) e in
      let new : asked_at (slice_set stages other (stage_of answer)) archive ≡ asked_at (slice_set stages other (stage_of answer)) other =
      ap (λ (n : ℕ). asked_at (slice_set stages other (stage_of answer)) n) e in
      omega (arith, before, after, counted, old, new)
  | inr ne ↦
      let same : asked_at (slice_set stages other (stage_of answer)) archive ≡ asked_at stages archive = at_other stages other archive (stage_of answer) ne in
      omega (arith, same)
]
step (Skips other) stages archive h = elim (cases_eq archive other) [
  | inl e ↦
      let before : asked_at stages other ≡ 0 = was stages other waits 0 waits_uncounted h in
      let after : asked_at (slice_set stages other Skipped) other ≡ 0 = at_same stages other waits Skipped h in
      let old : asked_at stages archive ≡ asked_at stages other = ap (λ (n : ℕ). asked_at stages n) e in
      let new : asked_at (slice_set stages other Skipped) archive ≡ asked_at (slice_set stages other Skipped) other = ap (λ (n : ℕ). asked_at (slice_set stages other Skipped) n) e in
      omega (arith, before, after, old, new)
  | inr ne ↦
      let same : asked_at (slice_set stages other Skipped) archive ≡ asked_at stages archive = at_other stages other archive Skipped ne in
      omega (arith, same)
]

run : (start : List Stage) (acts : List Act) (end : List Stage) (archive : ℕ) → IsRun start acts end → times_asked archive acts + asked_at start archive ≡ asked_at end archive
run start [] end archive is = let same : asked_at start archive ≡ asked_at end archive = ap (λ (stages : List Stage). asked_at stages archive) is in omega (arith, same)
run start (act ∷ acts) end archive is =
    let first : asks archive act + asked_at start archive ≡ asked_at (stages_after act start) archive = step act start archive is.0 in
    let rest : times_asked archive acts + asked_at (stages_after act start) archive ≡ asked_at end archive = run (stages_after act start) acts end archive is.1 in
    omega (arith, first, rest)

none_at_first : (spared : List Bool) (archive : ℕ) → asked_at (map stage_at_first spared) archive ≡ 0
none_at_first [] archive = refl
none_at_first (true ∷ spared) zero = refl
none_at_first (false ∷ spared) zero = refl
none_at_first (b ∷ spared) (suc archive) = none_at_first spared archive

pub once : AreAskedOnce
once spared acts end archive is =
    let all : times_asked archive acts + asked_at (map stage_at_first spared) archive ≡ asked_at end archive = run (map stage_at_first spared) acts end archive is in
    let none : asked_at (map stage_at_first spared) archive ≡ 0 = none_at_first spared archive in
    omega (arith, all, none)
