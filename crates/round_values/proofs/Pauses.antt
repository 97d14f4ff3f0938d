-- Rounds that follow one another within a pause.
use Rattle.std.proofs.Common.{◌≡◌, ℕ, ◌-◌, ◌≤◌, Bool, true, false, List, [], ◌∷◌, Option, Some, None, refl, sym, ap, ◌∙◌, arith}
use Rattle.std.specs.Prelude.{min}
use Rattle.std.specs.List.{sum_by}
use Rattle.std.proofs.lemmas.Bool.{false≢true}
use Rattle.std.proofs.lemmas.List.Sums.{sum_by-cons}
use Rattle.service_settings.specs.declared.asking.Asking.{Asking}
use Rattle.round_values.specs.declared.absences.Next.{Next}
use Rattle.round_values.specs.declared.absences.Scope.TheVariants.{All, Absent}
use Rattle.round_values.specs.Absences.{Follows, IsPause, PausesAreWhole, WaitsAre, in_ms, wait_of, whole}

-- the wait is no longer than what is left, and that of the archives' sleep where these alone are asked
record Waits (asking : Asking) (left : ℕ) (next : Next) : Type 0 where
  within : next.wait ≤ left
  slept : next.scope ≡ Absent → next.wait ≡ in_ms asking.dormant

absent≢all : Absent ≡ All → ⊥
absent≢all e = grind arith

-- what asks all archives
of_whole : (asking : Asking) (left : ℕ) (next : Next) → next ≡ whole left → Waits asking left next
of_whole asking left next e =
    let w : next.wait ≡ left = ap (λ (n : Next). n.wait) e in
    let s : next.scope ≡ All = ap (λ (n : Next). n.scope) e in
    record { within = omega (arith, w); slept = λ it. absurd (absent≢all (sym it ∙ s)) }

of_absent : (asking : Asking) (left : ℕ) (next : Next) → next.wait ≡ min (in_ms asking.dormant) left
    → (next.wait ≡ left → next.scope ≡ All) → Waits asking left next
of_absent asking left next w all = record {
  within = omega (arith, w);
  slept = λ it. grind (arith, w, all, it, absent≢all);
}

waits_by : (asking : Asking) (left : ℕ) (next : Next) (tolerance : Option ℕ) (some_absent : Bool) → asking.tolerance ≡ tolerance
    → Follows asking left (some_absent ≡ true) next → Waits asking left next
waits_by asking left next tolerance false e f = of_whole asking left next (f.none_absent false≢true)
waits_by asking left next None true e f = of_whole asking left next (f.intolerant e)
waits_by asking left next (Some most) true e f = of_absent asking left next (grind (arith, f.absent, e)) (grind (arith, f.scope))

waits : (asking : Asking) (left : ℕ) (next : Next) → ((some_absent : Bool) × Follows asking left (some_absent ≡ true) next)
    → Waits asking left next
waits asking left next follows = waits_by asking left next asking.tolerance follows.0 refl follows.1

sum_is : (asking : Asking) (left : ℕ) (rounds : List Next) → IsPause asking left rounds → sum_by wait_of rounds ≡ left
sum_is asking left [] p = absurd p
sum_is asking left (next ∷ []) p =
    let w : next.wait ≡ left = grind (arith, p.0, (p.1).1.scope) in
    let all = sum_by-cons wait_of next [] in
    omega (arith, w, all)
sum_is asking left (next ∷ another ∷ rest) p =
    let w = (waits asking left next p.1).within in
    let others = sum_is asking (left - next.wait) (another ∷ rest) p.2 in
    let all = sum_by-cons wait_of next (another ∷ rest) in
    omega (arith, w, others, all)

waits_are : (asking : Asking) (left : ℕ) (rounds : List Next) → IsPause asking left rounds → WaitsAre (in_ms asking.dormant) rounds
waits_are asking left [] p = absurd p
waits_are asking left (next ∷ []) p = ((waits asking left next p.1).slept, tt)
waits_are asking left (next ∷ another ∷ rest) p =
    ((waits asking left next p.1).slept, waits_are asking (left - next.wait) (another ∷ rest) p.2)

pub pauses_are_whole : PausesAreWhole
pauses_are_whole = record { sum_is = sum_is; waits = waits_are }
