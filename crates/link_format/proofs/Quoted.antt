-- Quoted texts, behind the opening quote.
use Rattle.std.proofs.Common.{◌≡◌, ℕ, true, false, not, List, [], ◌∷◌, Some, refl, sym, ap, subst, inl, inr}
use Rattle.std.specs.Prelude.{IsTrue, ◌==◌, ◌&&◌}
use Rattle.std.proofs.lemmas.Bool.{cases_Bool, and_parts, not-true}
use Rattle.link_format.specs.Bytes.{is_quotable, is_plain}
use Rattle.link_format.specs.Scan.{front, past, after_byte, after_quoted, quoted_bytes}
use Rattle.link_format.proofs.Sound.{after_byte_is}

pub plain_parts : (b : ℕ) → IsTrue (is_plain b) → (is_quotable b ≡ true) × ((b == 34) ≡ false) × ((b == 92) ≡ false)
plain_parts b is =
    let x = and_parts (is_quotable b && not (b == 34)) (not (b == 92)) is in
    let y = and_parts (is_quotable b) (not (b == 34)) x.0 in
    (y.0, not-true (b == 34) y.1, not-true (b == 92) x.1)

-- what follows the closing quote doesn't depend on the plain bytes before
pub after_plain : (text : List ℕ) → after_quoted false text ≡ after_quoted false (past is_plain text)
after_plain [] = refl
after_plain (b ∷ text) =
    elim (cases_Bool (is_plain b)) [
      | inl is ↦ let k = plain_parts b is in rw (k.1, k.0, k.2) (after_plain text)
      | inr not_plain ↦ rw not_plain refl
    ]

-- plain bytes up to the closing quote are what is meant
pub plain_until_quote : (text rest : List ℕ) → after_byte 34 (past is_plain text) ≡ Some rest → (after_quoted false text ≡ Some rest) × (quoted_bytes false text ≡ front is_plain text)
plain_until_quote [] rest h = absurd cc
plain_until_quote (b ∷ text) rest h =
    elim (cases_Bool (is_plain b)) [
      | inl is ↦
          let k = plain_parts b is in
          let i = plain_until_quote text rest (rw (k.1, k.0, k.2) at h) in
          (rw (k.1, k.0, k.2) i.0, rw (k.1, k.0, k.2) (ap (λ (t : List ℕ). b ∷ t) i.1))
      | inr not_plain ↦
          let e : b ∷ text ≡ 34 ∷ rest = after_byte_is 34 (b ∷ text) rest (rw not_plain at h) in
          subst (λ (t : List ℕ). (after_quoted false t ≡ Some rest) × (quoted_bytes false t ≡ front is_plain t)) (sym e) (refl, refl)
    ]
