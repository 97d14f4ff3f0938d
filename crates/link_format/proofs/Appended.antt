-- Pieces that are appended one after the other.
use Rattle.std.proofs.Common.{◌≡◌, ◌≤◌, arith, ℕ, List, [], ◌∷◌, ◌++◌, length, take, Some, refl, sym, ap, ◌∙◌, append_assoc, inl, inr}
use Rattle.std.specs.Prelude.{◌==◌, ◌||◌}
use Rattle.std.proofs.lemmas.Bool.{cases_Bool}
use Rattle.std.proofs.lemmas.List.{append-nil}
use Rattle.std.proofs.Math.Seq.{take-append_seam}
use Rattle.link_format.specs.Bytes.{is_plain}
use Rattle.link_format.specs.Scan.{front, past}
use Rattle.link_format.specs.Writing.{Extends, IsPlainValue, escape, param_text}
use Rattle.link_format.proofs.Quoted.{plain_parts}

pub extends_itself : (before : List ℕ) → Extends before before
extends_itself before = ([], sym (append-nil before))

pub extends_through : (before middle now : List ℕ) → Extends before middle → Extends middle now → Extends before now
extends_through before middle now h k = (h.0 ++ k.0, k.1 ∙ ap (λ (t : List ℕ). t ++ k.0) h.1 ∙ append_assoc before h.0 k.0)

-- what was appended can be cut off again
pub cut_back : (before now : List ℕ) → Extends before now → take (length before) now ≡ before
cut_back before now h = ap (take (length before)) h.1 ∙ take-append_seam before h.0

-- plain bytes are written as they are
pub escape_plain : (value : List ℕ) → escape value ≡ front is_plain value ++ escape (past is_plain value)
escape_plain [] = refl
escape_plain (b ∷ value) =
    elim (cases_Bool (is_plain b)) [
      | inl is ↦ let k = plain_parts b is in rw (k.1, k.0, k.2) (ap (λ (t : List ℕ). b ∷ t) (escape_plain value))
      | inr not_plain ↦ rw not_plain refl
    ]

-- a plain value is written as it is
pub escape_nothing : (value : List ℕ) → IsPlainValue value → escape value ≡ value
escape_nothing [] plain = refl
escape_nothing (b ∷ value) plain =
    let k = plain_parts b plain.0 in
    rw (k.1, k.2) (ap (λ (t : List ℕ). b ∷ t) (escape_nothing value plain.1))

-- the pieces of a plain parameter
pub plain_pieces : (out name value : List ℕ) → IsPlainValue value → ((out ++ 59 ∷ 32 ∷ (name ++ 61 ∷ 34 ∷ [])) ++ value) ++ 34 ∷ [] ≡ out ++ param_text name (Some value)
plain_pieces out name value plain =
    let front : List ℕ = 59 ∷ 32 ∷ (name ++ 61 ∷ 34 ∷ []) in
    let behind : List ℕ = value ++ 34 ∷ [] in
    let parted : (text : List ℕ) → List ℕ = λ text. out ++ 59 ∷ 32 ∷ ((name ++ 61 ∷ 34 ∷ text) ++ 34 ∷ []) in
    let inside : front ++ behind ≡ 59 ∷ 32 ∷ ((name ++ 61 ∷ 34 ∷ value) ++ 34 ∷ []) =
    ap (λ (t : List ℕ). 59 ∷ 32 ∷ t) (append_assoc name (61 ∷ 34 ∷ []) behind ∙ sym (append_assoc name (61 ∷ 34 ∷ value) (34 ∷ []))) in
    append_assoc (out ++ front) value (34 ∷ [])
    ∙ (append_assoc out front behind ∙ (ap (λ (t : List ℕ). out ++ t) inside ∙ ap parted (sym (escape_nothing value plain))))

pub escape_append : (first rest : List ℕ) → escape (first ++ rest) ≡ escape first ++ escape rest
escape_append [] rest = refl
escape_append (b ∷ first) rest =
    elim (cases_Bool (b == 34 || b == 92)) [
      | inl special ↦ rw special (ap (λ (t : List ℕ). 92 ∷ b ∷ t) (escape_append first rest))
      | inr other ↦ rw other (ap (λ (t : List ℕ). b ∷ t) (escape_append first rest))
    ]

-- a run of plain bytes and the byte behind it
pub escape_step : (out value rest : List ℕ) (b : ℕ) → past is_plain value ≡ b ∷ rest → ((out ++ front is_plain value) ++ escape (b ∷ [])) ++ escape rest ≡ out ++ escape value
escape_step out value rest b e =
    let tail : escape (past is_plain value) ≡ escape (b ∷ []) ++ escape rest = ap escape e ∙ escape_append (b ∷ []) rest in
    append_assoc (out ++ front is_plain value) (escape (b ∷ [])) (escape rest)
    ∙ ap (λ (t : List ℕ). (out ++ front is_plain value) ++ t) (sym tail)
    ∙ append_assoc out (front is_plain value) (escape (past is_plain value))
    ∙ ap (λ (t : List ℕ). out ++ t) (sym (escape_plain value))

-- what is escaped is no shorter
pub escape_longer : (value : List ℕ) → length value ≤ length (escape value)
escape_longer [] = omega arith
escape_longer (b ∷ value) =
    let more = escape_longer value in
    elim (cases_Bool (b == 34 || b == 92)) [
      | inl special ↦ rw special (omega (arith, more))
      | inr other ↦ rw other (omega (arith, more))
    ]
