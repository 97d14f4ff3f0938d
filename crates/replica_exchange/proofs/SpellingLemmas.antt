-- A field ends at the first of its end byte, so a text begins with at most one.
use Rattle.std.proofs.Common.{◌≡◌, ◌≢◌, ℕ, ◌^◌, ◌<◌, inl, inr, List, [], ◌∷◌, ◌++◌, length, take, drop, true, false, refl, sym, ap, subst, ◌∙◌, append_assoc, arith}
use Rattle.std.specs.Prelude.{codes, Option, Some, None}
use Rattle.std.specs.Fmt.{decimal}
use Rattle.std.specs.Bool.{nat_eq}
use Rattle.std.specs.Cmp.Lexicographic.{pointwise}
use Rattle.std.proofs.lemmas.Slice.Eq.{bytes_eq-Decides}
use Rattle.std.proofs.lemmas.List.{take_at, take-append-drop}
use Rattle.std.proofs.lemmas.List.Elements.{All-nil, All-head, All-push, All-weaker}
use Rattle.std.proofs.lemmas.Fmt.{decimal_injective}
use Rattle.memento_time.specs.Text.{IsClean, IsCleanByte, IsArchiveName, IsNameByte, IsOriginal}
use Rattle.memento_time.specs.declared.faults.CleanFault.{CleanFault}
use Rattle.memento_time.specs.declared.faults.CleanFault.TheVariants.{NotClean, NoMemory}
use Rattle.replica_exchange.specs.Faults.{fault_of}
use Rattle.text_fields.specs.Parts.{Lacks}
use Rattle.text_fields.proofs.PartLemmas.{one_split, no_split}
use Rattle.text_fields.specs.Decimals.{BeginsWithDecimal}
use Rattle.text_fields.proofs.DecimalLemmas.{decimal_lacks, one_leading}
use Rattle.replica_exchange.specs.StateText.{whole_field}
use Rattle.replica_exchange.specs.Parts.{IsWholeField, whole_ended}
use Rattle.replica_exchange.specs.Spelling.{Spelling, Begins, Refuses, value_and_end, field, number}

-- no text begins with two of these values, or in two ways with one
abbrev pub Once : {A : Type 0} → Spelling A → Type 0
Once {A} s = (text : List ℕ) (x y : A) (r t : List ℕ) → Begins s text x r → Begins s text y t → (x ≡ y) × (r ≡ t)

-- ---- a value and the byte that ends it

-- a field and its end are apart from what follows
pub ended_apart : (front : List ℕ) (end : ℕ) (rest : List ℕ) → front ++ end ∷ rest ≡ (front ++ end ∷ []) ++ rest
ended_apart front end rest = sym (append_assoc front (end ∷ []) rest)

module _ {A : Type 0} (Is : A → Type 0) (written : A → List ℕ) (byte : ℕ) where
  regrouped : (text : List ℕ) (v : A) (rest : List ℕ) → Begins (value_and_end Is written byte) text v rest → text ≡ written v ++ byte ∷ rest
  regrouped text v rest begins = begins.whole ∙ append_assoc (written v) (byte ∷ []) rest

  -- a field that was cut off is read
  pub ended_found : (text front rest : List ℕ) (v : A) → text ≡ front ++ byte ∷ rest → front ≡ written v → Is v → Begins (value_and_end Is written byte) text v rest
  ended_found text front rest v whole same is = record {
    is = is;
    whole = whole ∙ (ap (λ (f : List ℕ). f ++ byte ∷ rest) same ∙ sym (append_assoc (written v) (byte ∷ []) rest));
  }

  -- a text that lacks the byte begins with no field that it ends
  pub ended_none : (text : List ℕ) → Lacks byte text → (v : A) (rest : List ℕ) → ¬ Begins (value_and_end Is written byte) text v rest
  ended_none text lacks v rest begins = no_split byte (written v) rest (subst (Lacks byte) (regrouped text v rest begins) lacks)

  module _ (lack : (v : A) → Is v → Lacks byte (written v)) where
    -- a field that is no written value is refused
    pub ended_refused : (text front rest : List ℕ) → text ≡ front ++ byte ∷ rest → Lacks byte front → ((v : A) → Is v → ¬ (front ≡ written v)) → (v : A) (r : List ℕ)
        → ¬ Begins (value_and_end Is written byte) text v r
    ended_refused text front rest whole lacks other v r begins =
        let once = one_split byte front (written v) rest r lacks (lack v begins.is) (sym whole ∙ regrouped text v r begins) in
        other v begins.is once.0

    pub ended_once : ((x y : A) → Is x → Is y → written x ≡ written y → x ≡ y) → Once (value_and_end Is written byte)
    ended_once one text x y r t bx by =
        let once = one_split byte (written x) (written y) r t (lack x bx.is) (lack y by.is) (sym (regrouped text x r bx) ∙ regrouped text y t by) in
        (one x y bx.is by.is once.0, once.1)

-- a field of another kind
pub field_refused : (Is : List ℕ → Type 0) (byte : ℕ) → ((t : List ℕ) → Is t → Lacks byte t) → (text front rest : List ℕ) → text ≡ front ++ byte ∷ rest → Lacks byte front → ¬ Is front
    → (v r : List ℕ) → ¬ Begins (field Is byte) text v r
field_refused Is byte lack text front rest whole lacks other = ended_refused Is (λ t. t) byte lack text front rest whole lacks (λ v is same. other (subst Is (sym same) is))

-- a field that isn't clean is refused as malformed
pub clean_refused : (Is : List ℕ → Type 0) (byte : ℕ) → ((t : List ℕ) → Is t → Lacks byte t) → (text front rest : List ℕ) → text ≡ front ++ byte ∷ rest → Lacks byte front
    → (fault : CleanFault) → (fault ≡ NotClean → ¬ Is front) → Refuses (field Is byte) text (fault_of fault)
clean_refused Is byte lack text front rest whole lacks NotClean other = field_refused Is byte lack text front rest whole lacks (other refl)
clean_refused Is byte lack text front rest whole lacks NoMemory other = tt

-- ---- which fields lack which bytes

pub clean_lacks : (text : List ℕ) → IsClean text → Lacks 10 text
clean_lacks text clean = All-weaker IsCleanByte (λ b. b ≢ 10) (λ b is same. omega (arith, is.0, same)) text clean.1

pub original_lacks : (text : List ℕ) → IsOriginal text → Lacks 10 text
original_lacks text original = clean_lacks text original.0

name_byte : (b : ℕ) → IsNameByte b → b ≢ 32
name_byte b (inl letter) same = omega (arith, letter, same)
name_byte b (inr (inl digit)) same = omega (arith, digit, same)
name_byte b (inr (inr (inl dot))) same = omega (arith, dot, same)
name_byte b (inr (inr (inr dash))) same = omega (arith, dash, same)

pub name_lacks : (text : List ℕ) → IsArchiveName text → Lacks 32 text
name_lacks text name = All-weaker IsNameByte (λ b. b ≢ 32) name_byte text name.1

-- ---- so each is read in one way

pub number_once : (byte : ℕ) → byte < 48 → Once (number byte)
number_once byte low = ended_once (λ n. n < 2 ^ 64) decimal byte (decimal_lacks byte low) decimal_injective

-- what a number's end byte follows is the decimal that the text begins with
number_leads : (byte : ℕ) → byte < 48 → (text : List ℕ) (n : ℕ) (rest : List ℕ) → Begins (number byte) text n rest → BeginsWithDecimal text n (byte ∷ rest)
number_leads byte low text n rest begins = record {
  small = begins.is;
  whole = regrouped (λ n. n < 2 ^ 64) decimal byte text n rest begins;
  ended = λ digit. omega (arith, low, digit);
}

-- a text whose decimal another byte follows begins with no number
pub number_refused : (byte : ℕ) → byte < 48 → (text : List ℕ) (m : ℕ) (tail : List ℕ) → BeginsWithDecimal text m tail → ((rest : List ℕ) → ¬ (tail ≡ byte ∷ rest))
    → (n : ℕ) (rest : List ℕ) → ¬ Begins (number byte) text n rest
number_refused byte low text m tail leads other n rest begins =
    other rest (one_leading text m n tail (byte ∷ rest) leads (number_leads byte low text n rest begins)).1

pub archive_once : Once (field IsArchiveName 32)
archive_once = ended_once IsArchiveName (λ text. text) 32 name_lacks (λ x y _ _ same. same)

pub original_once : Once (field IsOriginal 10)
original_once = ended_once IsOriginal (λ text. text) 10 original_lacks (λ x y _ _ same. same)

pub uri_once : Once (field IsClean 10)
uri_once = ended_once IsClean (λ text. text) 10 clean_lacks (λ x y _ _ same. same)

-- ---- a whole revision, or none

no_dash : (n : ℕ) → n < 2 ^ 64 → ¬ (codes "-" ≡ decimal n)
no_dash n small same =
    let lacks : Lacks 45 (codes "-") = subst (Lacks 45) (sym same) (decimal_lacks 45 (omega arith) n small) in
    All-head (λ b. b ≢ 45) 45 [] lacks refl

pub whole_lacks : (w : Option ℕ) → IsWholeField w → Lacks 32 (whole_field w)
whole_lacks None is = All-push (λ b. b ≢ 32) [] 45 (All-nil (λ b. b ≢ 32)) (λ same. omega (arith, same))
whole_lacks (Some n) is = decimal_lacks 32 (omega arith) n is

whole_field_once : (v w : Option ℕ) → IsWholeField v → IsWholeField w → whole_field v ≡ whole_field w → v ≡ w
whole_field_once None None v_is w_is same = refl
whole_field_once None (Some n) v_is w_is same = absurd (no_dash n w_is same)
whole_field_once (Some n) None v_is w_is same = absurd (no_dash n v_is (sym same))
whole_field_once (Some m) (Some n) v_is w_is same = ap (λ (k : ℕ). Some k) (decimal_injective m n v_is w_is same)

pub whole_once : Once whole_ended
whole_once = ended_once IsWholeField whole_field 32 whole_lacks whole_field_once

-- a word that is neither `-` nor a number is no whole revision
pub whole_refused : (text word rest : List ℕ) → text ≡ word ++ 32 ∷ rest → Lacks 32 word → ¬ (word ≡ codes "-") → ((n : ℕ) → ¬ ((n < 2 ^ 64) × (word ≡ decimal n)))
    → (w : Option ℕ) (r : List ℕ) → ¬ Begins whole_ended text w r
whole_refused text word rest cut lacks no_dash none = ended_refused IsWholeField whole_field 32 whole_lacks text word rest cut lacks other
  where
    other : (w : Option ℕ) → IsWholeField w → ¬ (word ≡ whole_field w)
    other None is same = no_dash same
    other (Some n) is same = none n (is, same)
