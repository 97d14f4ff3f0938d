-- What is found in a text is what is laid out there.
use Rattle.std.proofs.Common.{◌≡◌, ◌≢◌, ℕ, suc, ◌+◌, ◌<◌, ◌≤◌, ◌⊎◌, inl, inr, Bool, true, false, ◌==◌, ◌||◌, nat_lt, if◌then◌else◌, List, [], ◌∷◌}
use Rattle.std.proofs.Common.{◌++◌, length, take, drop, Option, Some, None, refl, sym, ap, subst, ◌∙◌, append-nil, arith}
use Rattle.std.specs.Prelude.{◌↔◌, unwrap_or}
use Rattle.std.specs.Option.{option_map}
use Rattle.std.proofs.Math.Seq.{take-append_seam, drop-append_seam}
use Rattle.std.proofs.lemmas.Grind.{common_steps}
use Rattle.std.proofs.lemmas.List.{length-take-le, length-append, take-append-drop}
use Rattle.std.proofs.lemmas.Option.{same_Some}
use Rattle.text_fields.specs.Finds.{Finds}
use Rattle.text_fields.specs.Parts.{Lacks, parts_at}
use Rattle.text_fields.proofs.PartLemmas.{one_split, no_split, parts_are, parts_none_lacks}
use Rattle.replica_world.specs.Fields.{first_line, after_empty_lines, longest_line, line_of, longest_block, block_of, after_line_end}
use Rattle.replica_world.specs.Layout.{IsEnded, IsLine, IsBlock, IsBehindEmptyLines}

-- ---- lines

-- the first line of a text
first_is : (text : List ℕ) → Lacks 10 (first_line text).0 × IsEnded text (first_line text)
first_is text = on (parts_at 10 text) refl where
  on : (found : Option (List ℕ × List ℕ)) → parts_at 10 text ≡ found → Lacks 10 (unwrap_or found (text, [])).0 × IsEnded text (unwrap_or found (text, []))
  on None is = (parts_none_lacks 10 text is, inr (refl, refl))
  on (Some parts) is = let laid = (parts_are 10 text parts).0 is in (laid.0, inl laid.1)

-- a text has one first line
first_once : (text : List ℕ) (parts other : List ℕ × List ℕ) → Lacks 10 parts.0 → Lacks 10 other.0 → IsEnded text parts → IsEnded text other → parts ≡ other
first_once text parts other p q (inl x) (inl y) = let once = one_split 10 parts.0 other.0 parts.1 other.1 p q (sym x ∙ y) in λ i. (once.0 i, once.1 i)
first_once text parts other p q (inl x) (inr y) = absurd (no_split 10 parts.0 parts.1 (subst (Lacks 10) (sym y.0 ∙ x) q))
first_once text parts other p q (inr x) (inl y) = absurd (no_split 10 other.0 other.1 (subst (Lacks 10) (sym x.0 ∙ y) p))
first_once text parts other p q (inr x) (inr y) = λ i. ((sym x.0 ∙ y.0) i, (x.1 ∙ sym y.1) i)

-- a line is found where it is laid out
pub line_is : (text : List ℕ) → Finds (line_of text) (IsLine text)
unfolding line_of
line_is text parts = on ((length text == 0) || nat_lt longest_line (length (first_line text).0)) refl where
  on : (refused : Bool) → ((length text == 0) || nat_lt longest_line (length (first_line text).0)) ≡ refused → ((if refused then None else Some (first_line text)) ≡ Some parts) ↔ IsLine text parts
  on true is = (
    λ found. absurd (let same : None ≡ Some parts = found in cc),
    λ laid.
        let same : first_line text ≡ parts = first_once text (first_line text) parts (first_is text).0 laid.2 (first_is text).1 laid.3 in
        let short : length (first_line text).0 ≤ 65536 = subst (λ (p : List ℕ × List ℕ). length p.0 ≤ 65536) (sym same) laid.1 in
        absurd (grind (arith, common_steps, short, laid.0)),
  )
  on false is =
      let some : 0 < length text = grind (arith, common_steps) in
      let short : length (first_line text).0 ≤ 65536 = grind (arith, common_steps) in (
        λ found. subst (IsLine text) (same_Some _ _ found) (some, short, (first_is text).0, (first_is text).1),
        λ laid. ap (λ (p : List ℕ × List ℕ). Some p) (first_once text (first_line text) parts (first_is text).0 laid.2 (first_is text).1 laid.3),
      )

-- ---- empty lines

pub after_empty_lines_is : (text : List ℕ) → IsBehindEmptyLines text (after_empty_lines text)
unfolding after_empty_lines
after_empty_lines_is [] = record { lines = 0; whole = refl; none = λ more same. absurd (cc) }
after_empty_lines_is (b ∷ text) = on (b == 10) refl (after_empty_lines_is text) where
  on : (empty : Bool) → (b == 10) ≡ empty → IsBehindEmptyLines text (after_empty_lines text) → IsBehindEmptyLines (b ∷ text) (if empty then after_empty_lines text else b ∷ text)
  on true is rest = let same : b ≡ 10 = grind (arith, common_steps) in record { lines = suc rest.lines; whole = (λ i. same i ∷ rest.whole i); none = rest.none }
  on false is rest = let other : b ≢ 10 = λ same. absurd (grind (arith, common_steps)) in record { lines = 0; whole = refl; none = λ more same. other (cc) }

-- ---- blocks

-- a text that a part begins is the part and what is left
part_is : (len : ℕ) (text : List ℕ) (part rest : List ℕ) → text ≡ part ++ rest → length part ≡ len → (take len text ≡ part) × (drop len text ≡ rest)
part_is len text part rest whole same = (
  ap (λ (n : ℕ). take n text) (sym same) ∙ ap (take (length part)) whole ∙ take-append_seam part rest,
  ap (λ (n : ℕ). drop n text) (sym same) ∙ ap (drop (length part)) whole ∙ drop-append_seam part rest,
)

abbrev pub is_no_block : ℕ → List ℕ → Bool
is_no_block len text = nat_lt longest_block len || nat_lt (length text) len

block_within : (len : ℕ) (text : List ℕ) (parts : List ℕ × List ℕ) → IsBlock len text parts → is_no_block len text ≡ false
block_within len text parts (few, same, inl whole) =
    let long : length text ≡ length parts.0 + suc (length parts.1) = ap length whole ∙ length-append parts.0 (10 ∷ parts.1) in
    let fits : len ≤ length text = omega (arith, long, same) in
    grind (arith, common_steps, few, fits)
block_within len text parts (few, same, inr whole) =
    let fits : len ≤ length text = omega (arith, ap length whole.0, same) in
    grind (arith, common_steps, few, fits)

-- what an LF or the end of the text follows
abbrev pub Follows : List ℕ → List ℕ → Type 0
Follows tail rest = (tail ≡ 10 ∷ rest) ⊎ ((tail ≡ []) × (rest ≡ []))

follows_is : (tail : List ℕ) → Finds (after_line_end tail) (Follows tail)
follows_is [] rest = (λ found. inr (refl, sym (same_Some [] rest found)), λ follows. at_end follows) where
  at_end : Follows [] rest → Some [] ≡ Some rest
  at_end (inl whole) = absurd (cc)
  at_end (inr none) = ap (λ (r : List ℕ). Some r) (sym none.1)
follows_is (b ∷ tail) rest = on (b == 10) refl where
  on : (ends : Bool) → (b == 10) ≡ ends → ((if ends then Some tail else None) ≡ Some rest) ↔ Follows (b ∷ tail) rest
  on true is = let same : b ≡ 10 = grind (arith, common_steps) in (λ found. inl (λ i. same i ∷ same_Some tail rest found i), λ follows. behind follows) where
    behind : Follows (b ∷ tail) rest → Some tail ≡ Some rest
    behind (inl whole) = cc
    behind (inr none) = absurd (let both : b ∷ tail ≡ [] = none.0 in cc)
  on false is = let other : b ≢ 10 = λ same. absurd (grind (arith, common_steps)) in (λ found. absurd (let none : None ≡ Some rest = found in cc), λ follows. absurd (refused other follows)) where
    refused : b ≢ 10 → Follows (b ∷ tail) rest → ⊥
    refused other (inl whole) = other (cc)
    refused other (inr none) = let both : b ∷ tail ≡ [] = none.0 in cc

-- so a part is ended
ended_from : (text part tail rest : List ℕ) → text ≡ part ++ tail → Follows tail rest → IsEnded text (part, rest)
ended_from text part tail rest whole (inl line) = inl (whole ∙ ap (λ (t : List ℕ). part ++ t) line)
ended_from text part tail rest whole (inr none) = inr (whole ∙ ap (λ (t : List ℕ). part ++ t) none.0 ∙ append-nil part, none.1)

ended_to : (len : ℕ) (text : List ℕ) (parts : List ℕ × List ℕ) → length parts.0 ≡ len → IsEnded text parts → (take len text ≡ parts.0) × Follows (drop len text) parts.1
ended_to len text parts same (inl whole) = let at = part_is len text parts.0 (10 ∷ parts.1) whole same in (at.0, inl at.1)
ended_to len text parts same (inr whole) = let at = part_is len text parts.0 [] (whole.0 ∙ sym (append-nil parts.0)) same in (at.0, inr (at.1, whole.1))

-- a block is found where it is laid out
pub block_is : (len : ℕ) (text : List ℕ) → Finds (block_of len text) (IsBlock len text)
unfolding block_of
block_is len text parts = on (is_no_block len text) refl where
  behind : is_no_block len text ≡ false → (found : Option (List ℕ)) → Finds found (Follows (drop len text))
      → (option_map {U = List ℕ × List ℕ} (λ rest. (take len text, rest)) found ≡ Some parts) ↔ IsBlock len text parts
  behind is None follows = (
    λ found. absurd (let same : None ≡ Some parts = found in cc),
    λ laid. let none : None ≡ Some parts.1 = (follows parts.1).1 (ended_to len text parts laid.1 laid.2).1 in absurd (cc),
  )
  behind is (Some rest) follows =
      let few : len ≤ 300000000 = grind (arith, common_steps, is) in
      let within : len ≤ length text = grind (arith, common_steps, is) in (
        λ found.
            subst (IsBlock len text) (same_Some _ _ found)
            (few, length-take-le len text within, ended_from text (take len text) (drop len text) rest (sym (take-append-drop len text)) ((follows rest).0 refl)),
        λ laid.
            let at = ended_to len text parts laid.1 laid.2 in
            let same : rest ≡ parts.1 = same_Some rest parts.1 ((follows parts.1).1 at.1) in
            ap (λ (p : List ℕ × List ℕ). Some p) (λ i. (at.0 i, same i)),
      )

  on : (refused : Bool) → is_no_block len text ≡ refused
      → ((if refused then None else option_map (λ rest. (take len text, rest)) (after_line_end (drop len text))) ≡ Some parts) ↔ IsBlock len text parts
  on true is = (
    λ found. absurd (let same : None ≡ Some parts = found in cc),
    λ laid. absurd (let both : true ≡ false = sym is ∙ block_within len text parts laid in cc),
  )
  on false is = behind is (after_line_end (drop len text)) (follows_is (drop len text))
