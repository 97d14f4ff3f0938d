-- A text has one split at a byte, which is found.
use Rattle.std.proofs.Common.{◌≡◌, ◌≢◌, ℕ, suc, ◌+◌, ◌-◌, ◌<◌, ◌≤◌, true, ◌==◌, List, [], ◌∷◌, ◌++◌}
use Rattle.std.proofs.Common.{length, get_or, take, take_all, drop, Option, None, Some, refl, sym, ap, subst, ◌∙◌, arith}
use Rattle.std.specs.Prelude.{◌↔◌, position, not}
use Rattle.std.specs.Option.{option_map}
use Rattle.std.specs.List.{prefix_len}
use Rattle.std.proofs.lemmas.Grind.{common_steps}
use Rattle.std.proofs.lemmas.List.{get_or-take, get_or_default, length-take-le, length-drop}
use Rattle.std.proofs.lemmas.List.Elements.{All-head, All-tail}
use Rattle.std.proofs.lemmas.List.Quantifiers.{position-Some}
use Rattle.std.proofs.lemmas.List.Sums.{prefix_len_passes}
use Rattle.std.proofs.lemmas.Option.{same_Some}
use Rattle.std.proofs.Math.Seq.{split_at}
use Rattle.memchr.specs.Find.{NoneBefore, Passes, is_byte}
use Rattle.text_fields.specs.Finds.{Finds}
use Rattle.text_fields.specs.Parts.{Lacks, IsSplit, parts_at}

nat_eq_true : {a b : ℕ} → a ≡ b → (a == b) ≡ true
nat_eq_true {a} {b} same = grind (arith, common_steps)

nat_eq_is : {a b : ℕ} → (a == b) ≡ true → a ≡ b
nat_eq_is {a} {b} is = grind (arith, common_steps)

-- a text has one front without the byte before it
pub one_split : (byte : ℕ) (a b x y : List ℕ) → Lacks byte a → Lacks byte b → a ++ byte ∷ x ≡ b ++ byte ∷ y → (a ≡ b) × (x ≡ y)
one_split byte [] [] x y la lb e = (refl, cc)
one_split byte [] (c ∷ b) x y la lb e = absurd (All-head (λ d. d ≢ byte) c b lb (cc))
one_split byte (c ∷ a) [] x y la lb e = absurd (All-head (λ d. d ≢ byte) c a la (cc))
one_split byte (c ∷ a) (d ∷ b) x y la lb e =
    let heads : c ≡ d = cc in
    let tails : a ++ byte ∷ x ≡ b ++ byte ∷ y = cc in
    let rest = one_split byte a b x y (All-tail (λ d. d ≢ byte) c a la) (All-tail (λ d. d ≢ byte) d b lb) tails in
    ((λ i. heads i ∷ rest.0 i), rest.1)

-- a text with the byte in it doesn't lack it
pub no_split : (byte : ℕ) (a x : List ℕ) → ¬ Lacks byte (a ++ byte ∷ x)
no_split byte [] x lacks = All-head (λ d. d ≢ byte) byte x lacks refl
no_split byte (c ∷ a) x lacks = no_split byte a x (All-tail (λ d. d ≢ byte) c (a ++ byte ∷ x) lacks)

-- nothing is found where the byte isn't
position_lacks : (byte : ℕ) (text : List ℕ) → position (λ b. b == byte) text ≡ None → Lacks byte text
position_lacks byte text is =
    let all : length text ≤ prefix_len (λ b. not (b == byte)) text = grind (arith, common_steps) in
    λ k d lt.
    let passes : not (get_or text k d == byte) ≡ true = prefix_len_passes (λ b. not (b == byte)) text k d (omega (arith, all, lt)) in
    λ same. absurd (grind (arith, common_steps))

-- what stands at a place that is found
here_is : (byte : ℕ) (text : List ℕ) (place : ℕ) → position (λ b. b == byte) text ≡ Some place → get_or text place 0 ≡ byte
here_is byte text place is = let at = position-Some (λ b. b == byte) text place 0 is in grind (arith, common_steps, at.1)

before_is : (byte : ℕ) (text : List ℕ) (place k : ℕ) → position (λ b. b == byte) text ≡ Some place → k < place → get_or text k 0 ≢ byte
before_is byte text place k is lt = λ same. let at = (position-Some (λ b. b == byte) text place 0 is).2 k lt in absurd (grind (arith, common_steps, at))

-- a place that is found splits the text
split_at_place : (byte : ℕ) (text : List ℕ) (place : ℕ) → position (λ b. b == byte) text ≡ Some place → IsSplit byte text (take place text, drop (place + 1) text)
split_at_place byte text place is =
    let within : place < length text = (position-Some (λ b. b == byte) text place 0 is).0 in
    let front : length (take place text) ≡ place = length-take-le place text (omega (arith, within)) in
    let next : suc place ≡ place + 1 = omega arith in (
      λ k d lt.
          let below : k < place = omega (arith, front, lt) in
          let same : get_or (take place text) k d ≡ get_or text k 0 = get_or-take place text k d below ∙ get_or_default text k d 0 (omega (arith, below, within)) in
          λ here. before_is byte text place k is below (sym same ∙ here),
      split_at text place 0 within ∙ ap (λ (b : ℕ). take place text ++ b ∷ drop (suc place) text) (here_is byte text place is) ∙ ap (λ (n : ℕ). take place text ++ byte ∷ drop n text) next,
    )

-- parts are found where the text is split, and nothing where it isn't
pub parts_are : (byte : ℕ) (text : List ℕ) → Finds (parts_at byte text) (IsSplit byte text)
parts_are byte text parts = on (position (λ b. b == byte) text) refl where
  on : (found : Option ℕ) → position (λ b. b == byte) text ≡ found → (option_map (λ place. (take place text, drop (place + 1) text)) found ≡ Some parts) ↔ IsSplit byte text parts
  on None is = (λ found. absurd (let same : None ≡ Some parts = found in cc), λ laid. absurd (no_split byte parts.0 parts.1 (subst (Lacks byte) laid.1 (position_lacks byte text is))))
  on (Some place) is =
      let here = split_at_place byte text place is in (
        λ found. subst (IsSplit byte text) (same_Some _ _ found) here,
        λ laid.
            let one = one_split byte (take place text) parts.0 (drop (place + 1) text) parts.1 here.0 laid.0 (sym here.1 ∙ laid.1) in
            ap (λ (p : List ℕ × List ℕ). Some p) (λ i. (one.0 i, one.1 i)),
      )

-- where no parts are found the byte isn't
pub parts_none_lacks : (byte : ℕ) (text : List ℕ) → parts_at byte text ≡ None → Lacks byte text
parts_none_lacks byte text is = on (position (λ b. b == byte) text) refl is where
  on : (found : Option ℕ) → position (λ b. b == byte) text ≡ found → option_map {U = List ℕ × List ℕ} (λ place. (take place text, drop (place + 1) text)) found ≡ None → Lacks byte text
  on None none found = position_lacks byte text none
  on (Some place) some found = absurd (let same : Some (take place text, drop (place + 1) text) ≡ None = found in cc)

-- and where the byte isn't none are
pub parts_lacking : (byte : ℕ) (text : List ℕ) → Lacks byte text → parts_at byte text ≡ None
parts_lacking byte text lacks = on (parts_at byte text) refl where
  on : (found : Option (List ℕ × List ℕ)) → parts_at byte text ≡ found → parts_at byte text ≡ None
  on None is = is
  on (Some parts) is = absurd (no_split byte parts.0 parts.1 (subst (Lacks byte) ((parts_are byte text parts).0 is).1 lacks))

-- ---- in the words of the code

-- a byte that a search finds nowhere isn't there
pub nowhere_lacks : (byte : ℕ) (text : List ℕ) → ((k : ℕ) → 0 ≤ k → k < length text → ¬ (Passes (is_byte byte) text k)) → Lacks byte text
nowhere_lacks byte text nowhere k d lt = λ here.
    let same : get_or text k 0 ≡ get_or text k d = get_or_default text k 0 d lt in
    let at : (get_or text k 0 == byte) ≡ true = nat_eq_true (same ∙ here) in
    nowhere k (omega arith) lt at

-- the place that it finds splits the text
pub split_found : (byte : ℕ) (text : List ℕ) (at : ℕ) → NoneBefore (Passes (is_byte byte) text) 0 (length text) at × Passes (is_byte byte) text at
    → IsSplit byte text (take at text, take (length text - (at + 1)) (drop (at + 1) text))
split_found byte text at (none, here) =
    let within : at < length text = none.high in
    let next : suc at ≡ at + 1 = omega arith in
    let byte_is : get_or text at 0 ≡ byte = nat_eq_is here in
    let all : take (length text - (at + 1)) (drop (at + 1) text) ≡ drop (at + 1) text = take_all (length text - (at + 1)) (drop (at + 1) text) (omega (arith, length-drop (at + 1) text)) in (
      λ k d lt.
          let below : k < at = omega (arith, length-take-le at text (omega (arith, within)), lt) in
          let same : get_or (take at text) k d ≡ get_or text k 0 = get_or-take at text k d below ∙ get_or_default text k d 0 (omega (arith, below, within)) in
          λ is. none.before k (omega arith) below (nat_eq_true (sym same ∙ is)),
      split_at text at 0 within ∙ ap (λ (b : ℕ). take at text ++ b ∷ drop (suc at) text) byte_is ∙ ap (λ (n : ℕ). take at text ++ byte ∷ drop n text) next
          ∙ ap (λ (rest : List ℕ). take at text ++ byte ∷ rest) (sym all),
    )
