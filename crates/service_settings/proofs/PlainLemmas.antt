-- What is shown prints in one line.
use Rattle.std.proofs.Common.{◌≡◌, ℕ, zero, suc, ◌+◌, ◌/◌, ◌%◌, ◌<◌, ◌^◌, List, [], ◌∷◌, ◌++◌, Bool, true, false, ◌&&◌, cond, length, take, refl, ap, ◌∙◌, All, arith}
use Rattle.std.proofs.lemmas.Bool.Decides.{nat_tests}
use Rattle.std.proofs.lemmas.Fmt.{decimal_by_steps}
use Rattle.std.proofs.lemmas.List.Elements.{All-take}
use Rattle.std.proofs.lemmas.List.Folds.{list_all-append}
use Rattle.std.specs.Fmt.{decimal}
use Rattle.std.specs.List.{list_all}
use Rattle.std.specs.Prelude.{codes, nat_lt, ◌==◌}
use Rattle.service_settings.specs.Shown.{cut_words, hex_digit, is_plain, shown, shown_byte, shown_bytes}

both : (xs ys : List ℕ) → list_all is_plain xs ≡ true → list_all is_plain ys ≡ true → list_all is_plain (xs ++ ys) ≡ true
both xs ys x y = list_all-append is_plain xs ys ∙ (ap (λ b. b && list_all is_plain ys) x ∙ y)

hex_plain : (n : ℕ) → n < 16 → is_plain (hex_digit n) ≡ true
hex_plain n h = grind (arith, nat_tests)

digit_plain : (n : ℕ) → n < 10 → is_plain (48 + n) ≡ true
digit_plain n h = grind (arith, nat_tests)

byte_or : (b : ℕ) (same is : Bool) → is_plain b ≡ is → b < 256
    → list_all is_plain (cond same (92 ∷ 92 ∷ []) (cond is (b ∷ []) (92 ∷ 120 ∷ hex_digit (b / 16) ∷ hex_digit (b % 16) ∷ []))) ≡ true
byte_or b true is e h = refl
byte_or b false true e h = ap (λ (t : Bool). t && true) e
byte_or b false false e h =
    let high = hex_plain (b / 16) (omega arith) in
    let low = hex_plain (b % 16) (omega arith) in
    ap (λ (t : Bool). t && (is_plain (hex_digit (b % 16)) && true)) high ∙ ap (λ (t : Bool). t && true) low

byte_plain : (b : ℕ) → b < 256 → list_all is_plain (shown_byte b) ≡ true
byte_plain b h = byte_or b (b == 92) (is_plain b) refl h

bytes_plain : (bs : List ℕ) → All (λ b. b < 256) bs → list_all is_plain (shown_bytes bs) ≡ true
bytes_plain [] h = refl
bytes_plain (b ∷ bs) h = both (shown_byte b) (shown_bytes bs) (byte_plain b (h zero b (omega arith))) (bytes_plain bs (λ k d lt. h (suc k) d (omega arith)))

decimal_plain : (n : ℕ) → n < 2 ^ 64 → list_all is_plain (decimal n) ≡ true
decimal_plain = decimal_by_steps (λ n ds. list_all is_plain ds ≡ true)
    (λ n h. ap (λ (t : Bool). t && true) (digit_plain n h))
    (λ n ds h plain. both ds ((48 + n % 10) ∷ []) plain (ap (λ (t : Bool). t && true) (digit_plain (n % 10) (omega arith))))

cut_or : (n : ℕ) (cut : Bool) → n < 2 ^ 64 → list_all is_plain (cond cut (codes ".. (" ++ decimal n ++ codes " bytes)") []) ≡ true
cut_or n false h = refl
cut_or n true h = both (codes ".. (" ++ decimal n) (codes " bytes)") (both (codes ".. (") (decimal n) refl (decimal_plain n h)) refl

-- what is shown of a text is blanks and what prints in ASCII
pub shown_plain : (most : ℕ) (text : List ℕ) → All (λ b. b < 256) text → length text < 2 ^ 64 → list_all is_plain (shown most text) ≡ true
shown_plain most text bytes small =
    both (shown_bytes (take most text)) (cut_words most text) (bytes_plain (take most text) (All-take (λ b. b < 256) most text bytes))
    (cut_or (length text) (nat_lt most (length text)) small)
