-- What a loop has written, and the rows that are left, are the whole.
use Rattle.std.proofs.Common.{◌≡◌, ℕ, suc, ◌-◌, ◌≤◌, ◌<◌, List, [], ◌∷◌, ◌++◌, take, drop, get_or, length, ap, ◌∙◌, arith, append_assoc, append-nil}
use Rattle.std.proofs.Math.Seq.{take-length}
use Rattle.json.specs.Token.{Token, string}
use Rattle.json.specs.Print.{quoted}
use Rattle.json.specs.Layout.{pretty, pretty_from}
use Rattle.timemap_formats.specs.declared.listing.Row.{Row}

-- one row more
pub row_written : {T : Type 0} (tail : List Row → List T) (out now whole : List T) (left : List Row) (row : Row) → 1 ≤ length left
    → row ≡ get_or left 0 row → ((rows : List Row) → now ++ tail rows ≡ out ++ tail (row ∷ rows)) → out ++ tail left ≡ whole
    → now ++ tail (take (length left - 1) (drop 1 left)) ≡ whole
row_written tail out now whole [] row some at is before = absurd (omega arith)
row_written tail out now whole (x ∷ xs) row some at is before =
    let back : suc (length xs) - 1 ≡ length xs = omega arith in
    let rest : take (suc (length xs) - 1) xs ≡ xs = ap (λ (n : ℕ). take n xs) back ∙ take-length xs in
    ap (λ (rows : List Row). now ++ tail rows) rest ∙ is xs ∙ ap (λ (r : Row). out ++ tail (r ∷ xs)) at ∙ before

-- no row is left
pub rows_written : {T : Type 0} (tail : List Row → List T) (out whole : List T) (left : List Row) → length left < 1
    → out ++ tail left ≡ whole → out ++ tail [] ≡ whole
rows_written tail out whole [] none before = before
rows_written tail out whole (x ∷ xs) none before = absurd (omega arith)

-- a text alone is written in quotes
pub alone : (text : List ℕ) (ts : List Token) → ts ≡ string text ∷ [] → pretty ts ≡ quoted text
unfolding pretty_from
alone text ts is = ap pretty is ∙ append-nil (quoted text)

-- what stands before the rest of an object
pub object_written : (out first second third : List Token) (begin rest last : List Token) → first ≡ out ++ begin → second ++ last ≡ first ++ rest
    → third ≡ second ++ last → third ≡ out ++ (begin ++ rest)
object_written out first second third begin rest last one two three =
    three ∙ two ∙ ap (λ (ts : List Token). ts ++ rest) one ∙ append_assoc out begin rest

-- three pieces between two tokens
pub pieces_written : (out a b c d e : List Token) (t u : Token) (x y z : List Token) → a ≡ out ++ t ∷ [] → b ≡ a ++ x → c ≡ b ++ y → d ≡ c ++ z
    → e ≡ d ++ u ∷ [] → e ≡ out ++ ((((t ∷ x) ++ y) ++ z) ++ u ∷ [])
pieces_written out a b c d e t u x y z begins first second third ends =
    let one : b ≡ out ++ (t ∷ x) = first ∙ ap (λ (ts : List Token). ts ++ x) begins ∙ append_assoc out (t ∷ []) x in
    let two : c ≡ out ++ ((t ∷ x) ++ y) = second ∙ ap (λ (ts : List Token). ts ++ y) one ∙ append_assoc out (t ∷ x) y in
    let three : d ≡ out ++ (((t ∷ x) ++ y) ++ z) = third ∙ ap (λ (ts : List Token). ts ++ z) two ∙ append_assoc out ((t ∷ x) ++ y) z in
    ends ∙ ap (λ (ts : List Token). ts ++ u ∷ []) three ∙ append_assoc out (((t ∷ x) ++ y) ++ z) (u ∷ [])

-- pieces one after the other
pub two_written : {T : Type 0} (out a b w x : List T) → a ≡ out ++ w → b ≡ a ++ x → b ≡ out ++ (w ++ x)
two_written out a b w x first second = second ∙ ap (λ ts. ts ++ x) first ∙ append_assoc out w x

pub three_written : {T : Type 0} (out a b c w x y : List T) → a ≡ out ++ w → b ≡ a ++ x → c ≡ b ++ y → c ≡ out ++ (w ++ x ++ y)
three_written out a b c w x y first second third = two_written out b c (w ++ x) y (two_written out a b w x first second) third

pub four_written : {T : Type 0} (out a b c d w x y z : List T) → a ≡ out ++ w → b ≡ a ++ x → c ≡ b ++ y → d ≡ c ++ z → d ≡ out ++ (w ++ x ++ y ++ z)
four_written out a b c d w x y z first second third fourth = two_written out c d (w ++ x ++ y) z (three_written out a b c w x y first second third) fourth
