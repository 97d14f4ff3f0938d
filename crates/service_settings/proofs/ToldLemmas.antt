-- What is told of keys that aren't looked at, step by step.
use Rattle.std.proofs.Common.{◌≡◌, ℕ, suc, Result, Ok, Err, IfOk, ◌+◌, ◌-◌, ◌<◌, ◌≤◌, List, [], ◌∷◌, ◌++◌}
use Rattle.std.proofs.Common.{false, length, get_or, map, take, string_bytes, String, Global, refl, sym, ap, ◌∙◌, arith, append_assoc, append-nil, length-append}
use Rattle.std.proofs.lemmas.List.{length-take, take-append-le, take_all, take_more}
use Rattle.std.proofs.lemmas.Bool.Decides.{nat_tests}
use Rattle.std.specs.Fmt.{decimal}
use Rattle.std.specs.Prelude.{codes}
use Rattle.toml.specs.Data.{Data, Members, member}
use Rattle.service_settings.specs.Shown.{shown_byte, shown_bytes}
use Rattle.service_settings.specs.declared.unknown.Place.{Place}
use Rattle.service_settings.specs.Unknown.{is_known, line_of, most_named, rest_lines, table_lines, told_lines}

shown_bytes-append : (xs ys : List ℕ) → shown_bytes (xs ++ ys) ≡ shown_bytes xs ++ shown_bytes ys
shown_bytes-append [] ys = refl
shown_bytes-append (x ∷ xs) ys = ap (λ t. shown_byte x ++ t) (shown_bytes-append xs ys) ∙ sym (append_assoc (shown_byte x) (shown_bytes xs) (shown_bytes ys))

-- one byte more is shown
pub shown_bytes-more : (bs : List ℕ) (i : ℕ) → i < length bs → shown_bytes (take (i + 1) bs) ≡ shown_bytes (take i bs) ++ shown_byte (get_or bs i 0)
shown_bytes-more bs i h =
    ap shown_bytes (take_more bs i 0 h)
    ∙ (shown_bytes-append (take i bs) (get_or bs i 0 ∷ []) ∙ ap (λ t. shown_bytes (take i bs) ++ t) (append-nil (shown_byte (get_or bs i 0))))

-- with a line more there is one more of the first, if there were few
pub take_few : (all : List (List ℕ)) (line : List ℕ) → length all < most_named → take most_named (all ++ line ∷ []) ≡ take most_named all ++ line ∷ []
take_few all line few =
    take_all most_named (all ++ line ∷ []) (omega (arith, length-append all (line ∷ [])))
    ∙ sym (ap (λ t. t ++ line ∷ []) (take_all most_named all (omega arith)))

-- and else the first are the same
pub take_many : (all : List (List ℕ)) (line : List ℕ) → most_named ≤ length all → take most_named (all ++ line ∷ []) ≡ take most_named all
take_many all line many = take-append-le most_named all (line ∷ []) many

pub length-map_text : (lines : List (String Global)) → length (map (λ line. string_bytes line) lines) ≡ length lines
length-map_text [] = refl
length-map_text (line ∷ lines) = ap suc (length-map_text lines)

-- what is told in the end, by the first lines and how many more there are
pub told_end : (all lines : List (List ℕ)) (count more : ℕ) → lines ≡ take most_named all → count ≡ length all → more ≡ count - length lines
    → lines ++ rest_lines more ≡ told_lines all
told_end all lines count more first counted rest =
    let e : more ≡ length all - most_named = omega (arith, length-take most_named all, ap length first) in
    ap (λ n. lines ++ rest_lines n) e ∙ ap (λ ls. ls ++ rest_lines (length all - most_named)) first

-- a key that isn't looked at, before the others
pub table_lines-unknown : (place : Place) (k : List ℕ) (d : Data) (ms : Members) → is_known place k ≡ false
    → table_lines place (member k d ms) ≡ line_of place k ∷ table_lines place ms
table_lines-unknown place k d ms unknown = rw unknown

-- what follows from what an `Ok` holds
pub ok_gives : {T E : Type 0} (P Q : T → Type 0) (r : Result T E) → ((x : T) → P x → Q x) → IfOk r P → IfOk r Q
ok_gives P Q (Ok x) f p = f x p
ok_gives P Q (Err e) f p = tt

pub rest_some : (more : ℕ) → 0 < more → rest_lines more ≡ (codes "unknown keys: " ++ decimal more ++ codes " more") ∷ []
rest_some more some = grind (arith, nat_tests)
