-- What was written of the file of originals.
use Rattle.std.proofs.Common.{◌≡◌, ℕ, ◌+◌, ◌<◌, List, [], Option, Some, Result, Ok, Err, OnOk, take, length, get_or, sym, ap, subst, ◌∙◌}
use Rattle.std.specs.Prelude.{count_by}
use Rattle.std.specs.List.{flat_map}
use Rattle.std.specs.Io.KnownBytes.{Appends}
use Rattle.std.proofs.KnownBytes.{Appends-trans}
use Rattle.std.proofs.lemmas.List.{flat_map_more, take_more}
use Rattle.original_list.specs.Rows.{rows_of, bad_lines, is_bad, most_told}
use Rattle.round_standing.specs.Listing.{bad_line, bad_report, IsReported}

-- the line of one more was written
pub one_line_more : (start old now : Option (List ℕ)) (xs : List ℕ) (i : ℕ) → i < length xs
    → Appends start old (flat_map bad_line (take i xs)) → Appends old now (bad_line (get_or xs i 0)) → Appends start now (flat_map bad_line (take (i + 1) xs))
one_line_more start old now xs i lt before line =
    subst (Appends start now) (flat_map_more bad_line [] (take i xs) (get_or xs i 0) ∙ sym (ap (flat_map bad_line) (take_more xs i 0 lt)))
    (Appends-trans start old now (flat_map bad_line (take i xs)) (bad_line (get_or xs i 0)) before line)

-- the report of a text was written
pub text_reported : {T E P : Type 0} (r : Result T E) (file : Option P) (path : P) (start now : Option (List ℕ)) (text numbers : List ℕ) (count : ℕ)
    → file ≡ Some path → numbers ≡ take most_told (bad_lines 1 (rows_of text)) → count ≡ count_by is_bad (rows_of text)
    → OnOk r (Appends start now (bad_report numbers count)) → OnOk r ((bytes : List ℕ) × IsReported file bytes × Appends start now bytes)
text_reported (Ok done) file path start now text numbers count named numbers_are count_is wrote =
    (bad_report numbers count, subst (λ f. IsReported f (bad_report numbers count)) (sym named) (Some text, λ i. bad_report (numbers_are i) (count_is i)), wrote)
text_reported (Err fault) file path start now text numbers count named numbers_are count_is wrote = tt
