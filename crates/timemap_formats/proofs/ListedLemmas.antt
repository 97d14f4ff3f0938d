-- What the texts of `timemap_writer` list.
use Rattle.std.proofs.Common.{◌≡◌, ℕ, ◌-◌, ◌==◌, Bool, true, false, List, [], ◌∷◌, ◌++◌, drop, take, length, codes, refl, ap, ◌∙◌, arith, append_assoc, Some, None, Option}
use Rattle.std.specs.Prelude.{All, bytes_eq, nat_eq, if◌then◌else◌}
use Rattle.std.specs.List.{starts_with}
use Rattle.std.specs.Option.{option_map, option_and_then}
use Rattle.std.proofs.Math.Seq.{drop-append_seam, take-append_seam}
use Rattle.std.proofs.lemmas.List.{length-append}
use Rattle.std.proofs.lemmas.List.Elements.{All-head, All-tail}
use Rattle.std.proofs.lemmas.Slice.Eq.{bytes_eq-Decides}
use Rattle.memento_time.specs.declared.mementos.Memento.{Memento}
use Rattle.memento_time.specs.Mementos.{IsMemento}
use Rattle.memento_time.specs.Second.{imf}
use Rattle.memento_time.specs.Text.{IsClean, IsOriginal}
use Rattle.memento_time.proofs.ReadLemmas.{Reads-imf}
use Rattle.memento_time.proofs.SecondOfLemmas.{second_of-Reads}
use Rattle.timemap_writer.specs.TimeMap.{memento_relations, memento_link, memento_links, timemap_links}
use Rattle.timemap_formats.specs.declared.listing.Row.{Row}
use Rattle.timemap_formats.specs.declared.listing.Row.TheVariants.{OfMemento}
use Rattle.timemap_formats.specs.Listing.{clean_at, before, second_at, ends_of, memento_row, page_row, row_of, with_row}
use Rattle.text_fields.specs.Parts.{behind}
use Rattle.timemap_formats.specs.Listing.{rows_of, front_at, head_by, head_on, place_at, base_at, head_of, with_rows, listing_below, listing_of}
use Rattle.timemap_formats.specs.Readback.{memento_rows, mementos_of, timemap_listing}
use Rattle.timemap_formats.proofs.ReadingLemmas.{clean_at_clean}

same_bytes : (text : List ℕ) → bytes_eq text text ≡ true
same_bytes text = (bytes_eq-Decides text text).1 refl

behind_own : (front rest : List ℕ) → behind front (front ++ rest) ≡ Some rest
behind_own front rest =
    let is : starts_with nat_eq (front ++ rest) front ≡ true = ap (bytes_eq front) (take-append_seam front rest) ∙ same_bytes front in
    ap (λ (b : Bool). if b then Some (drop (length front) (front ++ rest)) else None) is ∙ ap Some (drop-append_seam front rest)

before_own : (end front : List ℕ) → before end (front ++ end) ≡ Some front
before_own end front =
    let n : length (front ++ end) - length end ≡ length front = omega (arith, length-append front end) in
    ap (λ (k : ℕ). if bytes_eq (drop k (front ++ end)) end then Some (take k (front ++ end)) else None) n
    ∙ ap (λ (t : List ℕ). if bytes_eq t end then Some (take (length front) (front ++ end)) else None) (drop-append_seam front end)
    ∙ ap (λ (b : Bool). if b then Some (take (length front) (front ++ end)) else None) (same_bytes end)
    ∙ ap Some (take-append_seam front end)

pub head_at : (base original place : List ℕ) → IsClean base → IsClean original → IsClean place
    → head_of original (base ++ codes "/timegate/" ++ original) (base ++ codes "/timemap/link/" ++ place)
    ≡ Some (record { base = base; original = original; place = place })
unfolding head_of
head_at base original place is_base is_original is_place =
    let itself = base ++ codes "/timemap/link/" ++ place in
    let b : base_at original (base ++ codes "/timegate/" ++ original) ≡ Some base =
    ap (λ (t : List ℕ). option_and_then clean_at (before (codes "/timegate/" ++ original) t)) (append_assoc base (codes "/timegate/") original)
    ∙ ap (option_and_then clean_at) (before_own (codes "/timegate/" ++ original) base) ∙ clean_at_clean base is_base in
    let p : place_at base itself ≡ Some place = ap (option_and_then clean_at) (behind_own (front_at base) place) ∙ clean_at_clean place is_place in
    ap (head_on original itself) b ∙ (λ i. head_by base (clean_at_clean original is_original i) (p i))

ends_is : (first last : Bool) → ends_of (memento_relations first last) ≡ Some (record { first = first; last = last })
ends_is true true = refl
ends_is true false = refl
ends_is false true = refl
ends_is false false = refl

no_page : (first last : Bool) → bytes_eq (memento_relations first last) (codes "timemap") ≡ false
no_page true true = refl
no_page true false = refl
no_page false true = refl
no_page false false = refl

memento_row_is : (front : List ℕ) (first last : Bool) (m : Memento) → IsMemento m
    → row_of front (memento_link first last m) ≡ Some (OfMemento (record { first = first; last = last }) m)
unfolding row_of
memento_row_is front first last m is =
    let link = memento_link first last m in
    let second : second_at (codes "datetime") link ≡ Some m.at = second_of-Reads (imf m.at) m.at (Reads-imf m.at is.at) in
    ap (λ (b : Bool). if b
    then page_row (option_and_then clean_at (behind front link.target)) (second_at (codes "from") link) (second_at (codes "until") link)
    else memento_row (ends_of (memento_relations first last)) (second_at (codes "datetime") link) (clean_at link.target)) (no_page first last)
    ∙ (λ i. memento_row (ends_is first last i) (second i) (clean_at_clean m.uri is.uri i))

rows_are : (front : List ℕ) (first : Bool) (ms : List Memento) → All IsMemento ms → rows_of front (memento_links first ms) ≡ Some (memento_rows first ms)
rows_are front first [] all = refl
rows_are front first (m ∷ ms) all =
    let last = length ms == 0 in
    ap (λ (r : Option Row). with_row r (rows_of front (memento_links false ms))) (memento_row_is front first last m (All-head IsMemento m ms all))
    ∙ ap (option_map (λ more. OfMemento (record { first = first; last = last }) m ∷ more)) (rows_are front false ms (All-tail IsMemento m ms all))

-- a TimeMap lists its mementos
pub timemap_listed : (base original : List ℕ) (ms : List Memento) → IsClean base → IsOriginal original → All IsMemento ms
    → listing_of (timemap_links base original ms) ≡ Some (timemap_listing base original ms)
unfolding listing_of
timemap_listed base original ms is_base is_original all =
    ap (λ h. listing_below h (memento_links true ms)) (head_at base original original is_base is_original.0 is_original.0)
    ∙ ap (λ (rows : Option (List Row)). with_rows (record { base = base; original = original; place = original }) rows) (rows_are (front_at base) true ms all)

pub mementos_listed : (first : Bool) (ms : List Memento) → mementos_of (memento_rows first ms) ≡ ms
mementos_listed first [] = refl
mementos_listed first (m ∷ ms) = ap (λ (rest : List Memento). m ∷ rest) (mementos_listed false ms)
