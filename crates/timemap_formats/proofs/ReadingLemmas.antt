-- Lemmas of what a text lists.
use Rattle.std.proofs.Common.{◌≡◌, ℕ, zero, suc, ◌≤◌, ◌<◌, Bool, true, false, ◌&&◌, nat_lt, nat_le, List, []}
use Rattle.std.proofs.Common.{◌∷◌, ◌++◌, drop, length, refl, sym, ap, subst, ◌∙◌, arith, Some, None, Ok, Err, Option, append_assoc}
use Rattle.std.specs.Prelude.{if◌then◌else◌, IfOk, Result}
use Rattle.std.specs.List.{list_all, slice_get}
use Rattle.std.specs.Option.{option_map}
use Rattle.std.proofs.lemmas.Bool.{and_parts}
use Rattle.std.proofs.lemmas.Bool.Decides.{nat_tests}
use Rattle.std.proofs.lemmas.List.{append-nil}
use Rattle.std.proofs.lemmas.Option.{same_Some, none-some}
use Rattle.link_format.specs.Grammar.{Link}
use Rattle.link_format.specs.Limits.{IsAnswer}
use Rattle.link_format.specs.declared.fault.LinkFault.{LinkFault}
use Rattle.link_format.specs.declared.fault.LinkFault.TheVariants.{NotLinkFormat, TooManyLinks, TooManyParams, TargetTooLong, NoMemory}
use Rattle.link_format.proofs.Complete.{one_reading}
use Rattle.memento_time.specs.Text.{IsClean, is_clean_byte}
use Rattle.memento_time.proofs.CleanLemmas.{clean_bytes, are_clean}
use Rattle.timemap_formats.specs.declared.listing.Row.{Row}
use Rattle.timemap_formats.specs.declared.listing.Listing.{Listing}
use Rattle.timemap_formats.specs.Listing.{clean_at, row_of, with_row, rows_of, head_of, listing_below, listing_of, Lists}

abbrev is_clean_text : List ℕ → Bool
is_clean_text text = nat_lt 0 (length text) && nat_le (length text) 8192 && list_all is_clean_byte text

clean_test : (text : List ℕ) → IsClean text → is_clean_text text ≡ true
clean_test text is =
    let some : nat_lt 0 (length text) ≡ true = grind (arith, nat_tests, is.0.0) in
    let few : nat_le (length text) 8192 ≡ true = grind (arith, nat_tests, is.0.1) in
    rw (some, few, are_clean text is.1) refl

test_clean : (text : List ℕ) → is_clean_text text ≡ true → IsClean text
test_clean text all =
    let parts = and_parts (nat_lt 0 (length text) && nat_le (length text) 8192) (list_all is_clean_byte text) all in
    let sizes = and_parts (nat_lt 0 (length text)) (nat_le (length text) 8192) parts.0 in
    let some : 1 ≤ length text = grind (arith, nat_tests, sizes.0) in
    let few : length text ≤ 8192 = grind (arith, nat_tests, sizes.1) in
    ((some, few), clean_bytes text parts.1)

pub clean_at_clean : (text : List ℕ) → IsClean text → clean_at text ≡ Some text
clean_at_clean text is = ap (λ (b : Bool). if b then Some text else None) (clean_test text is)

pub clean_at_other : (text : List ℕ) → ¬ IsClean text → clean_at text ≡ None
clean_at_other text other =
    elim (is_clean_text text) as (λ b. is_clean_text text ≡ b → (if b then Some text else None) ≡ None) [
      | true ↦ λ e. absurd (other (test_clean text e))
      | false ↦ λ e. refl
    ] refl

-- ---- rows

drop_at : {A : Type 0} (xs : List A) (k : ℕ) (x : A) → slice_get xs k ≡ Some x → drop k xs ≡ x ∷ drop (suc k) xs
drop_at [] k x h = absurd (none-some x h)
drop_at (y ∷ ys) zero x h = ap (λ z. z ∷ ys) (same_Some y x h)
drop_at (y ∷ ys) (suc k) x h = drop_at ys k x h

abbrev behind_rows : List Row → Option (List Row) → Option (List Row)
behind_rows done more = option_map (λ more. done ++ more) more

row_behind : (done now : List Row) (row : Row) (more : Option (List Row)) → now ≡ done ++ row ∷ []
    → behind_rows done (with_row (Some row) more) ≡ behind_rows now more
row_behind done now row None is = refl
row_behind done now row (Some more) is =
    ap Some (sym (append_assoc done (row ∷ []) more) ∙ ap (λ (rows : List Row). rows ++ more) (sym is))

-- one more row is read
pub row_more : (front : List ℕ) (links : List Link) (k next : ℕ) (link : Link) (row : Row) (done now : List Row) (whole : Option (List Row))
    → next ≡ suc k → slice_get links k ≡ Some link → row_of front link ≡ Some row → now ≡ done ++ row ∷ []
    → behind_rows done (rows_of front (drop k links)) ≡ whole → behind_rows now (rows_of front (drop next links)) ≡ whole
row_more front links k next link row done now whole up here is more before =
    let split : rows_of front (drop k links) ≡ with_row (Some row) (rows_of front (drop next links)) =
    ap (rows_of front) (drop_at links k link here) ∙ ap (λ (r : Option Row). with_row r (rows_of front (drop (suc k) links))) is
    ∙ ap (λ (n : ℕ). with_row (Some row) (rows_of front (drop n links))) (sym up) in
    sym (row_behind done now row (rows_of front (drop next links)) more) ∙ ap (behind_rows done) (sym split) ∙ before

-- a link lists nothing
pub no_row : (front : List ℕ) (links : List Link) (k : ℕ) (link : Link) (done : List Row) (whole : Option (List Row))
    → slice_get links k ≡ Some link → row_of front link ≡ None
    → behind_rows done (rows_of front (drop k links)) ≡ whole → None ≡ whole
no_row front links k link done whole here is before =
    let split : rows_of front (drop k links) ≡ None =
    ap (rows_of front) (drop_at links k link here) ∙ ap (λ (r : Option Row). with_row r (rows_of front (drop (suc k) links))) is in
    sym (ap (behind_rows done) split) ∙ before

drop_past : {A : Type 0} (xs : List A) (k : ℕ) → length xs ≤ k → drop k xs ≡ []
drop_past [] zero h = refl
drop_past [] (suc k) h = refl
drop_past (x ∷ xs) zero h = absurd (omega arith)
drop_past (x ∷ xs) (suc k) h = drop_past xs k (omega arith)

-- all are read
pub rows_end : (front : List ℕ) (links : List Link) (k : ℕ) (done : List Row) (whole : Option (List Row)) → length links ≤ k
    → behind_rows done (rows_of front (drop k links)) ≡ whole → Some done ≡ whole
rows_end front links k done whole past before =
    ap Some (sym (append-nil done)) ∙ sym (ap (λ (rest : List Link). behind_rows done (rows_of front rest)) (drop_past links k past)) ∙ before

pub rows_start : (rows : Option (List Row)) → behind_rows [] rows ≡ rows
rows_start None = refl
rows_start (Some rows) = refl

-- ---- links

-- the targets of three links are known
pub listing_three : (links : List Link) (a b c : List ℕ) → option_map (λ (l : Link). l.target) (slice_get links 0) ≡ Some a
    → option_map (λ (l : Link). l.target) (slice_get links 1) ≡ Some b → option_map (λ (l : Link). l.target) (slice_get links 2) ≡ Some c
    → listing_of links ≡ listing_below (head_of a b c) (drop 3 links)
unfolding listing_of
listing_three [] a b c first second third = absurd (none-some a first)
listing_three (x ∷ []) a b c first second third = absurd (none-some b second)
listing_three (x ∷ y ∷ []) a b c first second third = absurd (none-some c third)
listing_three (x ∷ y ∷ z ∷ links) a b c first second third =
    (λ i. listing_below (head_of (same_Some x.target a first i) (same_Some y.target b second i) (same_Some z.target c third i)) links)

-- fewer links list nothing
pub listing_few : (links : List Link) → length links < 3 → listing_of links ≡ None
unfolding listing_of
listing_few [] few = refl
listing_few (x ∷ []) few = refl
listing_few (x ∷ y ∷ []) few = refl
listing_few (x ∷ y ∷ z ∷ links) few = absurd (omega arith)

-- what the links of a text list is what the text does
pub lists_links : (text : List ℕ) (links : List Link) (listing : Option Listing) → IsAnswer text (Ok links) → listing ≡ listing_of links → Lists text listing
lists_links text links None answer is =
    λ (others : List Link) (other : IsAnswer text (Ok others)). ap listing_of (one_reading text others links other.0 answer.0) ∙ sym is
lists_links text links (Some listing) answer is = (links, answer, sym is)

-- a text with a fault of its own has no links within the limits
pub lists_nothing : (text : List ℕ) (fault : LinkFault) → (fault ≡ NoMemory → ⊥) → IsAnswer text (Err fault) → Lists text None
lists_nothing text (NotLinkFormat at) own answer = λ (others : List Link) (other : IsAnswer text (Ok others)). absurd (answer.0 others other.0)
lists_nothing text TooManyLinks own answer =
    λ (others : List Link) (other : IsAnswer text (Ok others)). absurd (answer.2 (rw (one_reading text answer.0 others answer.1 other.0) other.1))
lists_nothing text TooManyParams own answer =
    λ (others : List Link) (other : IsAnswer text (Ok others)). absurd (answer.3 (rw (one_reading text answer.0 others answer.1 other.0) other.2))
lists_nothing text TargetTooLong own answer =
    λ (others : List Link) (other : IsAnswer text (Ok others)). absurd (answer.4 (rw (one_reading text answer.0 others answer.1 other.0) other.3))
lists_nothing text NoMemory own answer = absurd (own refl)

pub refused_lists : {E : Type 0} (text : List ℕ) (fault : LinkFault) (r : Result (Option Listing) E) → IsAnswer text (Err fault)
    → IfOk r (λ listing. (fault ≡ NoMemory → ⊥) × (listing ≡ None)) → IfOk r (Lists text)
refused_lists text fault (Ok listing) answer h = subst (Lists text) (sym h.1) (lists_nothing text fault h.0 answer)
refused_lists text fault (Err e) answer h = tt

pub listed_lists : {E : Type 0} (text : List ℕ) (links : List Link) (r : Result (Option Listing) E) → IsAnswer text (Ok links)
    → IfOk r (λ listing. listing ≡ listing_of links) → IfOk r (Lists text)
listed_lists text links (Ok listing) answer h = lists_links text links listing answer h
listed_lists text links (Err e) answer h = tt
