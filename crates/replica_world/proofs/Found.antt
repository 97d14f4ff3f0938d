-- What the links of TimeMaps, of their pages and of indexes name.
use Rattle.std.proofs.Common.{◌≡◌, ◌≢◌, ℕ, zero, suc, ◌+◌, ◌-◌, ◌*◌, ◌^◌, ◌<◌, ◌≤◌, ◌==◌, not, ◌&&◌, ◌||◌, Bool, true, false, List, [], ◌∷◌, ◌++◌}
use Rattle.std.proofs.Common.{length, take, drop, map, codes, bytes_eq, Some, refl, sym, ap, subst, ◌∙◌, arith, length-append, take_at}
use Rattle.std.specs.Prelude.{All, IsTrue, count_by, nat_eq}
use Rattle.std.specs.List.{filter, starts_with, range_with_len, AllByRecursion, IsDistinct, position_or_len, list_all}
use Rattle.std.specs.Fmt.{decimal}
use Rattle.std.specs.List.Sorted.{IsStrictlySortedBy}
use Rattle.std.specs.Option.{is_none}
use Rattle.std.specs.Char.{to_ascii_lowercase}
use Rattle.std.proofs.Common.{Less}
use Rattle.std.proofs.lemmas.Bool.Decides.{Decides-eqb, nat_tests}
use Rattle.std.proofs.lemmas.Bool.{false_from_ne_true, and_parts}
use Rattle.std.proofs.lemmas.Fmt.{decimal_injective, length-decimal-le}
use Rattle.std.specs.Int.{IsInRange}
use Rattle.std.specs.Str.Parse.{AllDigits}
use Rattle.std.proofs.lemmas.Str.Parse.{digit_at}
use Rattle.memento_time.proofs.CleanLemmas.{clean_bytes}
use Rattle.std.proofs.lemmas.List.{append_cancel_left, append_cancel_right, take-append-le, length-take}
use Rattle.std.proofs.lemmas.List.Elements.{All-nil, All-cons, All-head, All-tail, All-append}
use Rattle.std.proofs.lemmas.Slice.Eq.{bytes_eq-Decides, starts_is}
use Rattle.url.specs.Parts.{Parts}
use Rattle.memento_time.specs.declared.mementos.Memento.{Memento}
use Rattle.memento_time.specs.Mementos.{IsMemento, memento_cmp}
use Rattle.memento_time.specs.Second.{IsSecond}
use Rattle.memento_time.specs.Text.{IsOriginal, IsClean, IsCleanByte, before_fragment}
use Rattle.memento_time.specs.Blanks.{trim_start}
use Rattle.link_format.specs.Grammar.{Link}
use Rattle.text_fields.specs.Parts.{Lacks}
use Rattle.text_fields.proofs.DecimalLemmas.{decimal_lacks, decimal_digits}
use Rattle.timemap_reader.specs.Address.{is_http_target, starts_with_any_case, same_word, memento_address}
use Rattle.timemap_reader.specs.Page.{named_by, left_out, IsPageOf}
use Rattle.timemap_reader.specs.Role.{is_memento_link, is_further_link, memento_of, further_of, datetime_of}
use Rattle.timemap_reader.proofs.Cleans.{its_own}
use Rattle.timemap_reader.proofs.Datetimes.{imf_read}
use Rattle.timemap_reader.proofs.FirstLaws.{firsts_again}
use Rattle.url_texts.specs.Followed.{begins_on_web, IsFollowed}
use Rattle.timemap_writer.specs.Service.{IsBase}
use Rattle.timemap_writer.specs.TimeMap.{memento_link, memento_links, original_link, timegate_link, timemap_link, timemap_address, timemap_links, head_links}
use Rattle.timemap_writer.specs.Pages.{pages, numbers, stretch, stretch_links, page_path, page_address, page_link, page_links, index_links}
use Rattle.timemap_writer.proofs.Stretches.{all_lines, lines_taken}
use Rattle.timemap_writer.proofs.Readings.{All-stretch, all_taken}
use Rattle.timemap_writer.proofs.Bases.{base_clean, base_short}
use Rattle.replica_world.specs.ReadBack.{AreOnWeb, page_of, index_of}

-- ---- the link to a memento

is_memento : (first last : Bool) (m : Memento) → is_memento_link (memento_link first last m) ≡ true
is_memento true true m = refl
is_memento true false m = refl
is_memento false true m = refl
is_memento false false m = refl

is_not_further : (first last : Bool) (m : Memento) → is_further_link (memento_link first last m) ≡ false
is_not_further true true m = refl
is_not_further true false m = refl
is_not_further false true m = refl
is_not_further false false m = refl

its_datetime : (first last : Bool) (m : Memento) → IsSecond m.at → datetime_of (memento_link first last m) ≡ Some m.at
its_datetime first last m is = imf_read m.at is

its_address : (url : Parts) (m : Memento) → IsMemento m → is_http_target m.uri ≡ true → memento_address url m.uri ≡ Some m.uri
its_address url m is http = rw http (its_own m.uri is.uri)

its_memento : (url : Parts) (first last : Bool) (m : Memento) → IsMemento m → is_http_target m.uri ≡ true
    → memento_of url (memento_link first last m) ≡ Some m
its_memento url first last m is http = rw (its_datetime first last m is.at, its_address url m is http) refl

-- ---- what links name

record Names (url : Parts) (links : List Link) (mementos : List Memento) (pages : List (List ℕ)) : Type 0 where
  listed : named_by is_memento_link (memento_of url) links ≡ mementos
  further : named_by is_further_link (further_of url) links ≡ pages
  all_listed : left_out is_memento_link (memento_of url) links ≡ 0
  all_further : left_out is_further_link (further_of url) links ≡ 0

count_passes : {X : Type 0} (p : X → Bool) (x : X) (xs : List X) → p x ≡ false → count_by p (x ∷ xs) ≡ count_by p xs
count_passes p x xs e = rw e refl

with_memento : (url : Parts) (link : Link) (m : Memento) (links : List Link) (ms : List Memento) (ps : List (List ℕ))
    → is_memento_link link ≡ true → is_further_link link ≡ false → memento_of url link ≡ Some m → Names url links ms ps → Names url (link ∷ links) (m ∷ ms) ps
with_memento url link m links ms ps role other means rest = record {
  listed = rw (role, means) (ap (λ more. m ∷ more) rest.listed);
  further = rw other rest.further;
  all_listed =
      let unnamed : Link → Bool = λ x. is_none (memento_of url x) in
      let here : filter is_memento_link (link ∷ links) ≡ link ∷ filter is_memento_link links = rw role refl in
      ap (count_by unnamed) here ∙ (count_passes unnamed link (filter is_memento_link links) (ap is_none means) ∙ rest.all_listed);
  all_further = rw other rest.all_further;
}

with_further : (url : Parts) (link : Link) (address : List ℕ) (links : List Link) (ms : List Memento) (ps : List (List ℕ))
    → is_memento_link link ≡ false → is_further_link link ≡ true → further_of url link ≡ Some address → Names url links ms ps → Names url (link ∷ links) ms (address ∷ ps)
with_further url link address links ms ps other role means rest = record {
  listed = rw other rest.listed;
  further = rw (role, means) (ap (λ more. address ∷ more) rest.further);
  all_listed = rw other rest.all_listed;
  all_further =
      let unnamed : Link → Bool = λ x. is_none (further_of url x) in
      let here : filter is_further_link (link ∷ links) ≡ link ∷ filter is_further_link links = rw role refl in
      ap (count_by unnamed) here ∙ (count_passes unnamed link (filter is_further_link links) (ap is_none means) ∙ rest.all_further);
}

with_other : (url : Parts) (link : Link) (links : List Link) (ms : List Memento) (ps : List (List ℕ))
    → is_memento_link link ≡ false → is_further_link link ≡ false → Names url links ms ps → Names url (link ∷ links) ms ps
with_other url link links ms ps role other rest = record {
  listed = rw role rest.listed;
  further = rw other rest.further;
  all_listed = rw role rest.all_listed;
  all_further = rw other rest.all_further;
}

abbrev IsAtHttp : Memento → Type 0
IsAtHttp m = IsTrue (is_http_target m.uri)

stretch_named : (url : Parts) (first more : Bool) (ms : List Memento) → All IsMemento ms → All IsAtHttp ms → Names url (stretch_links first more ms) ms []
stretch_named url first more [] each http = record { listed = refl; further = refl; all_listed = refl; all_further = refl }
stretch_named url first more (m ∷ ms) each http =
    let last = not more && (length ms == 0) in
    with_memento url (memento_link first last m) m (stretch_links false more ms) ms [] (is_memento first last m) (is_not_further first last m)
    (its_memento url first last m (All-head IsMemento m ms each) (All-head IsAtHttp m ms http))
    (stretch_named url false more ms (All-tail IsMemento m ms each) (All-tail IsAtHttp m ms http))

head_named : (url : Parts) (base original address : List ℕ) (ms : List Memento) (links : List Link) (found : List Memento) (ps : List (List ℕ))
    → Names url links found ps → Names url (head_links base original address ms ++ links) found ps
head_named url base original address ms links found ps rest =
    with_other url (original_link original) _ found ps refl refl
    (with_other url (timegate_link base original) _ found ps refl refl
    (with_other url (timemap_link (codes "self") address ms) links found ps refl refl rest))

-- ---- a whole TimeMap

pub its_timemap : (url : Parts) (base original : List ℕ) (ms : List Memento) → AreOnWeb ms → IsPageOf url (timemap_links base original ms) (page_of ms)
its_timemap url base original ms web =
    let lines = subst (λ (links : List Link). Names url links ms []) (all_lines true ms) (stretch_named url true false ms web.each web.http) in
    let just = head_named url base original (timemap_address base original) ms (memento_links true ms) ms [] lines in
    record {
      mementos = rw just.listed (record { sorted = web.sorted; same = λ m. ((λ h. h), λ h. h) });
      further = rw just.further refl;
      dropped = rw (just.all_listed, just.all_further) refl;
    }

-- ---- a page

no_mementos : IsStrictlySortedBy memento_cmp []
unfolding IsStrictlySortedBy
no_mementos = tt

sorted_taken : (n : ℕ) (ms : List Memento) → IsStrictlySortedBy memento_cmp ms → IsStrictlySortedBy memento_cmp (take n ms)
unfolding IsStrictlySortedBy
sorted_taken zero ms is = tt
sorted_taken (suc n) [] is = tt
sorted_taken (suc n) (m ∷ ms) is = (all_taken (λ (x : Memento). memento_cmp m x ≡ Less) n ms is.0, sorted_taken n ms is.1)

sorted_dropped : (n : ℕ) (ms : List Memento) → IsStrictlySortedBy memento_cmp ms → IsStrictlySortedBy memento_cmp (drop n ms)
unfolding IsStrictlySortedBy
sorted_dropped zero ms is = is
sorted_dropped (suc n) [] is = tt
sorted_dropped (suc n) (m ∷ ms) is = sorted_dropped n ms is.1

stretch_sorted : (page : ℕ) (ms : List Memento) → IsStrictlySortedBy memento_cmp ms → IsStrictlySortedBy memento_cmp (stretch page ms)
stretch_sorted page ms is = sorted_taken 1000 (drop (1000 * (page - 1)) ms) (sorted_dropped (1000 * (page - 1)) ms is)

pub its_page : (base original : List ℕ) (url : Parts) (ms : List Memento) (page : ℕ) → AreOnWeb ms → IsPageOf url (page_links base original ms page) (page_of (stretch page ms))
its_page base original url ms page web =
    let here = stretch page ms in
    let lines = subst (λ (links : List Link). Names url links here []) (lines_taken page ms)
    (stretch_named url _ _ here (All-stretch IsMemento page ms web.each) (All-stretch IsAtHttp page ms web.http)) in
    let just = head_named url base original (page_address base original page) here (stretch page (memento_links true ms)) here [] lines in
    record {
      mementos = rw just.listed (record { sorted = stretch_sorted page ms web.sorted; same = λ m. ((λ h. h), λ h. h) });
      further = rw just.further refl;
      dropped = rw (just.all_listed, just.all_further) refl;
    }

-- ---- the index

further_role : (address : List ℕ) (ms : List Memento) → is_further_link (timemap_link (codes "timemap") address ms) ≡ true
unfolding trim_start
further_role address ms = refl

-- without a number sign nothing is cut
whole : (text : List ℕ) → Lacks 35 text → before_fragment text ≡ text
whole [] lacks = refl
whole (b ∷ text) lacks =
    let other = All-head (λ b. b ≢ 35) b text lacks in
    let differs : (b == 35) ≡ false = false_from_ne_true (b == 35) (λ same. other (grind (arith, nat_tests, same))) in
    let next : 1 + position_or_len (λ x. x == 35) text ≡ suc (position_or_len (λ x. x == 35) text) = omega arith in
    rw differs (rw next (ap (λ (t : List ℕ). b ∷ t) (whole text (All-tail (λ b. b ≢ 35) b text lacks))))

mapped_length : (f : ℕ → ℕ) (text : List ℕ) → length (map f text) ≡ length text
mapped_length f [] = refl
mapped_length f (b ∷ text) = ap (λ (n : ℕ). suc n) (mapped_length f text)

begins_more : (start text more : List ℕ) → starts_with_any_case text start ≡ true → starts_with_any_case (text ++ more) start ≡ true
begins_more start text more begins =
    let same = (bytes_eq-Decides (map to_ascii_lowercase (take (length start) text)) (map to_ascii_lowercase start)).0 begins in
    let lengths : length (take (length start) text) ≡ length start = sym (mapped_length to_ascii_lowercase (take (length start) text)) ∙ ap length same ∙ mapped_length to_ascii_lowercase start in
    let long : length start ≤ length text = omega (arith, lengths, length-take (length start) text) in
    ap (λ (t : List ℕ). same_word t start) (take-append-le (length start) text more long) ∙ begins

either_more : (a b c d : Bool) → (a ≡ true → c ≡ true) → (b ≡ true → d ≡ true) → (a || b) ≡ true → (c || d) ≡ true
either_more true b c d f g e = rw (f refl) refl
either_more false b true d f g e = refl
either_more false b false d f g e = g e

http_more : (text more : List ℕ) → is_http_target text ≡ true → is_http_target (text ++ more) ≡ true
http_more text more http = either_more _ _ _ _ (begins_more (codes "http://") text more) (begins_more (codes "https://") text more) http

digit_clean : (b : ℕ) → IsInRange 48 57 b → IsCleanByte b
digit_clean b is = ((omega (arith, is.0), omega (arith, is.1)), (λ e. omega (arith, is.1, e)), (λ e. omega (arith, is.1, e)), λ e. omega (arith, is.0, e))

digits_clean : (digits : List ℕ) → AllDigits 10 digits → All IsCleanByte digits
digits_clean [] all = All-nil IsCleanByte
digits_clean (d ∷ digits) all =
    let range = digit_at (d ∷ digits) 0 all (omega arith) in
    All-cons IsCleanByte d digits (digit_clean d range) (digits_clean digits all.1)

each_differs : (byte : ℕ) (text : List ℕ) → list_all (λ b. not (b == byte)) text ≡ true → All (λ b. b ≢ byte) text
each_differs byte [] all = All-nil (λ b. b ≢ byte)
each_differs byte (b ∷ text) all =
    let parts = and_parts (not (b == byte)) (list_all (λ x. not (x == byte)) text) all in
    All-cons (λ x. x ≢ byte) b text (λ same. grind (arith, nat_tests, parts.0, same)) (each_differs byte text parts.1)

clean_path : (page : ℕ) → page < 2 ^ 64 → All IsCleanByte (page_path page)
clean_path page small =
    All-append IsCleanByte (codes "/timemap/link/page/" ++ decimal page) (codes "/")
    (All-append IsCleanByte (codes "/timemap/link/page/") (decimal page) (clean_bytes (codes "/timemap/link/page/") refl) (digits_clean (decimal page) (decimal_digits page small)))
    (clean_bytes (codes "/") refl)

lacks_path : (page : ℕ) → page < 2 ^ 64 → Lacks 35 (page_path page)
lacks_path page small =
    All-append (λ b. b ≢ 35) (codes "/timemap/link/page/" ++ decimal page) (codes "/")
    (All-append (λ b. b ≢ 35) (codes "/timemap/link/page/") (decimal page) (each_differs 35 (codes "/timemap/link/page/") refl) (decimal_lacks 35 (omega arith) page small))
    (each_differs 35 (codes "/") refl)

pub path_length : (page : ℕ) → page < 2 ^ 64 → length (page_path page) ≤ 40
path_length page small =
    let digits = length-decimal-le 20 page (omega arith) (omega (arith, small)) small in
    rw (length-append (codes "/timemap/link/page/" ++ decimal page) (codes "/"), length-append (codes "/timemap/link/page/") (decimal page)) (omega (arith, digits))

address_clean : (base original : List ℕ) (page : ℕ) → IsBase base → IsOriginal original → page < 2 ^ 64 → IsClean (page_address base original page)
address_clean base original page is known small =
    let base_is = base_clean base is in
    let lengths : length (page_address base original page) ≡ length base + length (page_path page) + length original =
    length-append (base ++ page_path page) original ∙ ap (λ (n : ℕ). n + length original) (length-append base (page_path page)) in (
      (omega (arith, lengths, base_is.0.0), omega (arith, lengths, base_short base is, path_length page small, known.1)),
      All-append IsCleanByte (base ++ page_path page) original (All-append IsCleanByte base (page_path page) base_is.1 (clean_path page small)) known.0.1,
    )

address_whole : (base original : List ℕ) (page : ℕ) → IsFollowed base → IsFollowed original → page < 2 ^ 64 → Lacks 35 (page_address base original page)
address_whole base original page base_is is small =
    All-append (λ b. b ≢ 35) (base ++ page_path page) original (All-append (λ b. b ≢ 35) base (page_path page) base_is.whole (lacks_path page small)) is.whole

-- what begins so begins so without regard to case
begins_any : (text start : List ℕ) → starts_with nat_eq text start ≡ true → starts_with_any_case text start ≡ true
begins_any text start is =
    let taken : take (length start) text ≡ start =
    ap (λ (t : List ℕ). take (length start) t) ((starts_is Decides-eqb text start (starts_with nat_eq text start) refl).0 is) ∙ take_at start (drop (length start) text) (length start) refl in
    ap (λ (t : List ℕ). same_word t start) taken ∙ (bytes_eq-Decides (map to_ascii_lowercase start) (map to_ascii_lowercase start)).1 refl

on_web : (text : List ℕ) → begins_on_web text ≡ true → is_http_target text ≡ true
on_web text is =
    either_more _ _ _ _ (begins_any text (codes "http://")) (begins_any text (codes "https://")) is

address_http : (base original : List ℕ) (page : ℕ) → IsFollowed base → is_http_target (page_address base original page) ≡ true
address_http base original page followed =
    http_more (base ++ page_path page) original (http_more base (page_path page) (on_web base followed.web))

-- the address of a page is followed as it stands
its_further : (base original : List ℕ) (url : Parts) (ms : List Memento) (page : ℕ) → IsBase base → IsOriginal original → IsFollowed base → IsFollowed original → page < 2 ^ 64
    → further_of url (page_link base original ms page) ≡ Some (page_address base original page)
its_further base original url ms page is known base_is followed small =
    rw (address_http base original page base_is, whole (page_address base original page) (address_whole base original page base_is followed small))
    (its_own (page_address base original page) (address_clean base original page is known small))

pages_named : (base original : List ℕ) (url : Parts) (ms : List Memento) (from count : ℕ) → IsBase base → IsOriginal original → IsFollowed base → IsFollowed original → from + count ≤ 2 ^ 64
    → Names url (map (page_link base original ms) (range_with_len from count)) [] (map (page_address base original) (range_with_len from count))
pages_named base original url ms from zero is known base_is followed small = record { listed = refl; further = refl; all_listed = refl; all_further = refl }
pages_named base original url ms from (suc count) is known base_is followed small =
    with_further url (page_link base original ms from) (page_address base original from) _ [] _ refl (further_role (page_address base original from) (stretch from ms))
    (its_further base original url ms from is known base_is followed (omega (arith, small)))
    (pages_named base original url ms (from + 1) count is known base_is followed (omega (arith, small)))

-- two pages have two addresses
address_names : (base original : List ℕ) (a b : ℕ) → a < 2 ^ 64 → b < 2 ^ 64 → page_address base original a ≡ page_address base original b → a ≡ b
address_names base original a b small also same =
    let paths = append_cancel_left base (page_path a) (page_path b) (append_cancel_right (base ++ page_path a) (base ++ page_path b) original same) in
    decimal_injective a b small also
    (append_cancel_left (codes "/timemap/link/page/") (decimal a) (decimal b)
    (append_cancel_right (codes "/timemap/link/page/" ++ decimal a) (codes "/timemap/link/page/" ++ decimal b) (codes "/") paths))

later_differ : (base original : List ℕ) (page from count : ℕ) → page < from → from + count ≤ 2 ^ 64
    → AllByRecursion (λ y. bytes_eq (page_address base original page) y ≡ false) (map (page_address base original) (range_with_len from count))
later_differ base original page from zero before small = tt
later_differ base original page from (suc count) before small = (
  false_from_ne_true (bytes_eq (page_address base original page) (page_address base original from))
      (λ same. let e = address_names base original page from (omega (arith, before, small)) (omega (arith, small))
      ((bytes_eq-Decides (page_address base original page) (page_address base original from)).0 same) in omega (arith, e, before)),
  later_differ base original page (from + 1) count (omega (arith, before)) (omega (arith, small)),
)

distinct_pages : (base original : List ℕ) (from count : ℕ) → from + count ≤ 2 ^ 64 → IsDistinct bytes_eq (map (page_address base original) (range_with_len from count))
unfolding IsDistinct
distinct_pages base original from zero small = tt
distinct_pages base original from (suc count) small = (
  later_differ base original from (from + 1) count (omega arith) (omega (arith, small)),
  distinct_pages base original (from + 1) count (omega (arith, small)),
)

pub its_index : (base original : List ℕ) (url : Parts) (ms : List Memento) → IsBase base → IsOriginal original → IsFollowed base → IsFollowed original → length ms < 2 ^ 64
    → IsPageOf url (index_links base original ms) (index_of base original ms)
its_index base original url ms is known base_is followed small =
    let room : 1 + pages ms ≤ 2 ^ 64 = omega (arith, small) in
    let links = map (page_link base original ms) (numbers ms) in
    let just = head_named url base original (timemap_address base original) ms links [] (map (page_address base original) (numbers ms))
    (pages_named base original url ms 1 (pages ms) is known base_is followed room) in
    record {
      mementos = rw just.listed (record { sorted = no_mementos; same = λ m. ((λ h. h), λ h. h) });
      further = rw just.further (sym (firsts_again _ (distinct_pages base original 1 (pages ms) room)));
      dropped = rw (just.all_listed, just.all_further) refl;
    }
