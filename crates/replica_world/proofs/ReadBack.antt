-- What is written as a TimeMap, as a page of one or as the index of its pages is read as just what it lists.
use Rattle.std.proofs.Common.{◌≡◌, ℕ, zero, suc, ◌+◌, ◌-◌, ◌*◌, ◌^◌, ◌<◌, ◌≤◌, ◌==◌, nat_lt, Bool, true, false, List, [], ◌∷◌, ◌++◌, length}
use Rattle.std.proofs.Common.{drop, map, codes, Option, Some, None, Ok, refl, sym, ap, subst, ◌∙◌, append_assoc, arith}
use Rattle.std.specs.Prelude.{All, slice_get}
use Rattle.std.specs.List.{range_with_len}
use Rattle.std.proofs.lemmas.List.{length-append, length-take}
use Rattle.std.proofs.lemmas.List.Elements.{All-head, All-tail}
use Rattle.url.specs.Parts.{Parts}
use Rattle.url_texts.specs.Followed.{IsFollowed}
use Rattle.memento_time.specs.declared.mementos.Memento.{Memento}
use Rattle.memento_time.specs.Mementos.{IsMemento}
use Rattle.memento_time.specs.Second.{IsSecond, imf}
use Rattle.memento_time.specs.Text.{IsOriginal}
use Rattle.memento_time.proofs.ReadLemmas.{Reads-imf}
use Rattle.link_format.specs.Grammar.{Link, Reading}
use Rattle.link_format.specs.Limits.{FewLinks, FewParams, ShortTargets}
use Rattle.timemap_reader.specs.Answer.{IsAnswer, IsShort, base_of}
use Rattle.timemap_reader.specs.Page.{IsPageOf}
use Rattle.link_format.specs.Writing.{param_text, params_text, link_text, escape, links_each_behind}
use Rattle.link_format.proofs.Appended.{escape_longer}
use Rattle.timemap_writer.specs.Service.{IsBase}
use Rattle.timemap_writer.specs.TimeMap as written
use Rattle.timemap_writer.specs.TimeMap.{memento_link, memento_links, original_link, timegate_link, timemap_link, head_links, period, timemap_text, timemap_links}
use Rattle.timemap_writer.specs.Pages.{pages, numbers, stretch, stretch_links, page_path, page_address, page_link, page_links, page_text, index_links, index_text}
use Rattle.timemap_writer.proofs.Bases.{base_short}
use Rattle.timemap_writer.proofs.Readings.{All-stretch, timemap_reads, page_reads, index_reads}
use Rattle.timemap_writer.proofs.Stretches.{lines_taken, line_count}
use Rattle.replica_world.specs.ReadBack.{AreOnWeb, page_of, index_of}
use Rattle.replica_world.proofs.Sizes.{page_is_short}
use Rattle.replica_world.proofs.Found.{path_length, its_timemap, its_page, its_index}

-- ---- its limits

at_most_one : (name : List ℕ) (o : Option Memento) → length (written.datetime_of name o) ≤ 1
at_most_one name None = omega arith
at_most_one name (Some m) = omega arith

mementos_few : (first : Bool) (ms : List Memento) → FewParams (memento_links first ms)
mementos_few first [] = tt
mementos_few first (m ∷ ms) = (omega arith, mementos_few false ms)

few_params : (base original : List ℕ) (ms : List Memento) → FewParams (timemap_links base original ms)
few_params base original ms =
    let from = at_most_one (codes "from") (slice_get ms 0) in
    let until = at_most_one (codes "until") (slice_get ms (length ms - 1)) in
    let both : length (period ms) ≤ 2 = rw (length-append) (omega (arith, from, until)) in
    let self : length (timemap_link (codes "self") (written.timemap_address base original) ms).params ≤ 32 = omega (arith, both) in
    (omega arith, (omega arith, (self, mementos_few true ms)))

mementos_short : (first : Bool) (ms : List Memento) → All IsMemento ms → ShortTargets (memento_links first ms)
mementos_short first [] each = tt
mementos_short first (m ∷ ms) each =
    (omega (arith, (All-head IsMemento m ms each).uri.0.1), mementos_short false ms (All-tail IsMemento m ms each))

address_short : (base path original : List ℕ) → length base ≤ 256 → length path ≤ 40 → length original ≤ 4096 → length (base ++ path ++ original) ≤ 8192
address_short base path original b p o =
    let whole : length (base ++ path ++ original) ≡ length base + length path + length original =
    length-append (base ++ path) original ∙ ap (λ n. n + length original) (length-append base path) in
    rw whole (omega (arith, b, p, o))

short_targets : (base original : List ℕ) (ms : List Memento) → IsBase base → IsOriginal original → All IsMemento ms → ShortTargets (timemap_links base original ms)
short_targets base original ms is known each =
    let whole = base_short base is in
    let gate : length (written.timegate_address base original) ≤ 8192 = address_short base (codes "/timegate/") original whole (omega arith) known.1 in
    let self : length (written.timemap_address base original) ≤ 8192 = address_short base (codes "/timemap/link/") original whole (omega arith) known.1 in
    (omega (arith, known.1), (gate, (self, mementos_short true ms each)))

-- ---- and those of a page and of an index

page_few : (relation address : List ℕ) (ms : List Memento) → length (timemap_link relation address ms).params ≤ 32
page_few relation address ms =
    let from = at_most_one (codes "from") (slice_get ms 0) in
    let until = at_most_one (codes "until") (slice_get ms (length ms - 1)) in
    let both : length (period ms) ≤ 2 = rw (length-append) (omega (arith, from, until)) in
    omega (arith, both)

stretch_few : (first more : Bool) (ms : List Memento) → FewParams (stretch_links first more ms)
stretch_few first more [] = tt
stretch_few first more (m ∷ ms) = (omega arith, stretch_few false more ms)

stretch_short : (first more : Bool) (ms : List Memento) → All IsMemento ms → ShortTargets (stretch_links first more ms)
stretch_short first more [] each = tt
stretch_short first more (m ∷ ms) each =
    (omega (arith, (All-head IsMemento m ms each).uri.0.1), stretch_short false more ms (All-tail IsMemento m ms each))

page_short : (base original : List ℕ) (page : ℕ) → IsBase base → IsOriginal original → page < 2 ^ 64 → length (page_address base original page) ≤ 8192
page_short base original page is known small =
    address_short base (page_path page) original (base_short base is) (path_length page small) known.1

pages_few : (base original : List ℕ) (ms : List Memento) (from count : ℕ) → FewParams (map (page_link base original ms) (range_with_len from count))
pages_few base original ms from zero = tt
pages_few base original ms from (suc count) = (page_few (codes "timemap") (page_address base original from) (stretch from ms), pages_few base original ms (from + 1) count)

pages_short : (base original : List ℕ) (ms : List Memento) (from count : ℕ) → IsBase base → IsOriginal original → from + count ≤ 2 ^ 64
    → ShortTargets (map (page_link base original ms) (range_with_len from count))
pages_short base original ms from zero is known room = tt
pages_short base original ms from (suc count) is known room =
    (page_short base original from is known (omega (arith, room)), pages_short base original ms (from + 1) count is known (omega (arith, room)))

head_few : (base original address : List ℕ) (ms : List Memento) (links : List Link) → FewParams links → FewParams (head_links base original address ms ++ links)
head_few base original address ms links few = (omega arith, (omega arith, (page_few (codes "self") address ms, few)))

head_short : (base original address : List ℕ) (ms : List Memento) (links : List Link) → IsBase base → IsOriginal original → length address ≤ 8192 → ShortTargets links
    → ShortTargets (head_links base original address ms ++ links)
head_short base original address ms links is known here short =
    let gate : length (written.timegate_address base original) ≤ 8192 = address_short base (codes "/timegate/") original (base_short base is) (omega arith) known.1 in
    (omega (arith, known.1), (gate, (here, short)))

-- ---- a short text lists few mementos

param_length : (name value : List ℕ) → 5 + length name + length value ≤ length (param_text name (Some value))
param_length name value =
    let whole : length (param_text name (Some value)) ≡ 5 + length name + length (escape value) = rw (length-append, length-append) (omega arith) in
    omega (arith, whole, escape_longer value)

longer_left : (a b : List ℕ) (n : ℕ) → n ≤ length a → n ≤ length (a ++ b)
longer_left a b n h = rw (length-append a b) (omega (arith, h))

longer_right : (a b : List ℕ) (n : ℕ) → n ≤ length b → n ≤ length (a ++ b)
longer_right a b n h = rw (length-append a b) (omega (arith, h))

line_length : (first last : Bool) (m : Memento) → IsSecond m.at → 42 ≤ length (link_text (memento_link first last m))
line_length first last m is =
    let relations = param_text (codes "rel") (Some (written.memento_relations first last)) in
    let date = param_text (codes "datetime") (Some (imf m.at)) in
    let dated : 42 ≤ length date = omega (arith, param_length (codes "datetime") (imf m.at), (Reads-imf m.at is).len) in
    longer_right (codes "<" ++ m.uri ++ codes ">") _ 42 (longer_right relations _ 42 (longer_left date [] 42 dated))

lines_length : (separator : List ℕ) (first : Bool) (ms : List Memento) → All IsMemento ms → 42 * length ms ≤ length (links_each_behind separator (memento_links first ms))
lines_length separator first [] each = omega arith
lines_length separator first (m ∷ ms) each =
    let last = length ms == 0 in
    let one = longer_right separator (link_text (memento_link first last m)) 42 (line_length first last m (All-head IsMemento m ms each).at) in
    let more = lines_length separator false ms (All-tail IsMemento m ms each) in
    rw (length-append (separator ++ link_text (memento_link first last m)) (links_each_behind separator (memento_links false ms))) (omega (arith, one, more))

text_length : (base original : List ℕ) (ms : List Memento) → All IsMemento ms → 42 * length ms ≤ length (timemap_text base original ms)
unfolding timemap_text
text_length base original ms each =
    let n = 42 * length ms in
    let separator = codes ",\n" in
    let gate = separator ++ link_text (timegate_link base original) in
    let self = separator ++ link_text (timemap_link (codes "self") (written.timemap_address base original) ms) in
    let lines = links_each_behind separator (memento_links true ms) in
    let body = gate ++ (self ++ lines) in
    let inside : n ≤ length body = longer_right gate (self ++ lines) n (longer_right self lines n (lines_length separator true ms each)) in
    longer_left (link_text (original_link original) ++ body) (codes "\n") n (longer_right (link_text (original_link original)) body n inside)

few_links : (base original : List ℕ) (ms : List Memento) → All IsMemento ms → IsShort (timemap_text base original ms) → FewLinks (timemap_links base original ms)
few_links base original ms each short =
    let count = line_count true ms in
    omega (arith, text_length base original ms each, short, count)

page_line : (address : List ℕ) (ms : List Memento) → 42 ≤ length (link_text (timemap_link (codes "timemap") address ms))
page_line address ms =
    let relation = param_text (codes "rel") (Some (codes "timemap")) in
    let kind = param_text (codes "type") (Some (codes "application/link-format")) in
    let both : 42 ≤ length (relation ++ kind) = omega arith in
    let start = codes "<" ++ address ++ codes ">" in
    let more = params_text (period ms) in
    let parts : link_text (timemap_link (codes "timemap") address ms) ≡ start ++ ((relation ++ kind) ++ more) = simp append_assoc in
    subst (λ (t : List ℕ). 42 ≤ length t) (sym parts) (longer_right start ((relation ++ kind) ++ more) 42 (longer_left (relation ++ kind) more 42 both))

page_lines_length : (base original : List ℕ) (ms : List Memento) (separator : List ℕ) (from count : ℕ)
    → 42 * count ≤ length (links_each_behind separator (map (page_link base original ms) (range_with_len from count)))
page_lines_length base original ms separator from zero = omega arith
page_lines_length base original ms separator from (suc count) =
    let line = link_text (page_link base original ms from) in
    let one = longer_right separator line 42 (page_line (page_address base original from) (stretch from ms)) in
    let rest = links_each_behind separator (map (page_link base original ms) (range_with_len (from + 1) count)) in
    let more = page_lines_length base original ms separator (from + 1) count in
    rw (length-append (separator ++ line) rest) (omega (arith, one, more))

index_length : (base original : List ℕ) (ms : List Memento) → 42 * pages ms ≤ length (index_text base original ms)
unfolding index_text
index_length base original ms =
    let n = 42 * pages ms in
    let separator = codes ",\n" in
    let gate = separator ++ link_text (timegate_link base original) in
    let self = separator ++ link_text (timemap_link (codes "self") (written.timemap_address base original) ms) in
    let lines = links_each_behind separator (map (page_link base original ms) (numbers ms)) in
    let body = gate ++ (self ++ lines) in
    let inside : n ≤ length body = longer_right gate (self ++ lines) n (longer_right self lines n (page_lines_length base original ms separator 1 (pages ms))) in
    longer_left (link_text (original_link original) ++ body) (codes "\n") n (longer_right (link_text (original_link original)) body n inside)

numbered_length : (f : ℕ → Link) (from count : ℕ) → length (map f (range_with_len from count)) ≡ count
numbered_length f from zero = refl
numbered_length f from (suc count) = ap (λ n. suc n) (numbered_length f (from + 1) count)

index_few : (base original : List ℕ) (ms : List Memento) → IsShort (index_text base original ms) → FewLinks (index_links base original ms)
index_few base original ms short =
    let count = numbered_length (page_link base original ms) 1 (pages ms) in
    omega (arith, index_length base original ms, short, count)

-- an index of any length has one reading, which names just its pages
pub index_named : (base original : List ℕ) (mementos : List Memento) → IsBase base → IsFollowed base → IsOriginal original → IsFollowed original
    → All IsMemento mementos → length mementos < 2 ^ 64
    → Reading (index_text base original mementos) (index_links base original mementos) × ((url : Parts) → IsPageOf url (index_links base original mementos) (index_of base original mementos))
index_named base original ms is base_is known followed each small =
    (index_reads base original ms is known each small, λ url. its_index base original url ms is known base_is followed small)

pub index_back : (base original address : List ℕ) (url : Parts) (mementos : List Memento) → IsBase base → IsFollowed base → IsOriginal original → IsFollowed original
    → All IsMemento mementos → length mementos < 2 ^ 64 → base_of address ≡ Some url → IsShort (index_text base original mementos)
    → IsAnswer address (index_text base original mementos) (Ok (index_of base original mementos))
index_back base original address url ms is base_is known followed each small at short =
    let room : 1 + pages ms ≤ 2 ^ 64 = omega (arith, small) in
    let self : length (written.timemap_address base original) ≤ 8192 = address_short base (codes "/timemap/link/") original (base_short base is) (omega arith) known.1 in
    let links = map (page_link base original ms) (numbers ms) in
    let params = head_few base original (written.timemap_address base original) ms links (pages_few base original ms 1 (pages ms)) in
    let targets = head_short base original (written.timemap_address base original) ms links is known self (pages_short base original ms 1 (pages ms) is known room) in (
      index_links base original ms,
      url,
      short,
      (index_reads base original ms is known each small, index_few base original ms short, params, targets),
      at,
      its_index base original url ms is known base_is followed small,
    )

pub page_back : (base original address : List ℕ) (url : Parts) (mementos : List Memento) (page : ℕ) → IsBase base → IsOriginal original → AreOnWeb mementos
    → page < 2 ^ 64 → base_of address ≡ Some url → IsAnswer address (page_text base original mementos page) (Ok (page_of (stretch page mementos)))
page_back base original address url ms page is known web small at =
    let here = stretch page ms in
    let lines = lines_taken page ms in
    let each = All-stretch IsMemento page ms web.each in
    let few : length (stretch page (memento_links true ms)) ≤ 1000 = omega (arith, length-take 1000 (drop (1000 * (page - 1)) (memento_links true ms))) in
    let first = 1000 * (page - 1) == 0 in
    let more = nat_lt 1000 (length (drop (1000 * (page - 1)) ms)) in
    let links = stretch page (memento_links true ms) in
    let params = head_few base original (page_address base original page) here links (subst FewParams lines (stretch_few first more here)) in
    let self = page_short base original page is known small in
    let gate = address_short base (codes "/timegate/") original (base_short base is) (omega arith) known.1 in
    let short = page_is_short base original ms page known.1 gate self web.each in
    let targets = head_short base original (page_address base original page) here links is known self (subst ShortTargets lines (stretch_short first more here each)) in
    (page_links base original ms page, url, short, (page_reads base original ms page is known web.each small, omega (arith, few), params, targets), at, its_page base original url ms page web)

pub read_back : (base original address : List ℕ) (url : Parts) (mementos : List Memento) → IsBase base → IsOriginal original → AreOnWeb mementos
    → base_of address ≡ Some url → IsShort (timemap_text base original mementos)
    → IsAnswer address (timemap_text base original mementos) (Ok (page_of mementos))
read_back base original address url ms is known web at short =
    let links = timemap_links base original ms in
    let reading = timemap_reads base original ms is known web.each in
    let few = few_links base original ms web.each short in
    let params = few_params base original ms in
    let targets = short_targets base original ms is known web.each in
    (links, url, short, (reading, few, params, targets), at, its_timemap url base original ms web)
