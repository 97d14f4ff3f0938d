-- The pages of a long TimeMap (RFC 7089, section 5.1.2): 1,000 mementos on each, in order, and the index that names
-- them.
use Rattle.std.specs.Prelude.{ℕ, ◌+◌, ◌-◌, ◌*◌, ◌/◌, ◌≤◌, Bool, true, false, ◌&&◌, not, ◌==◌, List, [], ◌∷◌, ◌++◌, length, take, drop, map}
use Rattle.std.specs.Prelude.{codes, nat_lt, if◌then◌else◌, bytes_eq}
use Rattle.std.specs.List.{range_with_len, list_any, filter}
use Rattle.std.specs.Fmt.{decimal}
use Rattle.link_format.specs.Grammar.{Link}
use Rattle.memento_time.specs.declared.mementos.Memento.{Memento}
use Rattle.timemap_writer.specs.TimeMap.{head_links, timemap_address, timemap_link, memento_link, memento_links, lines_text}
use Rattle.timemap_writer.specs.TimeMap.{timemap_text, rel}

-- how many pages a list has: the last is perhaps shorter
abbrev pub pages : {A : Type 0} → List A → ℕ
pages xs = (length xs + 999) / 1000

-- a page's number counts from 1
abbrev pub IsPage : {A : Type 0} → List A → ℕ → Type 0
IsPage xs page = (1 ≤ page) × (page ≤ pages xs)

-- what stands on a page
abbrev pub stretch : {A : Type 0} → ℕ → List A → List A
stretch page xs = take 1000 (drop (1000 * (page - 1)) xs)

-- what a page's address has between the base and the original
abbrev pub page_path : ℕ → List ℕ
page_path page = codes "/timemap/link/page/" ++ decimal page ++ codes "/"

-- where a page stands
abbrev pub page_address : List ℕ → List ℕ → ℕ → List ℕ
page_address base original page = base ++ page_path page ++ original

-- What a page states: the original, its TimeGate, the page itself with its own period, and its stretch of the list's
-- memento lines, so that the first and the last are the whole list's.
abbrev pub page_links : List ℕ → List ℕ → List Memento → ℕ → List Link
page_links base original mementos page =
    head_links base original (page_address base original page) (stretch page mementos)
    ++ stretch page (memento_links true mementos)

-- the link to a page in the index
abbrev pub page_link : List ℕ → List ℕ → List Memento → ℕ → Link
page_link base original mementos page =
    timemap_link (codes "timemap") (page_address base original page) (stretch page mementos)

-- the numbers of a list's pages
abbrev pub numbers : {A : Type 0} → List A → List ℕ
numbers xs = range_with_len 1 (pages xs)

-- what the index states: the original, its TimeGate, the index itself at the TimeMap's address, and the pages in order
abbrev pub index_links : List ℕ → List ℕ → List Memento → List Link
index_links base original mementos =
    head_links base original (timemap_address base original) mementos
    ++ map (page_link base original mementos) (numbers mementos)

-- a page of the TimeMap
unfoldable pub page_text : List ℕ → List ℕ → List Memento → ℕ → List ℕ
page_text base original mementos page = lines_text (page_links base original mementos page)

-- the index of the pages
unfoldable pub index_text : List ℕ → List ℕ → List Memento → List ℕ
index_text base original mementos = lines_text (index_links base original mementos)

-- what stands at the TimeMap's address: of more than one page the index, and else the TimeMap itself
abbrev pub listing_text : List ℕ → List ℕ → List Memento → List ℕ
listing_text base original mementos =
    if nat_lt 1 (pages mementos) then index_text base original mementos else timemap_text base original mementos

-- the lines of a stretch of mementos: whether the head is the first of all, and whether more follow the last
abbrev pub stretch_links : Bool → Bool → List Memento → List Link
stretch_links first more [] = []
stretch_links first more (m ∷ ms) =
    memento_link first (not more && (length ms == 0)) m ∷ stretch_links false more ms

-- the link has a datetime, as a link to a memento has and no other (RFC 7089, section 2.2.4)
abbrev pub has_datetime : Link → Bool
has_datetime link = list_any (λ param. bytes_eq param.name (codes "datetime")) link.params

-- those of a text's links that lead to mementos, in order
abbrev pub memento_lines : List Link → List Link
memento_lines links = filter has_datetime links

-- the link to a text, as the text itself has it: the relation, which stands first, is `self`
abbrev pub of_itself : Link → Link
of_itself link = record { target = link.target; params = rel (codes "self") ∷ drop 1 link.params }
