-- Which links of a TimeMap and of its pages have a datetime: those to mementos.
use Rattle.std.proofs.Common.{◌≡◌, ℕ, ◌-◌, ◌==◌, Bool, true, false, not, ◌&&◌, List, [], ◌∷◌, ◌++◌, length, codes, Option, Some, None}
use Rattle.std.proofs.Common.{refl, ap, sym, subst, ◌∙◌, arith}
use Rattle.std.specs.Prelude.{slice_get, bytes_eq, Contains}
use Rattle.std.specs.List.{flat_map, list_any}
use Rattle.memento_time.specs.declared.mementos.Memento.{Memento}
use Rattle.link_format.specs.Grammar.{Link}
use Rattle.timemap_writer.specs.TimeMap.{datetime_of, memento_link, memento_links, timemap_link, timemap_address, head_links, timemap_links}
use Rattle.timemap_writer.specs.Pages.{stretch, stretch_links, numbers, page_address, page_link, page_links, has_datetime, memento_lines, of_itself}
use Rattle.timemap_writer.proofs.Stretches.{all_lines, lines_taken, whole_lines}

-- a link to a memento has one
stretch_dated : (first more : Bool) (ms : List Memento) → memento_lines (stretch_links first more ms) ≡ stretch_links first more ms
stretch_dated first more [] = refl
stretch_dated first more (m ∷ ms) =
    ap (λ (rest : List Link). memento_link first (not more && (length ms == 0)) m ∷ rest) (stretch_dated false more ms)

-- a period is no datetime
period_undated : (from until : Option Memento)
    → list_any (λ param. bytes_eq param.name (codes "datetime")) (datetime_of (codes "from") from ++ datetime_of (codes "until") until) ≡ false
period_undated None None = refl
period_undated None (Some m) = refl
period_undated (Some m) None = refl
period_undated (Some m) (Some n) = refl

-- nor has any link at the head of a text one
head_undated : (base original address : List ℕ) (ms : List Memento) (links : List Link)
    → memento_lines (head_links base original address ms ++ links) ≡ memento_lines links
head_undated base original address ms links =
    let undated : has_datetime (timemap_link (codes "self") address ms) ≡ false = period_undated (slice_get ms 0) (slice_get ms (length ms - 1)) in
    rw undated refl

-- those of the whole TimeMap
pub timemap_dated : (base original : List ℕ) (ms : List Memento) → memento_lines (timemap_links base original ms) ≡ memento_links true ms
timemap_dated base original ms =
    head_undated base original (timemap_address base original) ms (memento_links true ms)
    ∙ subst (λ (links : List Link). memento_lines links ≡ links) (all_lines true ms) (stretch_dated true false ms)

-- those of a page
pub page_dated : (base original : List ℕ) (ms : List Memento) (page : ℕ) → memento_lines (page_links base original ms page) ≡ stretch page (memento_links true ms)
page_dated base original ms page =
    head_undated base original (page_address base original page) (stretch page ms) (stretch page (memento_links true ms))
    ∙ subst (λ (links : List Link). memento_lines links ≡ links) (lines_taken page ms) (stretch_dated _ _ (stretch page ms))

each_same : (f g : ℕ → List Link) → ((page : ℕ) → f page ≡ g page) → (pages : List ℕ) → flat_map f pages ≡ flat_map g pages
each_same f g same [] = refl
each_same f g same (page ∷ pages) = λ i. same page i ++ each_same f g same pages i

-- those of the pages, one page after the other
pub whole_dated : (base original : List ℕ) (ms : List Memento)
    → flat_map (λ page. memento_lines (page_links base original ms page)) (numbers ms) ≡ memento_lines (timemap_links base original ms)
whole_dated base original ms =
    each_same (λ page. memento_lines (page_links base original ms page)) (λ page. stretch page (memento_links true ms)) (page_dated base original ms) (numbers ms)
    ∙ whole_lines ms ∙ sym (timemap_dated base original ms)

-- a page's link to itself is the index's, but for its relation
pub page_of_itself : (base original : List ℕ) (ms : List Memento) (page : ℕ) → Contains (page_links base original ms page) (of_itself (page_link base original ms page))
page_of_itself base original ms page = (2, omega arith, refl)
