-- The text of a listing in JSON reads back as the value.
use Rattle.std.proofs.Common.{◌≡◌, ℕ, zero, suc, ◌*◌, ◌≤◌, Bool, true, false, List, [], ◌∷◌, ◌++◌}
use Rattle.std.proofs.Common.{map, codes, refl, sym, ap, subst, ◌∙◌, arith, append_assoc, append-nil, inl, inr, Some, None, Option}
use Rattle.std.specs.Prelude.{replicate, if◌then◌else◌}
use Rattle.std.specs.Option.{option_map, option_and_then}
use Rattle.json.specs.Token.{Token, begin_object, end_object, begin_array, end_array, key, string, number, boolean, null, bad}
use Rattle.json.specs.Lex.{tokens}
use Rattle.json.specs.Json as json
use Rattle.json.specs.Json.{Json, Items, no_items, item, Members, no_members, member, object, value, if_last, max_depth, document}
use Rattle.json.specs.Find.{get, get_member}
use Rattle.json.specs.Print.{token_text, separator, begins, ends, ArePrintable}
use Rattle.json.specs.Layout.{Last, nothing, bracket, name, is_value, line, gap, depth_at, step, pretty_from, pretty}
use Rattle.json.specs.Layout as layout
use Rattle.json.specs.Spaced.{IsGap, AreGaps, print_spaced}
use Rattle.json.specs.Tree.{json_tokens, depth, items_depth, members_depth, HasNumbers, ItemsHaveNumbers, MembersHaveNumbers}
use Rattle.json.proofs.Printed.Tokens.{tokens-print_spaced}
use Rattle.json.proofs.Printed.Trees.{ArePrintable-json_tokens, value-json_tokens}
use Rattle.memento_time.specs.declared.mementos.Memento.{Memento}
use Rattle.timemap_formats.specs.declared.listing.Row.{Row}
use Rattle.timemap_formats.specs.declared.listing.Row.TheVariants.{OfMemento, OfPage}
use Rattle.timemap_formats.specs.declared.listing.Listing.{Listing}
use Rattle.timemap_formats.specs.Addresses.{itself_at}
use Rattle.timemap_formats.specs.Json.{memento_items, page_items, memento_member, first_of, last_of, is_index, mementos_json, listed_member, last_members, json_of, json_text}
use Rattle.timemap_formats.specs.Readback.{mementos_of, all_in, array_in, mementos_in, as_found}

-- ---- the layout has the tokens

abbrev gapped : Last × ℕ → List Token → List (List ℕ × Token)
gapped s [] = []
gapped s (t ∷ ts) = (gap s.0 (begins t) (depth_at s.1 t), t) ∷ gapped (step s t) ts

after_is : (s : Last × ℕ) (t : Token) → is_value (step s t).0 ≡ ends t
after_is s begin_object = refl
after_is s end_object = refl
after_is s begin_array = refl
after_is s end_array = refl
after_is s (key x) = refl
after_is s (string x) = refl
after_is s (number x) = refl
after_is s (boolean x) = refl
after_is s null = refl
after_is s bad = refl

spaced : (s : Last × ℕ) (ts : List Token) → pretty_from s ts ≡ print_spaced (is_value s.0) (gapped s ts)
unfolding pretty_from print_spaced
spaced s [] = refl
spaced s (t ∷ ts) =
    let before = separator (is_value s.0) t in
    let space = gap s.0 (begins t) (depth_at s.1 t) in
    append_assoc before (space ++ token_text t) (pretty_from (step s t) ts)
    ∙ ap (λ (r : List ℕ). before ++ r) (append_assoc space (token_text t) (pretty_from (step s t) ts))
    ∙ ap (λ (r : List ℕ). before ++ (space ++ (token_text t ++ r)))
    (spaced (step s t) ts ∙ ap (λ (b : Bool). print_spaced b (gapped (step s t) ts)) (after_is s t))

spaces : (n : ℕ) → IsGap (replicate n 32)
spaces zero = tt
spaces (suc n) = (inl refl, spaces n)

is_gap : (last : Last) (opens : Bool) (deep : ℕ) → IsGap (gap last opens deep)
is_gap nothing opens deep = tt
is_gap bracket true deep = (inr refl, spaces (2 * deep))
is_gap bracket false deep = tt
is_gap name opens deep = (inl refl, tt)
is_gap layout.value opens deep = (inr refl, spaces (2 * deep))

are_gaps : (s : Last × ℕ) (ts : List Token) → AreGaps (gapped s ts)
are_gaps s [] = tt
are_gaps s (t ∷ ts) = (is_gap s.0 (begins t) (depth_at s.1 t), are_gaps (step s t) ts)

tokens_of : (s : Last × ℕ) (ts : List Token) → map (λ p. p.1) (gapped s ts) ≡ ts
tokens_of s [] = refl
tokens_of s (t ∷ ts) = ap (λ (rest : List Token). t ∷ rest) (tokens_of (step s t) ts)

tokens-pretty : (ts : List Token) → ArePrintable ts → tokens (pretty ts) ≡ ts
tokens-pretty ts printable =
    let start : Last × ℕ = (nothing, 0) in
    ap tokens (spaced start ts)
    ∙ tokens-print_spaced (gapped start ts) (are_gaps start ts) (subst ArePrintable (sym (tokens_of start ts)) printable)
    ∙ tokens_of start ts

document-pretty : (j : Json) → HasNumbers j → depth j ≤ max_depth → document (pretty (json_tokens j)) ≡ Some j
document-pretty j numbers shallow =
    ap (option_and_then (λ p. if_last p.0 p.1))
    (ap (value max_depth) (tokens-pretty (json_tokens j) (ArePrintable-json_tokens j numbers) ∙ sym (append-nil (json_tokens j)))
    ∙ value-json_tokens j max_depth [] shallow)

-- ---- a listing has no numbers, and is shallow

mementos_plain : (rows : List Row) → ItemsHaveNumbers (memento_items rows) × (items_depth (memento_items rows) ≤ 1)
mementos_plain [] = (tt, omega arith)
mementos_plain (OfMemento ends m ∷ rows) = let rest = mementos_plain rows in (((tt, (tt, tt)), rest.0), omega (arith, rest.1))
mementos_plain (OfPage page ∷ rows) = mementos_plain rows

pages_plain : (base : List ℕ) (rows : List Row) → ItemsHaveNumbers (page_items base rows) × (items_depth (page_items base rows) ≤ 1)
pages_plain base [] = (tt, omega arith)
pages_plain base (OfMemento ends m ∷ rows) = pages_plain base rows
pages_plain base (OfPage page ∷ rows) = let rest = pages_plain base rows in (((tt, (tt, (tt, tt))), rest.0), omega (arith, rest.1))

member_plain : (label : List ℕ) (m : Option Memento) (more : Members) → MembersHaveNumbers more → members_depth more ≤ 2
    → MembersHaveNumbers (memento_member label m more) × (members_depth (memento_member label m more) ≤ 2)
member_plain label None more numbers shallow = (numbers, shallow)
member_plain label (Some m) more numbers shallow = (((tt, (tt, tt)), numbers), omega arith)

ends_plain : (rows : List Row)
    → MembersHaveNumbers (memento_member (codes "first") (first_of rows) (memento_member (codes "last") (last_of rows) no_members))
    × (members_depth (memento_member (codes "first") (first_of rows) (memento_member (codes "last") (last_of rows) no_members)) ≤ 2)
ends_plain rows =
    let last = member_plain (codes "last") (last_of rows) no_members tt (omega arith) in
    member_plain (codes "first") (first_of rows) (memento_member (codes "last") (last_of rows) no_members) last.0 last.1

object_plain : (rows : List Row) → HasNumbers (mementos_json rows) × (depth (mementos_json rows) ≤ 3)
object_plain rows =
    let all = mementos_plain rows in
    let ends = ends_plain rows in
    ((all.0, ends.0), omega (arith, all.1, ends.1))

listed_plain : (base : List ℕ) (rows : List Row) (more : Members) → MembersHaveNumbers more → members_depth more ≤ 3
    → MembersHaveNumbers (listed_member base rows more) × (members_depth (listed_member base rows more) ≤ 3)
listed_plain base rows more numbers shallow =
    let mementos = object_plain rows in
    let pages = pages_plain base rows in
    elim (is_index rows) as (λ b. MembersHaveNumbers (if b then member (codes "pages") (json.array (page_items base rows)) more else member (codes "mementos") (mementos_json rows) more)
    × (members_depth (if b then member (codes "pages") (json.array (page_items base rows)) more else member (codes "mementos") (mementos_json rows) more) ≤ 3)) [
      | true ↦ ((pages.0, numbers), omega (arith, pages.1))
      | false ↦ ((mementos.0, numbers), omega (arith, mementos.1))
    ]

pub document_of : (l : Listing) → document (json_text l) ≡ Some (json_of l)
unfolding json_text
document_of l =
    let rest = listed_plain l.head.base l.rows (last_members l.head) ((tt, (tt, (tt, tt))), (tt, tt)) (omega arith) in
    document-pretty (json_of l) (tt, (tt, rest.0)) (omega (arith, rest.1))

-- ---- its mementos

all_found : (rows : List Row) → all_in (memento_items rows) ≡ Some (map as_found (mementos_of rows))
all_found [] = refl
all_found (OfMemento ends m ∷ rows) = ap (option_map (λ all. as_found m ∷ all)) (all_found rows)
all_found (OfPage page ∷ rows) = all_found rows

list_found : (items : Items) (first last : Option Memento)
    → get (codes "list") (object (member (codes "list") (json.array items) (memento_member (codes "first") first (memento_member (codes "last") last no_members))))
    ≡ Some (json.array items)
list_found items None None = refl
list_found items None (Some last) = refl
list_found items (Some first) None = refl
list_found items (Some first) (Some last) = refl

mementos_found : (l : Listing) → is_index l.rows ≡ false → get (codes "mementos") (json_of l) ≡ Some (mementos_json l.rows)
mementos_found l plain =
    ap (λ (b : Bool). get_member (codes "mementos") (
    member (codes "original_uri") (json.string l.head.original)
    (member (codes "self") (json.string (itself_at (codes "json") l.head))
    (if b
    then member (codes "pages") (json.array (page_items l.head.base l.rows)) (last_members l.head)
    else member (codes "mementos") (mementos_json l.rows) (last_members l.head)))
    )) plain

pub found_in_json : (l : Listing) → is_index l.rows ≡ false → mementos_in (json_text l) ≡ Some (map as_found (mementos_of l.rows))
found_in_json l plain =
    ap (λ (j : Option Json). option_and_then array_in (option_and_then (get (codes "list")) (option_and_then (get (codes "mementos")) j))) (document_of l)
    ∙ ap (λ (j : Option Json). option_and_then array_in (option_and_then (get (codes "list")) j)) (mementos_found l plain)
    ∙ ap (option_and_then array_in) (list_found (memento_items l.rows) (first_of l.rows) (last_of l.rows))
    ∙ all_found l.rows
