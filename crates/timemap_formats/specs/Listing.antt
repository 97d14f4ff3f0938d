-- What a text that lists mementos in link-format says: a TimeMap, the index of its pages, or a page.
use Rattle.std.specs.Prelude.{◌≡◌, ℕ, ◌-◌, true, false, ◌&&◌, nat_lt, nat_le, nat_eq, List, [], ◌∷◌, ◌++◌}
use Rattle.std.specs.Prelude.{length, take, drop, codes, bytes_eq, Option, None, Some, Ok, if◌then◌else◌}
use Rattle.std.specs.List.{starts_with, list_all}
use Rattle.std.specs.Option.{option_map, option_and_then}
use Rattle.link_format.specs.Grammar.{Link}
use Rattle.link_format.specs.Limits as limits
use Rattle.link_format.specs.Values.{first_value}
use Rattle.memento_time.specs.Text.{is_clean_byte}
use Rattle.memento_time.specs.SecondOf.{second_of}
use Rattle.timemap_formats.specs.declared.listing.Ends.{Ends}
use Rattle.timemap_formats.specs.declared.listing.Row.{Row}
use Rattle.timemap_formats.specs.declared.listing.Row.TheVariants.{OfMemento, OfPage}
use Rattle.timemap_formats.specs.declared.listing.Listing.{Listing}
use Rattle.timemap_formats.specs.declared.listing.Head.{Head}
use Rattle.text_fields.specs.Parts.{behind}

-- the text, if it is a clean one
abbrev pub clean_at : List ℕ → Option (List ℕ)
clean_at text =
    if nat_lt 0 (length text) && nat_le (length text) 8192 && list_all is_clean_byte text then Some text else None

-- what stands before this end, if the text ends with it
abbrev pub before : List ℕ → List ℕ → Option (List ℕ)
before end text =
    let n = length text - length end in
    if bytes_eq (drop n text) end then Some (take n text) else None

-- the second that the first parameter of this name has
abbrev pub second_at : List ℕ → Link → Option ℕ
second_at name link = option_and_then second_of (first_value name link.params)

-- whether a memento with these relation types is the first of all, and whether it is the last
abbrev pub ends_of : List ℕ → Option Ends
ends_of relations =
    if bytes_eq relations (codes "memento") then Some (record { first = false; last = false })
    else if bytes_eq relations (codes "first memento") then Some (record { first = true; last = false })
    else if bytes_eq relations (codes "last memento") then Some (record { first = false; last = true })
    else if bytes_eq relations (codes "first last memento") then Some (record { first = true; last = true })
    else None

-- a memento at this second, if both are named
abbrev pub memento_row : Option Ends → Option ℕ → Option (List ℕ) → Option Row
memento_row None at uri = None
memento_row (Some ends) None uri = None
memento_row (Some ends) (Some at) None = None
memento_row (Some ends) (Some at) (Some uri) = Some (OfMemento ends (record { at = at; uri = uri }))

-- a page with its period, if all three are named
abbrev pub page_row : Option (List ℕ) → Option ℕ → Option ℕ → Option Row
page_row None from until = None
page_row (Some place) None until = None
page_row (Some place) (Some from) None = None
page_row (Some place) (Some from) (Some until) =
    Some (OfPage (record { place = place; from = from; until = until }))

-- by the relation types
abbrev pub row_by : List ℕ → Link → Option (List ℕ) → Option Row
row_by front link None = None
row_by front link (Some relations) =
    if bytes_eq relations (codes "timemap")
    then page_row (option_and_then clean_at (behind front link.target)) (second_at (codes "from") link) (second_at (codes "until") link)
    else memento_row (ends_of relations) (second_at (codes "datetime") link) (clean_at link.target)

-- what a link below the head lists: a memento, or a page whose address begins with this front
unfoldable pub row_of : List ℕ → Link → Option Row
row_of front link = row_by front link (first_value (codes "rel") link.params)

-- a row before the others, if all can be read
abbrev pub with_row : Option Row → Option (List Row) → Option (List Row)
with_row None rows = None
with_row (Some row) rows = option_map (λ more. row ∷ more) rows

-- those of all links, if each lists one
abbrev pub rows_of : List ℕ → List Link → Option (List Row)
rows_of front [] = Some []
rows_of front (link ∷ links) = with_row (row_of front link) (rows_of front links)

-- what stands before an original in the address of its TimeMap in link-format, below a base
abbrev pub front_at : List ℕ → List ℕ
front_at base = base ++ codes "/timemap/link/"

-- what the targets of the first three links name below a base, if they are those of an original and of a text of it
abbrev pub head_by : List ℕ → Option (List ℕ) → Option (List ℕ) → Option Head
head_by base None place = None
head_by base (Some original) None = None
head_by base (Some original) (Some place) = Some (record { base = base; original = original; place = place })

-- what a text's own address has behind the front
abbrev pub place_at : List ℕ → List ℕ → Option (List ℕ)
place_at base target = option_and_then clean_at (behind (front_at base) target)

-- the base at which an original's TimeGate stands
abbrev pub base_at : List ℕ → List ℕ → Option (List ℕ)
base_at original target = option_and_then clean_at (before (codes "/timegate/" ++ original) target)

-- with the base, if it is known
abbrev pub head_on : List ℕ → List ℕ → Option (List ℕ) → Option Head
head_on original itself None = None
head_on original itself (Some base) = head_by base (clean_at original) (place_at base itself)

-- by the targets of the links to the original, its TimeGate and the text itself
unfoldable pub head_of : List ℕ → List ℕ → List ℕ → Option Head
head_of original gate itself = head_on original itself (base_at original gate)

-- a head and rows, if both can be read
abbrev pub with_rows : Head → Option (List Row) → Option Listing
with_rows head None = None
with_rows head (Some rows) = Some (record { head = head; rows = rows })

-- below a head, if there is one
abbrev pub listing_below : Option Head → List Link → Option Listing
listing_below None links = None
listing_below (Some head) links = with_rows head (rows_of (front_at head.base) links)

-- what links list: three of them are the head, and each of the others is a row
unfoldable pub listing_of : List Link → Option Listing
listing_of [] = None
listing_of (a ∷ []) = None
listing_of (a ∷ b ∷ []) = None
listing_of (a ∷ b ∷ c ∷ links) = listing_below (head_of a.target b.target c.target) links

-- what a text lists: what its links do; none if it isn't link-format within the limits of what is read
abbrev pub Lists : List ℕ → Option Listing → Type 0
Lists text (Some listing) = (links : List Link) × limits.IsAnswer text (Ok links) × (listing_of links ≡ Some listing)
Lists text None = (links : List Link) → limits.IsAnswer text (Ok links) → listing_of links ≡ None
