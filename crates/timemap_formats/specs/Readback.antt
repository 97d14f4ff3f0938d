-- What readers find in the texts.
use Rattle.std.specs.Prelude.{ℕ, Bool, true, false, List, [], ◌∷◌, length, ◌==◌, codes, Option, None, Some}
use Rattle.std.specs.Option.{option_map, option_and_then}
use Rattle.json.specs.Json.{Json, null, boolean, number, string, array, object, Items, no_items, item, document}
use Rattle.json.specs.Find.{get}
use Rattle.memento_time.specs.declared.mementos.Memento.{Memento}
use Rattle.timemap_formats.specs.declared.listing.Row.{Row}
use Rattle.timemap_formats.specs.declared.listing.Row.TheVariants.{OfMemento, OfPage}
use Rattle.timemap_formats.specs.declared.listing.Listing.{Listing}
use Rattle.timemap_formats.specs.Dates.{rfc3339}

-- the mementos that rows list, in order
abbrev pub mementos_of : List Row → List Memento
mementos_of [] = []
mementos_of (OfMemento ends m ∷ rows) = m ∷ mementos_of rows
mementos_of (OfPage page ∷ rows) = mementos_of rows

-- the text of a string
abbrev pub text_in : Json → Option (List ℕ)
text_in null = None
text_in (boolean b) = None
text_in (number s) = None
text_in (string s) = Some s
text_in (array js) = None
text_in (object ms) = None

-- a datetime and an address, if there are both
abbrev pub both : Option (List ℕ) → Option (List ℕ) → Option (List ℕ × List ℕ)
both None uri = None
both (Some datetime) None = None
both (Some datetime) (Some uri) = Some (datetime, uri)

-- the datetime and the address of a memento
abbrev pub memento_in : Json → Option (List ℕ × List ℕ)
memento_in j = both (option_and_then text_in (get (codes "datetime") j)) (option_and_then text_in (get (codes "uri") j))

-- one before the others
abbrev pub before_all : Option (List ℕ × List ℕ) → Option (List (List ℕ × List ℕ)) → Option (List (List ℕ × List ℕ))
before_all None more = None
before_all (Some one) more = option_map (λ all. one ∷ all) more

-- those of items, in order
abbrev pub all_in : Items → Option (List (List ℕ × List ℕ))
all_in no_items = Some []
all_in (item j js) = before_all (memento_in j) (all_in js)

-- those of an array
abbrev pub array_in : Json → Option (List (List ℕ × List ℕ))
array_in null = None
array_in (boolean b) = None
array_in (number s) = None
array_in (string s) = None
array_in (array js) = all_in js
array_in (object ms) = None

-- the datetimes and addresses that a reader of JSON finds in a text under `mementos` and `list`
abbrev pub mementos_in : List ℕ → Option (List (List ℕ × List ℕ))
mementos_in text =
    option_and_then array_in (option_and_then (get (codes "list")) (option_and_then (get (codes "mementos")) (document text)))

-- a memento as it is found
abbrev pub as_found : Memento → List ℕ × List ℕ
as_found m = (rfc3339 m.at, m.uri)

-- the rows of mementos in order: whether the head is the first of all is given, and it is the last if none follows
abbrev pub memento_rows : Bool → List Memento → List Row
memento_rows first [] = []
memento_rows first (m ∷ ms) = OfMemento (record { first = first; last = length ms == 0 }) m ∷ memento_rows false ms

-- what an original's TimeMap lists
abbrev pub timemap_listing : List ℕ → List ℕ → List Memento → Listing
timemap_listing base original mementos = record {
  head = record { base = base; original = original; place = original };
  rows = memento_rows true mementos;
}
