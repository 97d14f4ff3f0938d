-- A listing as a value of JSON (RFC 8259), with the members that MemGator writes; those of an index are our own.
use Rattle.std.specs.Prelude.{ℕ, ◌-◌, Bool, true, false, List, [], ◌∷◌, length, codes, Option, None, Some, if◌then◌else◌}
use Rattle.std.specs.List.{slice_get}
use Rattle.json.specs.Json.{Json, string, array, object, Items, no_items, item, Members, no_members, member}
use Rattle.json.specs.Layout.{pretty}
use Rattle.json.specs.Tree.{json_tokens}
use Rattle.memento_time.specs.declared.mementos.Memento.{Memento}
use Rattle.timemap_formats.specs.declared.listing.PageLink.{PageLink}
use Rattle.timemap_formats.specs.declared.listing.Row.{Row}
use Rattle.timemap_formats.specs.declared.listing.Row.TheVariants.{OfMemento, OfPage}
use Rattle.timemap_formats.specs.declared.listing.Head.{Head}
use Rattle.timemap_formats.specs.declared.listing.Listing.{Listing}
use Rattle.timemap_formats.specs.Addresses.{form_address, timegate_at, timemap_at, itself_at}
use Rattle.timemap_formats.specs.Dates.{rfc3339}

-- a memento: its datetime and its address
abbrev pub memento_json : Memento → Json
memento_json m =
    object (member (codes "datetime") (string (rfc3339 m.at)) (member (codes "uri") (string m.uri) no_members))

-- a page of an index: its address in JSON, and its period
abbrev pub page_json : List ℕ → PageLink → Json
page_json base page =
    object (member (codes "uri") (string (form_address base (codes "json") page.place))
    (member (codes "from") (string (rfc3339 page.from)) (member (codes "until") (string (rfc3339 page.until)) no_members)))

-- a row before other items, if it is a memento
abbrev pub memento_item : Row → Items → Items
memento_item (OfMemento ends m) more = item (memento_json m) more
memento_item (OfPage page) more = more

-- the mementos of rows, in order
abbrev pub memento_items : List Row → Items
memento_items [] = no_items
memento_items (row ∷ rows) = memento_item row (memento_items rows)

-- a row before other items, if it is a page
abbrev pub page_item : List ℕ → Row → Items → Items
page_item base (OfMemento ends m) more = more
page_item base (OfPage page) more = item (page_json base page) more

-- the pages of rows, in order
abbrev pub page_items : List ℕ → List Row → Items
page_items base [] = no_items
page_items base (row ∷ rows) = page_item base row (page_items base rows)

-- a row's memento, if that is the first of all
abbrev pub if_first : Option Row → Option Memento
if_first None = None
if_first (Some (OfMemento ends m)) = if ends.first then Some m else None
if_first (Some (OfPage page)) = None

-- a row's memento, if that is the last of all
abbrev pub if_last : Option Row → Option Memento
if_last None = None
if_last (Some (OfMemento ends m)) = if ends.last then Some m else None
if_last (Some (OfPage page)) = None

-- the first of all mementos, if the rows begin with it
abbrev pub first_of : List Row → Option Memento
first_of rows = if_first (slice_get rows 0)

-- the last of all mementos, if the rows end with it
abbrev pub last_of : List Row → Option Memento
last_of rows = if_last (slice_get rows (length rows - 1))

-- a member with a memento before others, if there is one
abbrev pub memento_member : List ℕ → Option Memento → Members → Members
memento_member name None more = more
memento_member name (Some m) more = member name (memento_json m) more

-- the rows begin with a page
abbrev pub is_page : Option Row → Bool
is_page None = false
is_page (Some (OfMemento ends m)) = false
is_page (Some (OfPage page)) = true

-- the listing is the index of pages
abbrev pub is_index : List Row → Bool
is_index rows = is_page (slice_get rows 0)

-- what rows list: the mementos, with the first and the last of all if they are among them
abbrev pub mementos_json : List Row → Json
mementos_json rows =
    object (member (codes "list") (array (memento_items rows))
    (memento_member (codes "first") (first_of rows) (memento_member (codes "last") (last_of rows) no_members)))

-- the member with what rows list before others: the pages of an index, and else the mementos
abbrev pub listed_member : List ℕ → List Row → Members → Members
listed_member base rows more =
    if is_index rows
    then member (codes "pages") (array (page_items base rows)) more
    else member (codes "mementos") (mementos_json rows) more

-- where the original's TimeMap stands in each form
abbrev pub forms_json : Head → Json
forms_json head =
    object (member (codes "link_format") (string (timemap_at (codes "link") head))
    (member (codes "json_format") (string (timemap_at (codes "json") head))
    (member (codes "cdxj_format") (string (timemap_at (codes "cdxj") head)) no_members)))

-- the members behind what rows list
abbrev pub last_members : Head → Members
last_members head =
    member (codes "timemap_uri") (forms_json head)
    (member (codes "timegate_uri") (string (timegate_at head)) no_members)

-- a listing
abbrev pub json_of : Listing → Json
json_of l =
    object (member (codes "original_uri") (string l.head.original)
    (member (codes "self") (string (itself_at (codes "json") l.head))
    (listed_member l.head.base l.rows (last_members l.head))))

-- its text: a line for each member and item
unfoldable pub json_text : Listing → List ℕ
json_text l = pretty (json_tokens (json_of l))
