-- A listing in CDXJ, as MemGator writes it: lines about the listing, which begin with `!`, and then a line for each
-- row, which begins with its datetime in fourteen digits. Behind the first space of each line stands JSON.
use Rattle.std.specs.Prelude.{ℕ, List, [], ◌++◌, codes, flat_map}
use Rattle.json.specs.Print.{quoted}
use Rattle.memento_time.specs.Second.{imf}
use Rattle.timemap_writer.specs.TimeMap.{memento_relations}
use Rattle.timemap_formats.specs.declared.listing.PageLink.{PageLink}
use Rattle.timemap_formats.specs.declared.listing.Row.{Row}
use Rattle.timemap_formats.specs.declared.listing.Row.TheVariants.{OfMemento, OfPage}
use Rattle.timemap_formats.specs.declared.listing.Head.{Head}
use Rattle.timemap_formats.specs.declared.listing.Listing.{Listing}
use Rattle.timemap_formats.specs.Addresses.{form_address, timegate_at, timemap_at, itself_at}
use Rattle.timemap_formats.specs.Dates.{digits}

-- the period of a page, up to the end of its line
abbrev pub period_text : PageLink → List ℕ
period_text page = imf page.from ++ codes "\", \"until\": \"" ++ imf page.until ++ codes "\"}\n"

-- a row: a memento with its relation types, or a page with its period
abbrev pub row_line : List ℕ → Row → List ℕ
row_line base (OfMemento ends m) =
    digits m.at ++ codes " {\"uri\": " ++ quoted m.uri
    ++ codes ", \"rel\": \"" ++ memento_relations ends.first ends.last ++ codes "\", \"datetime\": \"" ++ imf m.at ++ codes "\"}\n"
row_line base (OfPage page) =
    digits page.from ++ codes " {\"uri\": " ++ quoted (form_address base (codes "cdxj") page.place)
    ++ codes ", \"rel\": \"timemap\", \"from\": \"" ++ period_text page

-- a text of JSON between two pieces
abbrev pub with_quoted : List ℕ → List ℕ → List ℕ → List ℕ
with_quoted before text after = before ++ quoted text ++ after

-- where the original's TimeMap stands in each form
abbrev pub forms_line : Head → List ℕ
forms_line head =
    with_quoted (codes "!meta {\"timemap_uri\": {\"link_format\": ") (timemap_at (codes "link") head) (codes ", \"json_format\": ")
    ++ with_quoted [] (timemap_at (codes "json") head) (codes ", \"cdxj_format\": ")
    ++ with_quoted [] (timemap_at (codes "cdxj") head) (codes "}}\n")

-- the lines that say what the text is
abbrev pub name_lines : Head → List ℕ
name_lines head =
    codes "!context [\"http://tools.ietf.org/html/rfc7089\"]\n"
    ++ with_quoted (codes "!id {\"uri\": ") (itself_at (codes "cdxj") head) (codes "}\n")
    ++ codes "!keys [\"memento_datetime_YYYYMMDDhhmmss\"]\n"

-- those of the original and its TimeGate
abbrev pub original_lines : Head → List ℕ
original_lines head =
    with_quoted (codes "!meta {\"original_uri\": ") head.original (codes "}\n")
    ++ with_quoted (codes "!meta {\"timegate_uri\": ") (timegate_at head) (codes "}\n")

-- the lines about the listing
abbrev pub head_lines : Head → List ℕ
head_lines head = name_lines head ++ original_lines head ++ forms_line head

-- the whole
unfoldable pub cdxj_text : Listing → List ℕ
cdxj_text l = head_lines l.head ++ flat_map (row_line l.head.base) l.rows
