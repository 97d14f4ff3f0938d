-- Which keys of settings aren't looked at, and what is said of them.
use Rattle.std.specs.Prelude.{ℕ, ◌-◌, List, [], ◌∷◌, ◌++◌, Bool, false, ◌||◌, Option, Some, None, is_some, if◌then◌else◌, bytes_eq, codes, length, map, take, nat_lt}
use Rattle.std.specs.Fmt.{decimal}
use Rattle.toml.specs.Data.{Data, Items, no_items, item, Members, no_members, member, as_array, as_table, get_member}
use Rattle.service_settings.specs.Keys.{is_name}
use Rattle.service_settings.specs.Shown.{shown}
use Rattle.service_settings.specs.declared.unknown.Place.{Place}
use Rattle.service_settings.specs.declared.unknown.Place.TheVariants.{Top, Archive}

-- the most unknown keys that are named, and the most bytes of a key that are shown
abbrev pub most_named : ℕ
most_named = 20

abbrev pub most_shown : ℕ
most_shown = 64

-- the text is the name of a key of an archive
abbrev pub is_archive_name : List ℕ → Bool
is_archive_name text = bytes_eq text (codes "name") || (bytes_eq text (codes "timemap")
    || (bytes_eq text (codes "at_once") || bytes_eq text (codes "every")))

-- a key is looked at where it stands
abbrev pub is_known : Place → List ℕ → Bool
is_known Top text = is_name text
is_known Archive text = is_archive_name text

-- the keys that aren't looked at, in the order of their bytes
abbrev pub unknown : Place → Members → List (List ℕ)
unknown place no_members = []
unknown place (member k d ms) = if is_known place k then unknown place ms else k ∷ unknown place ms

-- what a line begins with
abbrev pub lead_of : Place → List ℕ
lead_of Top = codes "unknown key: "
lead_of Archive = codes "archives: unknown key: "

-- the line about a key
abbrev pub line_of : Place → List ℕ → List ℕ
line_of place k = lead_of place ++ shown most_shown k

-- the lines about a table
abbrev pub table_lines : Place → Members → List (List ℕ)
table_lines place members = map (line_of place) (unknown place members)

-- the same of an archive, if it is a table
abbrev pub archive_lines : Option Members → List (List ℕ)
archive_lines None = []
archive_lines (Some members) = table_lines Archive members

-- the lines about archives
abbrev pub archives_lines : Items → List (List ℕ)
archives_lines no_items = []
archives_lines (item d ds) = archive_lines (as_table d) ++ archives_lines ds

-- the same of a list, if there is one
abbrev pub list_lines : Option Items → List (List ℕ)
list_lines None = []
list_lines (Some archives) = archives_lines archives

-- the same of a value, if there is one
abbrev pub value_lines : Option Data → List (List ℕ)
value_lines None = []
value_lines (Some value) = list_lines (as_array value)

-- the lines about all keys of settings that aren't looked at
abbrev pub all_lines : Members → List (List ℕ)
all_lines members = table_lines Top members ++ value_lines (get_member (codes "archives") members)

-- what is said of keys beyond those that are named
abbrev pub rest_lines : ℕ → List (List ℕ)
rest_lines more = if nat_lt 0 more then (codes "unknown keys: " ++ decimal more ++ codes " more") ∷ [] else []

-- the first of these lines, and how many more keys there are
abbrev pub told_lines : List (List ℕ) → List (List ℕ)
told_lines lines = take most_named lines ++ rest_lines (length lines - most_named)

-- the settings have one of the keys of this service's own by which more is told than what is specified
abbrev pub tells_more : Members → Bool
tells_more members = is_some (get_member (codes "tolerance") members) || (is_some (get_member (codes "again") members)
    || (is_some (get_member (codes "publish") members) || (is_some (get_member (codes "pull") members)
    || is_some (get_member (codes "originals_file") members))))

-- the lines that are told of settings, if more is told of them than what is specified
abbrev pub told_of : Option Members → Option (List (List ℕ))
told_of None = None
told_of (Some members) = if tells_more members then Some (told_lines (all_lines members)) else None

-- the text is one of these
abbrev pub is_among : List ℕ → List (List ℕ) → Bool
is_among text [] = false
is_among text (other ∷ others) = bytes_eq text other || is_among text others
