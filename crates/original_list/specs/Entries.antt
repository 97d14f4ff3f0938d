-- Entries of settings that are to be originals.
use Rattle.std.specs.Prelude.{ℕ, ◌+◌, Bool, true, List, Option, Some, None, is_none, if◌then◌else◌}
use Rattle.toml.specs.Data.{Data, Items, no_items, item, as_array, as_str}
use Rattle.timemap_reader.specs.Original.{original_of}

-- there is no text, or it names no original
abbrev pub names_none : Option (List ℕ) → Bool
names_none None = true
names_none (Some text) = is_none (original_of text)

-- the entry isn't a text that names an original
abbrev pub is_bad : Data → Bool
is_bad entry = names_none (as_str entry)

-- the number of the first such entry, if the first of all has this number
abbrev pub first_bad : ℕ → Items → Option ℕ
first_bad number no_items = None
first_bad number (item entry entries) = if is_bad entry then Some number else first_bad (number + 1) entries

-- the number of the first such entry of a list, from 1 on, if there is a list
abbrev pub bad_in : Option Items → Option ℕ
bad_in None = None
bad_in (Some entries) = first_bad 1 entries

-- the same of a value, if there is one
abbrev pub bad_entry : Option Data → Option ℕ
bad_entry None = None
bad_entry (Some value) = bad_in (as_array value)
