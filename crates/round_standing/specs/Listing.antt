-- What `check` writes of the file of originals.
use Rattle.std.specs.Prelude.{◌≡◌, ℕ, ◌-◌, ◌*◌, ◌^◌, ◌++◌, IsPermutation, min, List, [], length, take, Option, Some, None, IfSome, count_by, is_some, true, zero, suc}
use Rattle.std.specs.List.{flat_map}
use Rattle.std.specs.declared.vec.Vec.{Vec}
use Rattle.std.specs.declared.alloc.Global.{Global}
use Rattle.original_list.specs.Lists.{each_once}
use Rattle.original_list.specs.Rows.{rows_of, bad_lines, is_bad, most_told, originals_of}
use Rattle.service_settings.specs.declared.settings.Settings.{Settings}
use Rattle.service_log.specs.Logs.{list_line}
use Rattle.service_log.specs.declared.lines.ListMatter.TheVariants.{Bad, More, Unreadable}

-- the line about a line that holds no original
abbrev pub bad_line : ℕ → List ℕ
bad_line number = list_line (Bad number)

-- the line about how many more of these there are, if there are any
abbrev pub more_line : ℕ → List ℕ
more_line zero = []
more_line (suc before) = list_line (More (suc before))

-- a line about each of these, of so many, and one about how many more there are
abbrev pub bad_report : List ℕ → ℕ → List ℕ
bad_report numbers count = flat_map bad_line numbers ++ more_line (count - length numbers)

-- what is written of a file with this text, or of one that can't be read
abbrev pub list_report : Option (List ℕ) → List ℕ
list_report None = list_line Unreadable
list_report (Some text) = bad_report (take most_told (bad_lines 1 (rows_of text))) (count_by is_bad (rows_of text))

-- what may be written: nothing if no file is named, otherwise the report of one
abbrev pub IsReported : {P : Type 0} → Option P → List ℕ → Type 0
IsReported None bytes = bytes ≡ []
IsReported (Some path) bytes = (read : Option (List ℕ)) × (bytes ≡ list_report read)

-- The file with this text was read: rounds look after the originals of the settings and those of the text, each once,
-- in some order.
pub record IsRead (settings : Settings) (text : List ℕ) (all : Option (Vec (List ℕ) Global)) : Type 0 where
  pub some : is_some all ≡ true
  pub each : IfSome all (λ all. IsPermutation (each_once (settings.originals.items ++ originals_of (rows_of text))) all.items)

-- the originals that rounds look after: those of the file and of the settings, or those of the settings alone
abbrev pub list_of : {O A : Type 0} → Option (Vec O A) → Vec O A → List O
list_of None own = own.items
list_of (Some all) own = all.items

-- how many jobs a round has that looks after these originals at these archives, as far as 64 bits count
abbrev pub jobs_of : {O A : Type 0} → List O → List A → ℕ
jobs_of originals archives = min (length originals * length archives) (2 ^ 64 - 1)
