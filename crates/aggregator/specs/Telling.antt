-- Lines of which there may be several.
use Rattle.std.specs.Prelude.{ℕ, List, ◌++◌, codes, string_bytes, String}
use Rattle.std.specs.List.{flat_map}
use Rattle.std.specs.declared.alloc.Global.{Global}

-- lines, each behind the same words and before a LF
abbrev pub all_lines : List ℕ → List (String Global) → List ℕ
all_lines words lines = flat_map (λ line. words ++ string_bytes line ++ codes "\n") lines
