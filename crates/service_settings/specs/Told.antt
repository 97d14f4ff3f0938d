-- What is told of keys that aren't looked at, while they are looked for.
use Rattle.std.specs.Prelude.{◌≡◌, ℕ, List, length, map, take, string_bytes}
use Rattle.service_settings.specs.Unknown.{most_named}
use Rattle.service_settings.specs.declared.unknown.Told.{Told}

-- these are the lines about all keys so far
pub record IsTold (told : Told) (all : List (List ℕ)) : Type 0 where
  pub lines : map (λ line. string_bytes line) told.lines.items ≡ take most_named all
  pub count : told.count ≡ length all
