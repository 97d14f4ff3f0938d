-- When originals were looked after.
use Rattle.std.specs.Prelude.{ℕ, List, Option, bytes_eq}
use Rattle.std.specs.Map.{lookup}
use Rattle.lru.specs.LruCache.{LruCache, lru_cache, promoted, put_entries}

-- originals, by their bytes, each with the second in which it was looked after last, and how many there may be; the one
-- that was noted or asked for last stands first
abbrev pub Seconds : Type 0
Seconds = LruCache (List ℕ) ℕ

-- the second in which an original was looked after last, if it is there
abbrev pub second_of : Seconds → List ℕ → Option ℕ
second_of table original = lookup (bytes_eq original) table.entries

-- once an original was asked for: it stands first, if it is there
abbrev pub after_asking : Seconds → List ℕ → Seconds
after_asking table original = lru_cache (promoted (bytes_eq original) table.entries) table.cap

-- once an original was looked after in a second: it stands first, and if it wasn't there and there was no room, the
-- last is gone
abbrev pub after_noting : Seconds → List ℕ → ℕ → Seconds
after_noting table original second = lru_cache (put_entries bytes_eq table original second) table.cap
