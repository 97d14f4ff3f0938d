-- How many more unknown originals may be wished for.
use Rattle.std.specs.Prelude.{ℕ, Option, if◌then◌else◌, is_some, length, option_map}
use Rattle.std.specs.NonZero.{non_zero_usize_get}
use Rattle.round_values.specs.Wishes.{room_left}
use Rattle.round_standing.specs.declared.bounds.Room.{Room}
use Rattle.service_settings.specs.declared.settings.Settings.{Settings}

-- The settings' `wanted` leaves as many as what is known doesn't use up. Where something is forgotten, what is known
-- gives way, and the book is told all that are wanted.
abbrev pub room_by : Settings → ℕ → ℕ → ℕ → Room
room_by settings listed entries wanted = record {
  left = room_left (length settings.archives.items) listed wanted entries;
  told = if is_some settings.forgetting.every then wanted else room_left (length settings.archives.items) listed wanted entries;
}

-- the same, if the settings have `wanted`, of which rounds look after so many originals, and so many entries are known
abbrev pub room_of : Settings → ℕ → ℕ → Option Room
room_of settings listed entries =
    option_map (λ wanted. room_by settings listed entries (non_zero_usize_get wanted)) settings.wishing.wanted
