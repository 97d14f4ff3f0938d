-- From which cursor a peer is asked, and what is young enough not to be asked for.
use Rattle.std.specs.Prelude.{◌||◌, ℕ, Bool, true, false, Option, is_some}
use Rattle.std.specs.Option.{option_map_or}
use Rattle.std.specs.FinMap as map
use Rattle.replica_exchange.specs.CursorRule.{Held}
use Rattle.replica_exchange.specs.declared.cursor.Cursor.{Cursor}
use Rattle.harvest_lattice.specs.Lattice.{Entries, Key}
use Rattle.round_values.specs.Freshness.{is_fresh}
use Rattle.service_settings.specs.declared.settings.Settings.{Settings}
use Rattle.service_settings.specs.declared.timing.Timing.{Timing}

-- whether these settings have something forgotten
abbrev pub forgets : Settings → Bool
forgets settings = is_some settings.forgetting.every || is_some settings.forgetting.withdrawn_file

-- the cursor that is held for a peer: where something is forgotten, one of those that stay, and else one of the
-- merger's
abbrev pub held_for : Bool → Held → Held → ℕ → Option Cursor
held_for true kept own peer = map.get kept peer
held_for false kept own peer = map.get own peer

-- what is known of an archive's original is young enough in a second
abbrev pub is_young_in : Timing → Entries → Key → ℕ → Bool
is_young_in timing known key second = option_map_or (λ kept. is_fresh timing kept second) (map.get known key) false
