-- From where a peer is asked some of whose news weren't taken.
use Rattle.std.specs.Prelude.{◌≡◌, ℕ, Bool, Option, Some, None, if◌then◌else◌}
use Rattle.replica_exchange.specs.declared.cursor.Cursor.{Cursor}
use Rattle.round_values.specs.Freshness.{is_young}
use Rattle.round_values.specs.declared.leads.Lead.{Lead}

-- for how many seconds a lead lasts
abbrev pub lead_lasts : ℕ
lead_lasts = 3600

-- the lead is of less than an hour ago, or as little ahead of the clock
abbrev pub lasts : Lead → ℕ → Bool
lasts lead now = is_young lead.begun.0 now (Some lead_lasts)

-- a peer is asked from the lead's cursor while that lasts, and else from the one that is held
abbrev pub IsAskedFrom : Option Cursor → Option Lead → ℕ → Option Cursor → Type 0
IsAskedFrom held None now asked = asked ≡ held
IsAskedFrom held (Some lead) now asked = asked ≡ (if lasts lead now then Some lead.cursor else held)
