-- What is due when.
use Rattle.std.specs.Prelude.{ℕ, ◌+◌, ◌-◌, ◌^◌, ◌≤◌, min, Option, IsSomeAnd, option_map}
use Rattle.round_values.specs.Absences.{in_ms}
use Rattle.round_values.specs.declared.dues.Due.{Due}

-- so much time has passed since then, as far as 64 bits count
abbrev pub IsDueAt : ℕ → ℕ → ℕ → Type 0
IsDueAt since most now = min (since + most) (2 ^ 64 - 1) ≤ now

-- so much time has passed since it was last done
abbrev pub IsDue : Due → ℕ → Type 0
IsDue due now = IsSomeAnd due.every (λ every. IsDueAt due.last.0 every now)

-- the same in milliseconds, if there are seconds
abbrev pub in_millis : Option ℕ → Option ℕ
in_millis seconds = option_map in_ms seconds
