-- Numbers that count from 1.
use Rattle.std.specs.Prelude.{◌≡◌, ℕ, zero, suc, ◌+◌, ◌<◌, ◌≤◌}

-- the place of a number from 1 to the count
pub record IsPlaceOf (number count place : ℕ) : Type 0 where
  pub number_is : number ≡ place + 1
  pub within : place < count

-- there is no such number from 1 to the count
abbrev pub IsNoNumber : ℕ → ℕ → Type 0
IsNoNumber zero count = Unit {0}
IsNoNumber (suc place) count = count ≤ place
