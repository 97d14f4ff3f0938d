-- What is seen of a device whose calls are counted.
use Rattle.std.specs.Prelude.{◌≡◌, ℕ, ◌+◌, ◌-◌, ◌^◌, ◌<◌, min, List, length, Result, Ok, Err}

-- a device, how many of its calls failed, and how many reads gave bytes
pub record Seen (D : Type 0) : Type 0 where
  pub device : D
  pub failures : ℕ
  pub pieces : ℕ

-- a count once n more were counted; it stays at the greatest number of 64 bits
abbrev pub count_after : ℕ → ℕ → ℕ
count_after n count = min (count + n) (2 ^ 64 - 1)

-- a read gave bytes
abbrev pub IsPiece : {E : Type 0} → Result ℕ E → Type 0
IsPiece (Ok count) = 0 < count
IsPiece (Err e) = ⊥

-- a write failed, or took none of the bytes that it was given
abbrev pub IsFailedWrite : {E : Type 0} → Result ℕ E → List ℕ → Type 0
IsFailedWrite (Ok count) bytes = (count ≡ 0) × (0 < length bytes)
IsFailedWrite (Err e) bytes = Unit {0}

-- a count after so many more
pub record Counted (more old new : ℕ) : Type 0 where
  pub none : more ≡ 0 → new ≡ old
  pub some : 0 < more → new ≡ count_after more old
