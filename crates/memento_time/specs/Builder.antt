-- Mementos whose addresses stand one after the other in one text.
use Rattle.std.specs.Prelude.{◌≡◌, ℕ, ◌+◌, ◌<◌, ◌^◌, List, [], ◌∷◌, length, take, drop, All}
use Rattle.memento_time.specs.declared.mementos.Memento.{Memento}
use Rattle.memento_time.specs.Text.{IsClean}

-- the mementos whose seconds and lengths of addresses these are
abbrev pub mementos_listed : List (ℕ × ℕ) → List ℕ → List Memento
mementos_listed [] bytes = []
mementos_listed (mark ∷ marks) bytes = record { at = mark.0; uri = take mark.1 bytes } ∷ mementos_listed marks (drop mark.1 bytes)

-- how many bytes the addresses have
abbrev pub total : List (ℕ × ℕ) → ℕ
total [] = 0
total (mark ∷ marks) = mark.1 + total marks

-- the lengths make up the whole text, of less than 4 GiB, and each address is clean
pub record IsBuilder (marks : List (ℕ × ℕ)) (bytes : List ℕ) : Type 0 where
  pub whole : total marks ≡ length bytes
  pub small : length bytes < 2 ^ 32
  pub each : All (λ m. IsClean m.uri) (mementos_listed marks bytes)
