-- The text of a part of a delta: where it begins and where it ends, and a delta's text.
use Rattle.std.specs.Prelude.{◌≡◌, ⊤, ℕ, ◌<◌, List, [], ◌∷◌, ◌++◌, length, codes, Option, Some, None, IfSome, true}
use Rattle.memento_time.specs.Text.{IsArchiveName, IsOriginal}
use Rattle.replica_exchange.specs.Spelling.{Spelling, Begins}
use Rattle.replica_exchange.specs.DeltaText.{IsDelta, IsDeltaText, delta_text}
use Rattle.replica_exchange.specs.Faults.{longest_text}
use Rattle.replica_exchange.specs.Stamps.{StampedState}
use Rattle.replica_exchange.specs.CursorRule.{start_from}
use Rattle.replica_exchange.specs.declared.cursor.Cursor.{Cursor}
use Rattle.replica_exchange.specs.declared.fault.StateFault.{StateFault}
use Rattle.replica_exchange.specs.declared.fault.StateFault.TheVariants.{TooLong, NotState, NoMemory}
use Rattle.delta_parts.specs.PartRule.{key_of, is_behind, delta_within}
use Rattle.delta_parts.specs.declared.place.Place.{Place}
use Rattle.delta_parts.specs.declared.part.Part.{Part}

-- an archive's name and an original, or no place
abbrev pub IsPlace : Option Place → Type 0
IsPlace place = IfSome place (λ p. IsArchiveName p.archive × IsOriginal p.original)

-- `ARCHIVE ORIGINAL`, or `-` for no place, and the end of the line
abbrev pub place_text : Option Place → List ℕ
place_text None = codes "-\n"
place_text (Some p) = (p.archive ++ 32 ∷ []) ++ (p.original ++ 10 ∷ [])

abbrev pub place : Spelling (Option Place)
place = record { Is = IsPlace; spelled = place_text }

-- a value, written behind a word
abbrev pub behind_word : {A : Type 0} → List ℕ → Spelling A → Spelling A
behind_word word s = record { Is = s.Is; spelled = λ value. word ++ s.spelled value }

-- `behind ..` and `until ..`
abbrev pub place_lines : Spelling (Option Place × Option Place)
place_lines = record {
  Is = λ places. IsPlace places.0 × IsPlace places.1;
  spelled = λ places. (codes "behind " ++ place_text places.0) ++ (codes "until " ++ place_text places.1);
}

-- `memento-part 1`, behind which place the part begins, and until which one it goes
abbrev pub head : Spelling (Option Place × Option Place)
head = behind_word (codes "memento-part 1\n") place_lines

abbrev pub part_text : Part → List ℕ
part_text p = head.spelled (p.behind, p.until) ++ delta_text p.delta

-- places and a delta that have a text
pub record IsPart (p : Part) : Type 0 where
  pub behind : IsPlace p.behind
  pub until : IsPlace p.until
  pub delta : IsDelta p.delta

-- the bytes are a head and the text of a delta, in either format
pub record IsPartText (bytes : List ℕ) (p : Part) : Type 0 where
  pub rest : List ℕ
  pub head : Begins head bytes (p.behind, p.until) rest
  pub delta : IsDeltaText rest p.delta

-- behind a part's head stand more bytes than a delta's text may have
pub record IsTooLong (bytes : List ℕ) : Type 0 where
  pub places : Option Place × Option Place
  pub rest : List ℕ
  pub head : Begins head bytes places rest
  pub long : longest_text < length rest

-- why a text is read as no part
abbrev pub IsPartCause : StateFault → List ℕ → Type 0
IsPartCause TooLong text = IsTooLong text
IsPartCause NotState text = (p : Part) → ¬ IsPartText text p
IsPartCause NoMemory text = ⊤

-- the part of what the merges behind the first n changed whose keys are behind one place and not behind the other
abbrev pub part_above : StampedState → ℕ → Option Place → Option Place → Part
part_above s n behind until = record { delta = delta_within s n behind until; behind = behind; until = until }

-- It is the text of such a part, up to some place, and can be read again. If more follows, the next part begins further
-- on.
pub record IsTextAbove (bytes : List ℕ) (s : StampedState) (n : ℕ) (behind : Option Place) : Type 0 where
  pub until : Option Place
  pub text : bytes ≡ part_text (part_above s n behind until)
  pub fits : IsPart (part_above s n behind until)
  pub further : IfSome until (λ p. is_behind behind (key_of p) ≡ true)

-- the same, from a cursor on
abbrev pub IsTextFrom : List ℕ → StampedState → Option Cursor → Option Place → Type 0
IsTextFrom bytes s c behind = IsTextAbove bytes s (start_from s c) behind
