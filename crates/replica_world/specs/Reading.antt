-- What is read of a script, piece by piece, and isn't used yet.
use Rattle.std.specs.Prelude.{◌≡◌, ℕ, ◌+◌, ◌-◌, ◌*◌, ◌≤◌, ◌<◌, ◌⊎◌, ◌==◌, Bool, true, false, if◌then◌else◌, List, [], ◌++◌, length, count_by, Option, None, Some}
use Rattle.std.specs.Prelude.{Result, Ok, Err, IfSome}
use Rattle.std.specs.Option.{option_map}
use Rattle.std.specs.Io.KnownBytes.{Consumes, IsAtEnd}
use Rattle.replica_world.specs.declared.replaying.fault.ReplayFault.{ReplayFault}
use Rattle.replica_world.specs.declared.replaying.fault.ReplayFault.TheVariants.{BadLine, Read, Write, NoMemory}
use Rattle.replica_world.specs.declared.replaying.settled.Part.{Part}
use Rattle.replica_world.specs.declared.replaying.settled.Part.TheVariants as part
use Rattle.replica_world.specs.Watching.{Seen, count_after, Counted}
use Rattle.replica_world.specs.Fields.{after_empty_lines}
use Rattle.replica_world.specs.Script.{command_at, start_at}

-- ---- what is settled

-- what was found, before more text
abbrev pub before_more : {A : Type 0} → List ℕ → Option (A × List ℕ) → Option (A × List ℕ)
before_more more found = option_map (λ p. (p.0, p.1 ++ more)) found

-- what is read at the front of a text is the same whatever text follows
abbrev pub IsSettledBy : {A : Type 0} → (List ℕ → Option (A × List ℕ)) → List ℕ → Type 0
IsSettledBy read text = (more : List ℕ) → read (text ++ more) ≡ before_more more (read text)

-- a part of a script, at the front of a text
abbrev pub IsSettled : Part → List ℕ → Type 0
IsSettled part.Start text = IsSettledBy start_at text
IsSettled part.Command text = IsSettledBy command_at text

-- ---- what was read

-- the bytes that were read and aren't used yet, how many lines end before them, in how many pieces all came, and
-- whether the end was seen
pub record Held : Type 0 where
  pub bytes : List ℕ
  pub lines : ℕ
  pub pieces : ℕ
  pub ended : Bool

-- before the first read
abbrev pub nothing_held : Held
nothing_held = record { bytes = []; lines = 0; pieces = 0; ended = false }

-- a piece has at most 65,536 bytes, and there are at most 1,000,000,000
pub record IsHeld (start : ℕ) (bytes : List ℕ) (lines pieces : ℕ) : Type 0 where
  pub within : start ≤ length bytes
  pub few : lines + (length bytes - start) ≤ 65536 * pieces
  pub most : pieces ≤ 1000000000

-- how many more bytes there can be
abbrev pub room : Held → ℕ
room held = 65536 * (1000000000 - held.pieces) + length held.bytes

-- LF bytes
abbrev pub ends_of_lines : List ℕ → ℕ
ends_of_lines text = count_by (λ b. b == 10) text

-- bytes at the front were used
pub record Drops (old new : Held) : Type 0 where
  pub front : List ℕ
  pub whole : old.bytes ≡ front ++ new.bytes
  pub lines : new.lines ≡ old.lines + ends_of_lines front
  pub pieces : new.pieces ≡ old.pieces
  pub ended : new.ended ≡ old.ended

-- ---- a script and its reader

-- a script is what was used, what is held and what the reader still has
pub record IsLeft (script : List ℕ) (held : Held) (rest : List ℕ) : Type 0 where
  pub used : List ℕ
  pub whole : script ≡ used ++ (held.bytes ++ rest)
  pub lines : held.lines ≡ ends_of_lines used
  pub pieces : held.pieces ≤ length used + length held.bytes
  pub ended : held.ended ≡ true → rest ≡ []

-- the same, if the reader tells its bytes
abbrev pub IsLeftOf : Option (List ℕ) → Held → Option (List ℕ) → Type 0
IsLeftOf None held rest = Unit {0}
IsLeftOf (Some script) held None = ⊥
IsLeftOf (Some script) held (Some rest) = IsLeft script held rest

-- what is told of a reader: its bytes, how many reads failed, and how many gave bytes
pub record Told : Type 0 where
  pub bytes : Option (List ℕ)
  pub failures : ℕ
  pub pieces : ℕ

-- what is told of a reader that is watched
abbrev pub told_of : {D : Type 0} → (D → Option (List ℕ)) → Seen D → Told
told_of bytes seen = record { bytes = bytes seen.device; failures = seen.failures; pieces = seen.pieces }

-- since a reader was told to be so, all of its pieces came here, and no read failed
pub record IsReadTo (begun : Told) (held : Held) (now : Told) : Type 0 where
  pub left : IsLeftOf begun.bytes held now.bytes
  pub pieces : Counted held.pieces begun.pieces now.pieces
  pub failures : now.failures ≡ begun.failures

-- a replay ends with `Read` just if a read failed, or if there were too many pieces, which a short script hasn't
abbrev pub BlamesReader : {T : Type 0} → Result T ReplayFault → Told → Told → Type 0
BlamesReader (Ok u) begun now = now.failures ≡ begun.failures
BlamesReader (Err Read) begun now =
    (now.failures ≡ count_after 1 begun.failures)
    ⊎ ((now.pieces ≡ count_after 1000000000 begun.pieces) × IfSome begun.bytes (λ script. 1000000000 ≤ length script))
BlamesReader (Err Write) begun now = now.failures ≡ begun.failures
BlamesReader (Err NoMemory) begun now = now.failures ≡ begun.failures
BlamesReader (Err (BadLine number)) begun now = now.failures ≡ begun.failures

-- the text that is held and left is the same but for empty lines at its front
abbrev pub SameText : List ℕ → Option (List ℕ) → List ℕ → Option (List ℕ) → Type 0
SameText held None new left = Unit {0}
SameText held (Some rest) new None = ⊥
SameText held (Some rest) new (Some left) = after_empty_lines (new ++ left) ≡ after_empty_lines (held ++ rest)

-- ---- reading on

-- the end was seen, or a piece came
pub record Fills (old : Held) (before : Told) (new : Held) (after : Told) : Type 0 where
  pub piece : List ℕ
  pub short : length piece ≤ 65536
  pub bytes : new.bytes ≡ old.bytes ++ piece
  pub lines : new.lines ≡ old.lines
  pub consumed : Consumes before.bytes after.bytes piece
  pub failures : after.failures ≡ before.failures
  pub counted :
      ((new.ended ≡ true) × (piece ≡ []) × IsAtEnd after.bytes × (new.pieces ≡ old.pieces) × (after.pieces ≡ before.pieces))
      ⊎ ((new.ended ≡ false) × (0 < length piece) × (new.pieces ≡ old.pieces + 1) × (old.pieces < 1000000000)
      × (after.pieces ≡ count_after 1 before.pieces))

-- no text was lost but empty lines at its front
pub record ReadsOn (old : Held) (before : Told) (new : Held) (after : Told) : Type 0 where
  pub reads : (begun : Told) → IsReadTo begun old before → IsReadTo begun new after
  pub text : SameText old.bytes before.bytes new.bytes after.bytes
  pub room : room new ≤ room old

-- the end was seen, or what stands at the front is settled
abbrev pub IsWhole : Part → Held → Type 0
IsWhole part held = (held.ended ≡ true) ⊎ (IsSettled part held.bytes × (0 < length held.bytes))

-- how often the reader can still be asked
abbrev pub turns : Held → ℕ
turns held = (1000000000 - held.pieces) + (if held.ended then 0 else 1)
