-- How far a peer's merges are known, from where a delta starts, and which deltas follow on what is known.
use Rattle.std.specs.Prelude.{◌≡◌, refl, List, codes, ℕ, Bool, true, false, cond, ◌&&◌, ◌||◌, ◌==◌, nat_le, nat_lt}
use Rattle.std.specs.Prelude.{Option, Some, None}
use Rattle.std.specs.Ordering.{nat_cmp}
use Rattle.std.specs.FinMap as map
use Rattle.std.specs.Coded.{Coded, code_by, coded×, coded_ℕ}
use Rattle.replica_exchange.specs.declared.cursor.Cursor.{Cursor}
use Rattle.replica_exchange.specs.declared.cursor.TakeFault.{TakeFault}
use Rattle.replica_exchange.specs.declared.cursor.TakeFault.TheVariants.{Gap, NoMemory}
use Rattle.replica_exchange.specs.declared.delta.Delta.{Delta}
use Rattle.replica_exchange.specs.Stamps.{StampedState, entries_above}

-- where a delta from a cursor starts: at the cursor's number if it is of this incarnation and no later than now, and
-- else at the beginning
abbrev pub start_from : StampedState → Option Cursor → ℕ
start_from s None = 0
start_from s (Some c) = cond ((c.incarnation == s.incarnation) && nat_le c.number s.number) c.number 0

-- from there to now, the entries with a stamp above the start
abbrev pub delta_from : StampedState → Option Cursor → Delta
delta_from s c = record {
  incarnation = s.incarnation;
  start = start_from s c;
  end = s.number;
  state = entries_above s (start_from s c);
}

-- the cursor is of the delta's incarnation, and no earlier than its start
abbrev pub reaches : Option Cursor → Delta → Bool
reaches None d = false
reaches (Some c) d = (c.incarnation == d.incarnation) && nat_le d.start c.number

-- a delta is taken if it starts at the beginning or at what the held cursor reaches
abbrev pub fits : Option Cursor → Delta → Bool
fits held d = (d.start == 0) || reaches held d

-- where a delta ends
abbrev pub end_of : Delta → Cursor
end_of d = record { incarnation = d.incarnation; number = d.end }

-- the cursor once the delta is taken: the delta's end, unless the held one is of the same incarnation and later
abbrev pub cursor_after : Option Cursor → Delta → Cursor
cursor_after None d = end_of d
cursor_after (Some c) d = cond ((c.incarnation == d.incarnation) && nat_lt d.end c.number) c (end_of d)

-- the cursor held for each peer, by the peer's number
abbrev pub Held : Type 0
Held = map.FinMap nat_cmp Cursor

-- the cursors once a delta of this peer is taken
abbrev pub taken_from : Held → ℕ → Delta → Held
taken_from held peer d = map.insert held peer (cursor_after (map.get held peer) d)

-- a cursor as a pair of its numbers
abbrev pub coded_cursor : Coded Cursor
coded_cursor = code_by (ℕ × ℕ) (coded× coded_ℕ coded_ℕ) (λ c. (c.incarnation, c.number))
    (λ p. record { incarnation = p.0; number = p.1 }) (λ _. refl)

-- a delta leaves a gap after the cursor that is held, or it follows and a growth was refused
abbrev pub IsTakeCause : TakeFault → Option Cursor → Delta → Type 0
IsTakeCause (Gap now) held d = (now ≡ held) × (fits held d ≡ false)
IsTakeCause NoMemory held d = fits held d ≡ true

-- what a fault is printed as
abbrev pub words_of : TakeFault → List ℕ
words_of (Gap held) = codes "merges are left out"
words_of NoMemory = codes "no memory"
