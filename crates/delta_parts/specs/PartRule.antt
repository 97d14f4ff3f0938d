-- Parts of deltas: what is in one, which parts go on with a walk, and what a walk says of the peer's merges.
use Rattle.std.specs.Prelude.{◌≡◌, ℕ, Bool, true, false, cond, not, ◌&&◌, ◌||◌, ◌==◌, nat_le, min, ⊤, List, [], ◌∷◌, take}
use Rattle.std.specs.Prelude.{Option, Some, None, IfSome}
use Rattle.std.specs.Ordering.{is_gt}
use Rattle.std.specs.FinMap as map
use Rattle.memento_index.specs.declared.merge.Merge.{Merge}
use Rattle.harvest_lattice.specs.Lattice.{Key, key_cmp, Kept, Entries, AtMost, join}
use Rattle.replica_exchange.specs.Stamps.{StampedState, IsStamped, is_above, state_after}
use Rattle.replica_exchange.specs.CursorRule.{start_from, fits, cursor_after}
use Rattle.replica_exchange.specs.declared.cursor.Cursor.{Cursor}
use Rattle.replica_exchange.specs.declared.delta.Delta.{Delta}
use Rattle.delta_parts.specs.declared.place.Place.{Place}
use Rattle.delta_parts.specs.declared.part.Part.{Part}
use Rattle.delta_parts.specs.declared.walk.Walk.{Walk}

-- ---- what is in a part

-- the archive and original of a place
abbrev pub key_of : Place → Key
key_of place = (place.archive, place.original)

-- the key comes behind the place
abbrev pub is_past : Place → Key → Bool
is_past place k = is_gt (key_cmp k (key_of place))

-- each key is behind no place
abbrev pub is_behind : Option Place → Key → Bool
is_behind None k = true
is_behind (Some place) k = is_past place k

-- no key is beyond the last part
abbrev pub is_until : Option Place → Key → Bool
is_until None k = true
is_until (Some place) k = not (is_past place k)

-- the key is behind one place and not behind the other
abbrev pub is_within : Option Place → Option Place → Key → Bool
is_within behind until k = is_behind behind k && is_until until k

-- and its entry's stamp is above n
abbrev pub has_key : StampedState → ℕ → Option Place → Option Place → Key → Bool
has_key s n behind until k = is_within behind until k && is_above n (map.get s.stamps k)

abbrev pub in_part : StampedState → ℕ → Option Place → Option Place → Key × Kept → Bool
in_part s n behind until e = has_key s n behind until e.0

-- the entries of which that holds
abbrev pub entries_within : StampedState → ℕ → Option Place → Option Place → Entries
entries_within s n behind until = map.retain_keys s.entries (λ k. has_key s n behind until k)

-- as a delta
abbrev pub delta_within : StampedState → ℕ → Option Place → Option Place → Delta
delta_within s n behind until = record {
  incarnation = s.incarnation;
  start = n;
  end = s.number;
  state = entries_within s n behind until;
}

-- the part of the delta from a cursor that has the keys behind one place and not behind the other
abbrev pub part_from : StampedState → Option Cursor → Option Place → Option Place → Part
part_from s c behind until = record { delta = delta_within s (start_from s c) behind until; behind = behind; until = until }

-- ---- which parts go on

-- the part begins no later than where the walk stands
abbrev pub is_near : Place → Option Place → Bool
is_near place None = true
is_near place (Some behind) = not (is_past place (key_of behind))

-- it is of the walk's incarnation, starts no later than the walk did, and leaves out no key
abbrev pub goes_on : Option Walk → Part → Bool
goes_on None p = false
goes_on (Some w) p = ((w.incarnation == p.delta.incarnation) && nat_le p.delta.start w.start) && is_near w.place p.behind

-- it begins before the first key
abbrev pub is_first : Option Place → Bool
is_first None = true
is_first (Some place) = false

-- a walk begins with what would be taken as a delta
abbrev pub begins : Option Cursor → Part → Bool
begins held p = is_first p.behind && fits held p.delta

abbrev pub fits_part : Option Cursor → Option Walk → Part → Bool
fits_part held w p = goes_on w p || begins held p

-- ---- what a walk comes to

-- of two places the later one
abbrev pub later : Place → Place → Place
later a b = cond (is_past a (key_of b)) b a

-- where a walk stands after a part behind which more follows: a part that goes on moves it, and another begins it anew
abbrev pub stands_after : Option Walk → Part → Place → Walk
stands_after None p until = record { incarnation = p.delta.incarnation; start = p.delta.start; number = p.delta.end; place = until }
stands_after (Some w) p until = cond (goes_on (Some w) p)
    (record { incarnation = w.incarnation; start = w.start; number = min w.number p.delta.end; place = later w.place until })
    (record { incarnation = p.delta.incarnation; start = p.delta.start; number = p.delta.end; place = until })

abbrev pub walk_at : Option Walk → Part → Option Place → Option Walk
walk_at w p None = None
walk_at w p (Some until) = Some (stands_after w p until)

abbrev pub walk_after : Option Walk → Part → Option Walk
walk_after w p = walk_at w p p.until

-- of how many merges a walk tells once the part was taken
abbrev pub number_after : Option Walk → Part → ℕ
number_after None p = p.delta.end
number_after (Some w) p = cond (goes_on (Some w) p) (min w.number p.delta.end) p.delta.end

-- the delta of which a walk tells that ends with the part: the part's entries, and as many merges as all parts tell of
abbrev pub walk_end : Option Walk → Part → Delta
walk_end w p = record {
  incarnation = p.delta.incarnation;
  start = p.delta.start;
  end = number_after w p;
  state = p.delta.state;
}

-- the cursor moves with the last part alone
abbrev pub held_at : Option Cursor → Option Walk → Part → Option Place → Option Cursor
held_at held w p None = Some (cursor_after held (walk_end w p))
held_at held w p (Some until) = held

abbrev pub held_after : Option Cursor → Option Walk → Part → Option Cursor
held_after held w p = held_at held w p p.until

-- ---- what they say

-- the merges of each incarnation of a peer, in order
abbrev pub Incarnations : Type 0
Incarnations = ℕ → List Merge

-- the state after the first n merges of an incarnation
abbrev pub known_by : Incarnations → ℕ → ℕ → Entries
known_by merges incarnation n = state_after (take n (merges incarnation))

-- its entries up to a place
abbrev pub up_to : Place → Entries → Entries
up_to place x = map.retain_keys x (λ k. not (is_past place k))

-- for a held cursor the state has at least what the first so many merges made
abbrev pub IsReached : Incarnations → Option Cursor → Entries → Type 0
IsReached merges held x = IfSome held (λ c. AtMost (known_by merges c.incarnation c.number) x)

-- for a walk it has at least what the merges before the walk's start made, and up to the walk's place what the first
-- so many did
pub record IsWalked (merges : Incarnations) (w : Walk) (x : Entries) : Type 0 where
  pub from_start : AtMost (known_by merges w.incarnation w.start) x
  pub up_to_place : AtMost (up_to w.place (known_by merges w.incarnation w.number)) x

abbrev pub AreWalked : Incarnations → Option Walk → Entries → Type 0
AreWalked merges walk x = IfSome walk (λ w. IsWalked merges w x)

-- the part is one of the first merges of its incarnation, from some cursor
pub record IsPartOf (merges : Incarnations) (p : Part) : Type 0 where
  pub count : ℕ
  pub stamped : StampedState
  pub cursor : Option Cursor
  pub made : IsStamped (take count (merges p.delta.incarnation)) stamped
  pub is : p ≡ part_from stamped cursor p.behind p.until

-- ---- one event after the other

-- what a receiver holds of a peer: its cursor, its walk, and its own state
pub record Receiver : Type 0 where
  pub held : Option Cursor
  pub walk : Option Walk
  pub state : Entries

-- a part is taken, or anything else is learnt
pub data Event : Type 0 where
  Take : Part → Event
  Learn : Entries → Event

-- what it makes of the receiver
abbrev pub after_event : Receiver → Event → Receiver
after_event r (Take p) = record { held = held_after r.held r.walk p; walk = walk_after r.walk p; state = join r.state p.delta.state }
after_event r (Learn x) = record { held = r.held; walk = r.walk; state = join r.state x }

-- each part that is taken is one of the peer's, made at any time, and fits where it is taken
abbrev pub AllFit : Incarnations → Receiver → List Event → Type 0
AllFit merges r [] = ⊤
AllFit merges r (Take p ∷ events) = IsPartOf merges p × ((fits_part r.held r.walk p ≡ true) × AllFit merges (after_event r (Take p)) events)
AllFit merges r (Learn x ∷ events) = AllFit merges (after_event r (Learn x)) events

abbrev pub after_events : Receiver → List Event → Receiver
after_events r [] = r
after_events r (event ∷ events) = after_events (after_event r event) events

-- what its cursor and its walk say is so
pub record IsSound (merges : Incarnations) (r : Receiver) : Type 0 where
  pub reached : IsReached merges r.held r.state
  pub walked : AreWalked merges r.walk r.state
