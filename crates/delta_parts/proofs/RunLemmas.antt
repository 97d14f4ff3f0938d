-- What stays true over a run of events.
use Rattle.std.proofs.Common.{◌≡◌, List, [], ◌∷◌, Option, Some, IfSome, subst}
use Rattle.harvest_lattice.specs.Lattice.{AtMost, join}
use Rattle.harvest_lattice.proofs.EntryOrder.{at_most_left}
use Rattle.replica_exchange.specs.declared.cursor.Cursor.{Cursor}
use Rattle.delta_parts.specs.PartRule.{Incarnations, known_by, Receiver, Event, Take, Learn, after_event, after_events, AllFit, IsSound}
use Rattle.delta_parts.proofs.PartLemmas.{reached_more, walked_more, cursor_more, walk_more}

pub sound_after : (merges : Incarnations) (r : Receiver) (events : List Event) → IsSound merges r → AllFit merges r events → IsSound merges (after_events r events)
sound_after merges r [] sound fit = sound
sound_after merges r (Take p ∷ events) sound fit =
    sound_after merges (after_event r (Take p)) events (record {
      reached = cursor_more merges p fit.0 r.state r.held sound.reached r.walk sound.walked fit.1.0;
      walked = walk_more merges p fit.0 r.state r.held sound.reached r.walk sound.walked fit.1.0;
    }) fit.1.1
sound_after merges r (Learn x ∷ events) sound fit =
    sound_after merges (after_event r (Learn x)) events (record {
      reached = reached_more merges r.held r.state (join r.state x) (at_most_left r.state x) sound.reached;
      walked = walked_more merges r.walk r.state (join r.state x) (at_most_left r.state x) sound.walked;
    }) fit

pub cursor_says : (merges : Incarnations) (r : Receiver) (c : Cursor) → IsSound merges r → r.held ≡ Some c → AtMost (known_by merges c.incarnation c.number) r.state
cursor_says merges r c sound is =
    subst (λ (o : Option Cursor). IfSome o (λ c. AtMost (known_by merges c.incarnation c.number) r.state)) is sound.reached
