-- What is kept of a replica once it has merged something, and why it doesn't merge.
use Rattle.std.specs.Prelude.{◌≡◌, refl, ℕ, true, false}
use Rattle.std.specs.Coded.{Coded, code_by, coded×, coded_ℕ}
use Rattle.std.specs.FinMap as map
use Rattle.memento_index.specs.declared.merge.Merge.{Merge}
use Rattle.replica_exchange.specs.declared.delta.Delta.{Delta}
use Rattle.replica_exchange.specs.CursorRule.{Held, coded_cursor, fits}
use Rattle.replica_exchange.specs.Stamps.{StampedState, IsAbsorbed, coded_stamped}
use Rattle.replica_events.specs.declared.event.Refused.{Refused}
use Rattle.replica_events.specs.declared.event.Refused.TheVariants.{NoReplica, NoMessage, BadState, NoMemory, Gap}
use Rattle.replica_events.specs.declared.event.Refused.TheVariants.{NumbersSpent}
use Rattle.replica_events.specs.World.{last_number}
use Rattle.replica_world.specs.declared.replica.KeptReplica.{KeptReplica}

-- what is kept of a replica, as a pair of its parts
abbrev pub coded_replica : Coded KeptReplica
coded_replica = code_by (StampedState × Held) (coded× coded_stamped (map.code coded_ℕ coded_cursor))
    (λ r. (r.stamped, r.cursors)) (λ p. record { stamped = p.0; cursors = p.1 }) (λ _. refl)

-- once it has merged this, for which a number was left, and with these cursors
pub record IsMerged (old : KeptReplica) (m : Merge) (held : Held) (new : KeptReplica) : Type 0 where
  pub absorbed : IsAbsorbed old.stamped m new.stamped
  pub cursors : new.cursors ≡ held
  pub left : ¬ (old.stamped.number ≡ last_number)

-- a delta leaves a gap after the cursor that is held for the peer; or it follows, and no number is left; or a growth
-- was refused
abbrev pub IsJoinCause : Refused → KeptReplica → ℕ → Delta → Type 0
IsJoinCause (Gap held) r peer d = (held ≡ map.get r.cursors peer) × (fits (map.get r.cursors peer) d ≡ false)
IsJoinCause NumbersSpent r peer d = (fits (map.get r.cursors peer) d ≡ true) × (r.stamped.number ≡ last_number)
IsJoinCause NoMemory r peer d = Unit {0}
IsJoinCause NoReplica r peer d = ⊥
IsJoinCause NoMessage r peer d = ⊥
IsJoinCause BadState r peer d = ⊥
