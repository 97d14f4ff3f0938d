-- What a TimeGate replies (RFC 7089, section 4.2): a redirect to a memento of the latest harvests than which none of
-- these is nearer, or a 404 if they have none. The latest harvests are those of the original that are not older than
-- the greatest whole revision of their archive.
use Rattle.std.specs.Prelude.{◌≡◌, ℕ, ◌≤◌, ◌⊎◌, List, Contains, Option, MatchOption}
use Rattle.memento_time.specs.declared.mementos.Memento.{Memento}
use Rattle.harvest_lattice.specs.Knowledge.{Harvested, IsShown}
use Rattle.memento_index.specs.Choice.{distance}
use Rattle.timegate.specs.declared.reply.Reply.{Reply}
use Rattle.timegate.specs.declared.reply.Header.TheVariants.{Location}

-- the reply's Location is the address of a memento that is shown, and none that is shown lies nearer to the second that
-- is asked for; if none is asked for, none is later
pub record Redirects (known : List Harvested) (original : List ℕ) (asked : Option ℕ) (reply : Reply) : Type 0 where
  pub memento : Memento
  pub location : Contains reply.headers (Location, memento.uri)
  pub shown : IsShown known original memento
  pub nearest : (other : Memento) → IsShown known original other
      → MatchOption asked (other.at ≤ memento.at) (λ second. distance second memento ≤ distance second other)

-- the reply of an original's TimeGate: 404 if nothing of it is shown, and a redirect if anything is
abbrev pub IsGateReply : List Harvested → List ℕ → Option ℕ → Reply → Type 0
IsGateReply known original asked reply =
    (((m : Memento) → ¬ IsShown known original m) × (reply.status ≡ 404))
    ⊎ (((m : Memento) × IsShown known original m) × (reply.status ≡ 302) × Redirects known original asked reply)
