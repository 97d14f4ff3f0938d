-- How a gate's connections end, and what they wait for.
use Rattle.std.specs.Prelude.{◌≡◌, ◌⊎◌, ◌<◌, ◌+◌, ℕ, Bool, MatchBool}
use Rattle.tokio.specs.Net.{listener_readable}
use Rattle.tokio.specs.Timers.{sleep_source}
use Rattle.tokio.specs.declared.net.listener.TcpListener.{TcpListener}
use Rattle.tokio.specs.declared.time.sleep.Sleep.{Sleep}
use Rattle.gate_server.specs.declared.faults.EdgeFault.{EdgeFault}
use Rattle.gate_server.specs.declared.faults.EdgeFault.TheVariants.{Accept, NoMemory}

-- no further connection can be accepted, or memory was refused
abbrev pub EndsGate : EdgeFault → Type 0
EndsGate fault = (fault ≡ Accept) ⊎ (fault ≡ NoMemory)

-- what tells of the next connection: in a pause its end, and else the listener
abbrev pub TellsOfNext : Bool → Sleep → TcpListener → ℕ → Type 0
TellsOfNext is_on sleep listener source = MatchBool is_on (source ≡ sleep_source sleep) (source ≡ listener_readable listener)

-- so many of all connections were taken and so many ended, that one more may be taken
abbrev pub HasRoom : ℕ → ℕ → ℕ → ℕ → Type 0
HasRoom connections together taken ended = (taken < connections) × (taken < ended + together)
