-- How walks and pulls ended, as the status counts them.
use Rattle.std.specs.Prelude.{Bool, true, false, Result, Ok, Err, if◌then◌else◌}
use Rattle.harvest_lattice.specs.Knowledge.{Harvested}
use Rattle.harvester.specs.declared.faults.WalkFault.{WalkFault}
use Rattle.outgoing_requests.specs.declared.faults.PullFault.TheVariants as pulled
use Rattle.replica_exchange.specs.declared.cursor.TakeFault.TheVariants as taken
use Rattle.published_index.specs.declared.mergers.TakenAs.{TakenAs}
use Rattle.published_index.specs.declared.mergers.TakenAs.TheVariants as delta
use Rattle.service_status.specs.declared.counts.WalkEnd.{WalkEnd}
use Rattle.service_status.specs.declared.counts.WalkEnd.TheVariants as walk
use Rattle.service_status.specs.declared.counts.PullEnd.{PullEnd}
use Rattle.service_status.specs.declared.counts.PullEnd.TheVariants as pull
use Rattle.service_log.specs.declared.lines.Reason.{Reason}
use Rattle.service_log.specs.declared.lines.Reason.TheVariants as reason
use Rattle.service_log.specs.declared.lines.PeerFault.{PeerFault}
use Rattle.service_log.specs.declared.lines.PeerFault.TheVariants as peer
use Rattle.service_log.specs.declared.lines.PartFault.TheVariants as part
use Rattle.round_values.specs.Reasons.{reason_of}

-- how a walk ended that failed
abbrev pub end_of : Reason → WalkEnd
end_of reason.NoAnswer = walk.NoAnswer
end_of reason.TooLong = walk.TooLong
end_of reason.Status = walk.Status
end_of reason.Encoded = walk.Encoded
end_of reason.NoPage = walk.NoPage
end_of reason.TooManyPages = walk.TooManyPages
end_of reason.TooManyMementos = walk.TooManyMementos
end_of reason.NoMemory = walk.NoMemory

-- how a walk ended, whose archive was busy or not
abbrev pub walk_end : Result Harvested WalkFault → Bool → WalkEnd
walk_end (Ok harvest) busy = if harvest.is_whole then walk.Whole else walk.Part
walk_end (Err fault) true = walk.Busy
walk_end (Err fault) false = end_of (reason_of fault)

-- how a pull ended that brought nothing
abbrev pub fault_end : PeerFault → PullEnd
fault_end (peer.Pull pulled.Failed) = pull.NoAnswer
fault_end (peer.Pull (pulled.Status status)) = pull.Status
fault_end (peer.Pull pulled.BadState) = pull.NoDelta
fault_end (peer.Pull pulled.TooLong) = pull.NoDelta
fault_end (peer.Pull pulled.NoMemory) = pull.NoMemory
fault_end (peer.Take (taken.Gap held)) = pull.Gap
fault_end (peer.Take taken.NoMemory) = pull.NoMemory
fault_end (peer.Part part.Apart) = pull.Gap
fault_end (peer.Part part.Still) = pull.Gap
fault_end (peer.Part part.NoMemory) = pull.NoMemory

-- how a pull ended
abbrev pub pull_end : Result TakenAs PeerFault → PullEnd
pull_end (Ok delta.News) = pull.News
pull_end (Ok delta.Known) = pull.NoNews
pull_end (Err fault) = fault_end fault
