-- The lines of the log.
use Rattle.std.specs.Prelude.{ℕ, List, ◌++◌, ◌==◌, codes, if◌then◌else◌}
use Rattle.std.specs.Fmt.{decimal}
use Rattle.harvester.specs.Faults.{walk_words}
use Rattle.gate_server.specs.Faults.{edge_words}
use Rattle.outgoing_requests.specs.Faults.{pull_words}
use Rattle.published_index.specs.Faults.{refused_words}
use Rattle.replica_exchange.specs.CursorRule as rule
use Rattle.snapshots.specs.Faults.{words_of as unread_words}
use Rattle.snapshots.specs.declared.faults.WriteFault.TheVariants as unwritten
use Rattle.service_log.specs.Counts.{counts_words}
use Rattle.service_log.specs.Forgotten.{forgotten_words, withdrawn_words}
use Rattle.service_log.specs.declared.lines.PeerFault.{PeerFault}
use Rattle.service_log.specs.declared.lines.PeerFault.TheVariants.{Pull, Take, Part}
use Rattle.service_log.specs.declared.lines.PartFault.{PartFault}
use Rattle.service_log.specs.declared.lines.PartFault.TheVariants.{Apart, Still, NoMemory as PartNoMemory}
use Rattle.service_log.specs.declared.lines.Cause.{Cause}
use Rattle.service_log.specs.declared.lines.Cause.TheVariants.{Known, Unknown}
use Rattle.service_log.specs.declared.lines.Matter.{Matter}
use Rattle.service_log.specs.declared.lines.Matter.TheVariants.{Failed, Parts, Reason as For, Dormant, Aside as LeftAlone, Awake, Left, Emptied}
use Rattle.service_log.specs.declared.lines.Reason.{Reason}
use Rattle.service_log.specs.declared.lines.Reason.TheVariants as reason
use Rattle.service_log.specs.declared.lines.Dormancy.{Dormancy}
use Rattle.service_log.specs.declared.lines.JobsLeft.{JobsLeft}
use Rattle.service_log.specs.declared.lines.Respite.{Respite}
use Rattle.service_log.specs.declared.lines.Progress.{Progress}
use Rattle.service_log.specs.declared.lines.Greeting.{Greeting}
use Rattle.service_log.specs.declared.lines.Want.{Want}
use Rattle.service_log.specs.declared.lines.Want.TheVariants as want
use Rattle.service_log.specs.declared.lines.SnapshotEnd.{SnapshotEnd}
use Rattle.service_log.specs.declared.lines.SnapshotEnd.TheVariants.{TakenIn, AheadAside, AheadUnread, Aside, Unread, Unwritten}
use Rattle.service_log.specs.declared.lines.GateEnd.{GateEnd}
use Rattle.service_log.specs.declared.lines.GateEnd.TheVariants as end
use Rattle.service_log.specs.declared.lines.Line.{Line}
use Rattle.service_log.specs.declared.lines.Line.TheVariants.{Archive, Wanting, Peer, Unpublished, Output, Gate, Status, Start, Snapshot}
use Rattle.service_log.specs.declared.lines.Line.TheVariants.{Progress as Goes, Wishes, List as Of_list, Forgotten as Of_forgotten, Unforgotten, Withdrawn}
use Rattle.service_log.specs.declared.lines.ListMatter.{ListMatter}
use Rattle.service_log.specs.declared.lines.ListMatter.TheVariants.{Bad, More, Unread, Unreadable, NoMemory}
use Rattle.service_log.specs.declared.lines.WishCounts.{WishCounts}

-- why a part isn't accepted
abbrev pub part_words : PartFault → List ℕ
part_words Apart = codes "a part that doesn't go on"
part_words Still = codes "a part that ends no further on"
part_words PartNoMemory = codes "no memory"

-- why a peer brought nothing
abbrev pub peer_words : PeerFault → List ℕ
peer_words (Pull fault) = pull_words fault
peer_words (Take fault) = rule.words_of fault
peer_words (Part fault) = part_words fault

-- why the first walk failed, behind how many did
abbrev pub cause_words : Cause → List ℕ
cause_words (Known fault url) = codes ", the first: " ++ walk_words fault ++ codes " from " ++ url.now
cause_words Unknown = codes ""

-- why walks failed
abbrev pub reason_words : Reason → List ℕ
reason_words reason.NoAnswer = codes "no answer"
reason_words reason.TooLong = codes "a body that is too long"
reason_words reason.Status = codes "another status than 200 and 404"
reason_words reason.Encoded = codes "a content coding"
reason_words reason.NoPage = codes "no page of a TimeMap"
reason_words reason.TooManyPages = codes "too many pages"
reason_words reason.TooManyMementos = codes "too many mementos"
reason_words reason.NoMemory = codes "no memory"

-- for how long an archive isn't asked, and why
abbrev pub dormancy_words : Dormancy → List ℕ
dormancy_words dormancy =
    decimal dormancy.failures ++ codes " failures in a row, not asked for " ++ decimal dormancy.seconds
    ++ codes " seconds, jobs left: " ++ decimal dormancy.left

-- how many jobs are left
abbrev pub left_words : JobsLeft → List ℕ
left_words left = codes ", jobs left: " ++ decimal left.0

-- for how long an archive is left alone
abbrev pub respite_words : Respite → List ℕ
respite_words respite = decimal respite.seconds ++ codes " seconds" ++ left_words respite.left

-- how far a round is
abbrev pub progress_words : Progress → List ℕ
progress_words progress =
    decimal progress.done ++ codes " of " ++ decimal progress.jobs ++ codes " jobs, " ++ decimal progress.failed
    ++ codes " failed, " ++ decimal progress.passed ++ codes " passed over"

-- how many peers gave what they know
abbrev pub greeting_words : Greeting → List ℕ
greeting_words greeting = decimal greeting.gave ++ codes " of " ++ decimal greeting.peers ++ codes " peers gave what they know"

-- what is told of an archive
abbrev pub matter_words : Matter → List ℕ
matter_words (Failed counts cause) = counts_words counts ++ cause_words cause
matter_words (Parts parts) = decimal parts ++ codes " harvests in part"
matter_words (For count why) = decimal count ++ codes " failed: " ++ reason_words why
matter_words (Dormant dormancy) = dormancy_words dormancy
matter_words (LeftAlone respite) = codes "busy, not asked for " ++ respite_words respite
matter_words (Awake left) = codes "answers again, jobs left: " ++ decimal left
matter_words (Left left) = decimal left ++ codes " walks not begun: it isn't asked"
matter_words (Emptied count) = decimal count ++ codes " originals lost all their copies"

-- what wasn't done, and why
abbrev pub want_words : Want → List ℕ
want_words want.Walks = codes "walks not begun: no memory"
want_words want.Harvests = codes "harvests not kept: no memory"
want_words want.Room = codes "wishes turned away: no room"
want_words want.Clock = codes "harvests not taken: ahead of this clock"
want_words want.Mementos = codes "wished harvests dropped: too many mementos"

-- how many walks for wishes failed, if any did
abbrev pub failed_words : ℕ → List ℕ
failed_words failed = if failed == 0 then codes "" else codes ", " ++ decimal failed ++ codes " walks failed"

-- how many wishes are over, of how many something is shown, and how many walks failed
abbrev pub wish_words : WishCounts → List ℕ
wish_words counts =
    decimal counts.found ++ codes " of " ++ decimal counts.ended ++ codes " found" ++ failed_words counts.failed

-- what is told of the file of originals
abbrev pub list_words : ListMatter → List ℕ
list_words (Bad number) = codes "line " ++ decimal number ++ codes " is no original"
list_words (More count) = decimal count ++ codes " more lines are no originals"
list_words Unread = codes "not read: the originals of before stay"
list_words Unreadable = codes "not read"
list_words NoMemory = codes "no memory: the originals of before stay"

-- a line that `check` writes of the file of originals
abbrev pub list_line : ListMatter → List ℕ
list_line matter = codes "list: " ++ list_words matter ++ codes "\n"

-- what became of a snapshot
abbrev pub snapshot_words : SnapshotEnd → List ℕ
snapshot_words TakenIn = codes "taken in"
snapshot_words (AheadAside count) = decimal count ++ codes " harvests not taken in: ahead of this clock, and set aside"
snapshot_words (AheadUnread count) = decimal count ++ codes " harvests not taken in: ahead of this clock, and not set aside"
snapshot_words (Aside fault) = unread_words fault ++ codes ", and set aside"
snapshot_words (Unread fault) = unread_words fault ++ codes ", and not set aside"
snapshot_words (Unwritten unwritten.NotWritten) = codes "not written"
snapshot_words (Unwritten unwritten.TooLong) = codes "not written: too long"
snapshot_words (Unwritten unwritten.NoMemory) = codes "not written: no memory"

-- how a gate ended
abbrev pub end_words : GateEnd → List ℕ
end_words end.Served = codes "its last connection is served"
end_words (end.Failed fault) = edge_words fault

-- a line of the log behind `log: `
abbrev pub line_words : Line → List ℕ
line_words (Archive round name matter) =
    codes "round " ++ decimal round ++ codes ": archive " ++ name.now ++ codes ": " ++ matter_words matter
line_words (Wanting round count want) =
    codes "round " ++ decimal round ++ codes ": " ++ decimal count ++ codes " " ++ want_words want
line_words (Peer round base fault) =
    codes "round " ++ decimal round ++ codes ": peer " ++ base.now ++ codes ": " ++ peer_words fault
line_words (Unpublished round fault) = codes "round " ++ decimal round ++ codes ": " ++ refused_words
line_words (Goes round progress) = codes "round " ++ decimal round ++ codes ": " ++ progress_words progress
line_words (Start greeting) = codes "start: " ++ greeting_words greeting
line_words (Wishes counts) = codes "wishes: " ++ wish_words counts
line_words (Of_list round matter) = codes "round " ++ decimal round ++ codes ": list: " ++ list_words matter
line_words (Snapshot end) = codes "snapshot: " ++ snapshot_words end
line_words (Of_forgotten forgotten) = codes "forgotten: " ++ forgotten_words forgotten
line_words Unforgotten = codes "nothing is forgotten: no memory"
line_words (Withdrawn matter) = codes "withdrawn: " ++ withdrawn_words matter
line_words Output = codes "standard output fails: no further round is made"
line_words (Gate number address end) =
    codes "gate " ++ decimal number ++ codes " (" ++ address.now ++ codes ") ended: " ++ end_words end
line_words (Status address end) = codes "status (" ++ address.now ++ codes ") ended: " ++ end_words end

-- a whole line of the log
abbrev pub log_line : Line → List ℕ
log_line line = codes "log: " ++ line_words line ++ codes "\n"
