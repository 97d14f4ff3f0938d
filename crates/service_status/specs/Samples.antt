-- What a status tells, as the samples of each metric and as one text.
use Rattle.std.specs.Prelude.{ℕ, Bool, true, false, List, [], ◌∷◌, ◌++◌, map, flat_map, codes, Option, None, Some, option_map}
use Rattle.std.specs.Fmt.{decimal}
use Rattle.service_status.specs.declared.counts.WishCounts.{WishCounts}
use Rattle.service_status.specs.declared.metrics.Metric.{Metric}
use Rattle.service_status.specs.declared.metrics.Metric.TheVariants as metric
use Rattle.service_status.specs.declared.status.ArchiveStatus.{ArchiveStatus}
use Rattle.service_status.specs.declared.status.PeerStatus.{PeerStatus}
use Rattle.service_status.specs.declared.status.GateStatus.{GateStatus}
use Rattle.service_status.specs.declared.status.PublishStatus.{PublishStatus}
use Rattle.service_status.specs.declared.status.SnapshotStatus.{SnapshotStatus}
use Rattle.service_status.specs.declared.status.ForgettingStatus.{ForgettingStatus}
use Rattle.service_status.specs.declared.status.Status.{Status}
use Rattle.service_status.specs.Exposition.{Label, Sample, sample_line, help_line, type_line}
use Rattle.service_status.specs.Metrics.{name_of, help_of, kind_of, metrics, forgetting_metrics, part_metrics}
use Rattle.service_status.specs.Counts.{Row, walk_rows, pull_rows, reply_rows, wish_rows, entry_rows}

-- a metric with one sample and no label
abbrev pub alone : ℕ → List Sample
alone value = ([], value) ∷ []

-- a sample for each row, with its word behind these labels
abbrev pub by_end : List Label → List ℕ → List Row → List Sample
by_end labels name rows = map (λ row. (labels ++ (name, row.0) ∷ [], row.1)) rows

abbrev pub archive_labels : ArchiveStatus → List Label
archive_labels archive = (codes "archive", archive.name) ∷ []

-- two peers can have one base, so their numbers tell them apart
abbrev pub peer_labels : PeerStatus → List Label
peer_labels peer = (codes "peer", peer.base) ∷ (codes "number", decimal peer.number) ∷ []

abbrev pub gate_labels : GateStatus → List Label
gate_labels gate = (codes "gate", decimal gate.number) ∷ []

-- 1 if it is so, and 0 otherwise
abbrev pub bit : Bool → ℕ
bit true = 1
bit false = 0

-- the version that runs
abbrev pub version_samples : List ℕ → List Sample
version_samples version = ((codes "version", version) ∷ [], 1) ∷ []

-- how an archive's walks ended
abbrev pub walks_of : ArchiveStatus → List Sample
walks_of archive = by_end (archive_labels archive) (codes "outcome") (walk_rows archive.walks)

-- how long an archive's walks took
abbrev pub seconds_of : ArchiveStatus → List Sample
seconds_of archive = (archive_labels archive, archive.seconds) ∷ []

-- until when an archive is dormant
abbrev pub dormant_of : ArchiveStatus → List Sample
dormant_of archive = (archive_labels archive, archive.dormant_until) ∷ []

-- until when an archive is set aside
abbrev pub aside_of : ArchiveStatus → List Sample
aside_of archive = (archive_labels archive, archive.aside_until) ∷ []

-- what is told of an archive
abbrev pub archive_samples : Metric → ArchiveStatus → List Sample
archive_samples metric.Walks archive = walks_of archive
archive_samples metric.WalkSeconds archive = seconds_of archive
archive_samples metric.DormantUntil archive = dormant_of archive
archive_samples metric.AsideUntil archive = aside_of archive
archive_samples _ archive = []

-- how the pulls from a peer ended
abbrev pub pulls_of : PeerStatus → List Sample
pulls_of peer = by_end (peer_labels peer) (codes "outcome") (pull_rows peer.pulls)

-- when a peer gave a delta last
abbrev pub last_of : PeerStatus → List Sample
last_of peer = (peer_labels peer, peer.last) ∷ []

-- what became of the entries of a peer's deltas
abbrev pub entries_of : PeerStatus → List Sample
entries_of peer = by_end (peer_labels peer) (codes "outcome") (entry_rows peer.entries)

-- how many parts of a peer's deltas were taken
abbrev pub parts_of : PeerStatus → List Sample
parts_of peer = (peer_labels peer, peer.parts) ∷ []

-- what is told of a peer
abbrev pub peer_samples : Metric → PeerStatus → List Sample
peer_samples metric.Pulls peer = pulls_of peer
peer_samples metric.LastDelta peer = last_of peer
peer_samples metric.PullEntries peer = entries_of peer
peer_samples metric.PullParts peer = parts_of peer
peer_samples _ peer = []

-- what a gate replied
abbrev pub replies_of : GateStatus → List Sample
replies_of gate = by_end (gate_labels gate) (codes "status") (reply_rows gate.replies)

-- what is told of a gate
abbrev pub gate_samples : Metric → GateStatus → List Sample
gate_samples metric.Replies gate = replies_of gate
gate_samples _ gate = []

-- what became of publishes
abbrev pub publish_samples : PublishStatus → List Sample
publish_samples p = by_end [] (codes "outcome") ((codes "published", p.published) ∷ (codes "no_memory", p.refused) ∷ [])

-- what became of snapshots, if they are written
abbrev pub snapshot_samples : Option SnapshotStatus → List Sample
snapshot_samples None = []
snapshot_samples (Some s) = by_end [] (codes "outcome") ((codes "written", s.written) ∷ (codes "failed", s.failed) ∷ [])

-- a metric with one sample, if there is a value
abbrev pub if_known : Option ℕ → List Sample
if_known None = []
if_known (Some value) = alone value

-- what became of wishes, if wishes are taken
abbrev pub wish_samples : Option WishCounts → List Sample
wish_samples None = []
wish_samples (Some counts) = by_end [] (codes "outcome") (wish_rows counts)

-- what became of forgettings, if there are any
abbrev pub forgetting_samples : Option ForgettingStatus → List Sample
forgetting_samples None = []
forgetting_samples (Some f) = by_end [] (codes "outcome") ((codes "forgotten", f.forgotten) ∷ (codes "refused", f.unforgotten) ∷ [])

-- how many mementos unlisted originals may have, if that is bounded
abbrev pub most_of : Option ForgettingStatus → Option ℕ
most_of None = None
most_of (Some f) = f.most

-- the samples of a metric
abbrev pub samples_of : Status → Metric → List Sample
samples_of s metric.Clock = alone s.clock
samples_of s metric.Build = version_samples s.version.now
samples_of s metric.Shown = alone (bit s.is_shown)
samples_of s metric.Rounds = alone s.rounds
samples_of s metric.RoundJobs = alone s.round.jobs
samples_of s metric.RoundDone = alone s.round.done
samples_of s metric.RoundPassed = alone s.round.passed
samples_of s metric.Walks = flat_map (archive_samples metric.Walks) s.archives.items
samples_of s metric.WalkSeconds = flat_map (archive_samples metric.WalkSeconds) s.archives.items
samples_of s metric.DormantUntil = flat_map (archive_samples metric.DormantUntil) s.archives.items
samples_of s metric.AsideUntil = flat_map (archive_samples metric.AsideUntil) s.archives.items
samples_of s metric.Publishes = publish_samples s.publishes
samples_of s metric.LastPublish = alone s.publishes.last
samples_of s metric.Snapshots = snapshot_samples s.snapshots
samples_of s metric.LastSnapshot = if_known (option_map (λ snapshots. snapshots.last) s.snapshots)
samples_of s metric.SnapshotBehind = if_known (option_map (λ snapshots. bit snapshots.is_behind) s.snapshots)
samples_of s metric.Pulls = flat_map (peer_samples metric.Pulls) s.peers.items
samples_of s metric.LastDelta = flat_map (peer_samples metric.LastDelta) s.peers.items
samples_of s metric.Entries = alone s.known.entries
samples_of s metric.Mementos = alone s.known.mementos
samples_of s metric.RevisionsAhead = alone s.known.ahead
samples_of s metric.Resident = if_known s.resident
samples_of s metric.Replies = flat_map (gate_samples metric.Replies) s.gates.items
samples_of s metric.Wishes = wish_samples s.wishes
samples_of s metric.WantedUsed = if_known (option_map (λ room. room.used) s.room)
samples_of s metric.WantedLimit = if_known (option_map (λ room. room.most) s.room)
samples_of s metric.BadLines = if_known (option_map (λ list. list.bad) s.list)
samples_of s metric.LastList = if_known (option_map (λ list. list.last) s.list)
samples_of s metric.Forgettings = forgetting_samples s.forgetting
samples_of s metric.ForgottenEntries = if_known (option_map (λ forgetting. forgetting.entries) s.forgetting)
samples_of s metric.Floor = if_known (option_map (λ forgetting. forgetting.floor) s.forgetting)
samples_of s metric.PullEntries = flat_map (peer_samples metric.PullEntries) s.peers.items
samples_of s metric.UnlistedMementos = if_known (option_map (λ forgetting. forgetting.mementos) s.forgetting)
samples_of s metric.UnlistedLimit = if_known (most_of s.forgetting)
samples_of s metric.PullParts = flat_map (peer_samples metric.PullParts) s.peers.items

-- the lines of samples
abbrev pub lines_of : Metric → List Sample → List ℕ
lines_of m samples = flat_map (sample_line (name_of m)) samples

-- the lines of a metric
abbrev pub metric_text : Status → Metric → List ℕ
metric_text s m =
    help_line (name_of m) (help_of m) ++ type_line (name_of m) (kind_of m) ++ lines_of m (samples_of s m)

-- the metrics of what is forgotten, if something may be
abbrev pub more_of : Option ForgettingStatus → List Metric
more_of None = []
more_of (Some f) = forgetting_metrics

-- the metrics of deltas in parts, if peers are asked for them
abbrev pub of_parts : Bool → List Metric
of_parts true = part_metrics
of_parts false = []

-- the whole
unfoldable pub status_text : Status → List ℕ
status_text s =
    flat_map (metric_text s) metrics ++ flat_map (metric_text s) (more_of s.forgetting)
    ++ flat_map (metric_text s) (of_parts s.is_in_parts)
