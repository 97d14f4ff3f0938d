-- The metrics: their names, what they count, and of which kind they are.
use Rattle.std.specs.Prelude.{ℕ, List, [], ◌∷◌, codes}
use Rattle.service_status.specs.declared.metrics.Metric.{Metric}
use Rattle.service_status.specs.declared.metrics.Metric.TheVariants as metric

-- the name
unfoldable pub name_of : Metric → List ℕ
name_of metric.Clock = codes "maplewrench_clock_seconds"
name_of metric.Build = codes "maplewrench_build_info"
name_of metric.Shown = codes "maplewrench_shown"
name_of metric.Rounds = codes "maplewrench_rounds_total"
name_of metric.RoundJobs = codes "maplewrench_round_jobs"
name_of metric.RoundDone = codes "maplewrench_round_jobs_done"
name_of metric.RoundPassed = codes "maplewrench_round_jobs_passed_over"
name_of metric.Walks = codes "maplewrench_walks_total"
name_of metric.WalkSeconds = codes "maplewrench_walk_seconds_total"
name_of metric.DormantUntil = codes "maplewrench_archive_dormant_until_timestamp_seconds"
name_of metric.AsideUntil = codes "maplewrench_archive_aside_until_timestamp_seconds"
name_of metric.Publishes = codes "maplewrench_publishes_total"
name_of metric.LastPublish = codes "maplewrench_last_publish_timestamp_seconds"
name_of metric.Snapshots = codes "maplewrench_snapshots_total"
name_of metric.LastSnapshot = codes "maplewrench_last_snapshot_timestamp_seconds"
name_of metric.SnapshotBehind = codes "maplewrench_snapshot_behind"
name_of metric.Pulls = codes "maplewrench_pulls_total"
name_of metric.LastDelta = codes "maplewrench_peer_last_delta_timestamp_seconds"
name_of metric.Entries = codes "maplewrench_entries"
name_of metric.Mementos = codes "maplewrench_mementos"
name_of metric.RevisionsAhead = codes "maplewrench_revisions_ahead"
name_of metric.Resident = codes "process_resident_memory_bytes"
name_of metric.Replies = codes "maplewrench_replies_total"
name_of metric.Wishes = codes "maplewrench_wishes_total"
name_of metric.WantedUsed = codes "maplewrench_wanted_used"
name_of metric.WantedLimit = codes "maplewrench_wanted_limit"
name_of metric.BadLines = codes "maplewrench_list_bad_lines"
name_of metric.LastList = codes "maplewrench_last_list_timestamp_seconds"
name_of metric.Forgettings = codes "maplewrench_forgettings_total"
name_of metric.ForgottenEntries = codes "maplewrench_forgotten_entries_total"
name_of metric.Floor = codes "maplewrench_floor_timestamp_seconds"
name_of metric.PullEntries = codes "maplewrench_pull_entries_total"
name_of metric.UnlistedMementos = codes "maplewrench_unlisted_mementos"
name_of metric.UnlistedLimit = codes "maplewrench_unlisted_mementos_limit"
name_of metric.PullParts = codes "maplewrench_pull_parts_total"

-- what is counted
unfoldable pub help_of : Metric → List ℕ
help_of metric.Clock = codes "The clock when this was written, in seconds since 1970."
help_of metric.Build = codes "1 for the version of the program that runs."
help_of metric.Shown = codes "1 once something is published, and 0 before."
help_of metric.Rounds = codes "Rounds that were made."
help_of metric.RoundJobs = codes "Jobs of the round that is being made, or of the last one."
help_of metric.RoundDone = codes "Jobs of that round that are done, those that were passed over included."
help_of metric.RoundPassed = codes "Jobs of that round that were passed over, since what is known is young enough."
help_of metric.Walks = codes "Walks by archive, and by how they ended."
help_of metric.WalkSeconds = codes "Seconds that the walks of an archive took."
help_of metric.DormantUntil = codes "When a dormant archive is asked again, in seconds since 1970; 0 unless it is dormant."
help_of metric.AsideUntil = codes "When an archive is asked again that asked to be left alone, in seconds since 1970; 0 for any other."
help_of metric.Publishes = codes "Publishes that succeeded, and those for which memory was refused."
help_of metric.LastPublish = codes "When something was published last, in seconds since 1970; 0 before."
help_of metric.Snapshots = codes "Snapshots that were written, and those that couldn't be."
help_of metric.LastSnapshot = codes "When a snapshot was written last, in seconds since 1970; 0 before."
help_of metric.SnapshotBehind = codes "1 while something is published that the last snapshot lacks, and 0 otherwise."
help_of metric.Pulls = codes "Pulls by peer, and by how they ended."
help_of metric.LastDelta = codes "When a peer gave a delta last, in seconds since 1970; 0 before."
help_of metric.Entries = codes "Pairs of an archive and an original of which something is known, when they were counted last."
help_of metric.Mementos = codes "Mementos that are known, when they were counted last."
help_of metric.RevisionsAhead = codes "Entries with a revision more than a minute ahead of the clock, when they were counted last."
help_of metric.Resident = codes "Resident memory of the process in bytes."
help_of metric.Replies = codes "Replies by gate and by status."
help_of metric.Wishes = codes "Wishes by what became of them."
help_of metric.WantedUsed = codes "Originals beyond those of rounds that are known by wishes."
help_of metric.WantedLimit = codes "Originals beyond those of rounds that may be known by wishes."
help_of metric.BadLines = codes "Lines of the file of originals that hold none, when it was read last."
help_of metric.LastList = codes "When the file of originals was read last, in seconds since 1970; 0 before."
help_of metric.Forgettings = codes "Forgettings that took place, and those for which memory was refused."
help_of metric.ForgottenEntries = codes "Pairs of an archive and an original that were forgotten."
help_of metric.Floor = codes "From when on unlisted originals are kept that nobody asks for, in seconds since 1970; 0 before the first forgetting."
help_of metric.PullEntries = codes "Entries of peers' deltas by peer, and by whether they were taken or left."
help_of metric.UnlistedMementos = codes "Mementos of originals that no round looks after, when they were counted last."
help_of metric.UnlistedLimit = codes "Mementos that originals that no round looks after may have."
help_of metric.PullParts = codes "Parts of peers' deltas by peer, counted as they are taken."

-- the kind
unfoldable pub kind_of : Metric → List ℕ
kind_of metric.Clock = codes "gauge"
kind_of metric.Build = codes "gauge"
kind_of metric.Shown = codes "gauge"
kind_of metric.Rounds = codes "counter"
kind_of metric.RoundJobs = codes "gauge"
kind_of metric.RoundDone = codes "gauge"
kind_of metric.RoundPassed = codes "gauge"
kind_of metric.Walks = codes "counter"
kind_of metric.WalkSeconds = codes "counter"
kind_of metric.DormantUntil = codes "gauge"
kind_of metric.AsideUntil = codes "gauge"
kind_of metric.Publishes = codes "counter"
kind_of metric.LastPublish = codes "gauge"
kind_of metric.Snapshots = codes "counter"
kind_of metric.LastSnapshot = codes "gauge"
kind_of metric.SnapshotBehind = codes "gauge"
kind_of metric.Pulls = codes "counter"
kind_of metric.LastDelta = codes "gauge"
kind_of metric.Entries = codes "gauge"
kind_of metric.Mementos = codes "gauge"
kind_of metric.RevisionsAhead = codes "gauge"
kind_of metric.Resident = codes "gauge"
kind_of metric.Replies = codes "counter"
kind_of metric.Wishes = codes "counter"
kind_of metric.WantedUsed = codes "gauge"
kind_of metric.WantedLimit = codes "gauge"
kind_of metric.BadLines = codes "gauge"
kind_of metric.LastList = codes "gauge"
kind_of metric.Forgettings = codes "counter"
kind_of metric.ForgottenEntries = codes "counter"
kind_of metric.Floor = codes "gauge"
kind_of metric.PullEntries = codes "counter"
kind_of metric.UnlistedMementos = codes "gauge"
kind_of metric.UnlistedLimit = codes "gauge"
kind_of metric.PullParts = codes "counter"

-- those that each status tells, in order
abbrev pub metrics : List Metric
metrics =
    metric.Clock ∷ metric.Build ∷ metric.Shown ∷ metric.Rounds ∷ metric.RoundJobs ∷ metric.RoundDone
    ∷ metric.RoundPassed ∷ metric.Walks ∷ metric.WalkSeconds ∷ metric.DormantUntil ∷ metric.AsideUntil
    ∷ metric.Publishes ∷ metric.LastPublish ∷ metric.Snapshots ∷ metric.LastSnapshot ∷ metric.SnapshotBehind
    ∷ metric.Pulls ∷ metric.LastDelta ∷ metric.Entries ∷ metric.Mementos ∷ metric.RevisionsAhead ∷ metric.Resident
    ∷ metric.Replies ∷ metric.Wishes ∷ metric.WantedUsed ∷ metric.WantedLimit ∷ metric.BadLines ∷ metric.LastList ∷ []

-- those that a status tells behind them, where something may be forgotten
abbrev pub forgetting_metrics : List Metric
forgetting_metrics =
    metric.Forgettings ∷ metric.ForgottenEntries ∷ metric.Floor ∷ metric.PullEntries ∷ metric.UnlistedMementos
    ∷ metric.UnlistedLimit ∷ []

-- those that a status tells behind these, where deltas come in parts
abbrev pub part_metrics : List Metric
part_metrics = metric.PullParts ∷ []
