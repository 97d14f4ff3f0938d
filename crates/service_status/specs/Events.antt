-- What a status tells after something happened.
use Rattle.std.specs.Prelude.{ℕ, ◌+◌, ◌-◌, ◌^◌, min, true, false}
use Rattle.service_status.specs.declared.counts.EntryCounts.{EntryCounts}
use Rattle.service_status.specs.declared.counts.WalkEnd.{WalkEnd}
use Rattle.service_status.specs.declared.counts.PullEnd.{PullEnd}
use Rattle.service_status.specs.declared.counts.PullEnd.TheVariants as pull
use Rattle.service_status.specs.declared.status.ArchiveStatus.{ArchiveStatus}
use Rattle.service_status.specs.declared.status.PeerStatus.{PeerStatus}
use Rattle.service_status.specs.declared.status.PublishStatus.{PublishStatus}
use Rattle.service_status.specs.declared.status.SnapshotStatus.{SnapshotStatus}
use Rattle.service_status.specs.declared.status.ForgettingStatus.{ForgettingStatus}
use Rattle.service_status.specs.Counts.{one_more, capped_count, with_walk, with_pull, with_entries}

-- a walk ended so, and took so many seconds
abbrev pub after_walk : WalkEnd → ℕ → ArchiveStatus → ArchiveStatus
after_walk end seconds a =
    record a { walks = with_walk end a.walks; seconds = min (a.seconds + seconds) (2 ^ 64 - 1) }

-- when a peer gave a delta last: in this second, if the pull ended with one
abbrev pub last_after : PullEnd → ℕ → ℕ → ℕ
last_after pull.News second before = second
last_after pull.NoNews second before = second
last_after pull.NoAnswer second before = before
last_after pull.Status second before = before
last_after pull.NoDelta second before = before
last_after pull.Gap second before = before
last_after pull.NoMemory second before = before

-- a pull ended so in this second
abbrev pub after_pull : PullEnd → ℕ → PeerStatus → PeerStatus
after_pull end second p = record p { pulls = with_pull end p.pulls; last = last_after end second p.last }

-- something was published in this second
abbrev pub after_publish : ℕ → PublishStatus → PublishStatus
after_publish second p = record p { published = one_more p.published; last = second }

-- memory was refused for a publish
abbrev pub after_refusal : PublishStatus → PublishStatus
after_refusal p = record p { refused = one_more p.refused }

-- a snapshot was written in this second, with all that is published
abbrev pub after_snapshot : ℕ → SnapshotStatus → SnapshotStatus
after_snapshot second s = record s { written = one_more s.written; last = second; is_behind = false }

-- a snapshot couldn't be written
abbrev pub after_unwritten : SnapshotStatus → SnapshotStatus
after_unwritten s = record s { failed = one_more s.failed; is_behind = true }

-- so many entries were forgotten, and this is the floor since then
abbrev pub after_forgetting : ℕ → ℕ → ForgettingStatus → ForgettingStatus
after_forgetting entries floor f =
    record f { forgotten = one_more f.forgotten; entries = capped_count (f.entries + entries); floor = floor }

-- memory was refused for a forgetting
abbrev pub after_unforgotten : ForgettingStatus → ForgettingStatus
after_unforgotten f = record f { unforgotten = one_more f.unforgotten }

-- so many entries of a peer's deltas more
abbrev pub after_entries : EntryCounts → PeerStatus → PeerStatus
after_entries more p = record p { entries = with_entries more p.entries }

-- a part of a peer's delta was taken in this second
abbrev pub after_part : ℕ → PeerStatus → PeerStatus
after_part second p = record p { parts = one_more p.parts; last = second }
