-- The worked examples, each computed by itself.
use Rattle.std.proofs.Common.{refl}
use Rattle.std.specs.Fmt.{digits}
use Rattle.service_status.specs.Counts.{walk_rows, pull_rows, reply_rows, wish_rows, entry_rows}
use Rattle.std.specs.Prelude.{◌≡◌, true, [], ◌∷◌, ◌++◌, None, Some, codes, if◌then◌else◌}
use Rattle.service_status.specs.declared.metrics.Metric.{Metric}
use Rattle.service_status.specs.declared.metrics.Metric.TheVariants as metric
use Rattle.service_status.specs.declared.status.ArchiveStatus.{ArchiveStatus}
use Rattle.service_status.specs.declared.status.PeerStatus.{PeerStatus}
use Rattle.service_status.specs.declared.status.GateStatus.{GateStatus}
use Rattle.service_status.specs.declared.status.Status.{Status}
use Rattle.service_status.specs.Metrics.{name_of, kind_of}
use Rattle.service_status.specs.Examples.{is_total, lines_told}

pub version_example : (s : Status) → s.version.now ≡ codes "0.1.0" → lines_told s metric.Build
    ≡ codes "maplewrench_build_info{version=\"0.1.0\"} 1\n"
unfolding name_of walk_rows pull_rows reply_rows wish_rows digits
version_example = λ s is. rw is refl

pub archives_example : (s : Status) (a : ArchiveStatus) → s.archives.items ≡ a ∷ [] → a.name ≡ codes "a.example"
    → a.seconds ≡ 12 → a.dormant_until ≡ 0 → a.aside_until ≡ 1700000600
    → (lines_told s metric.WalkSeconds ≡ codes "maplewrench_walk_seconds_total{archive=\"a.example\"} 12\n")
    × (lines_told s metric.DormantUntil
    ≡ codes "maplewrench_archive_dormant_until_timestamp_seconds{archive=\"a.example\"} 0\n")
    × (lines_told s metric.AsideUntil
    ≡ codes "maplewrench_archive_aside_until_timestamp_seconds{archive=\"a.example\"} 1700000600\n")
unfolding name_of walk_rows pull_rows reply_rows wish_rows digits
archives_example = λ s a is name seconds dormant aside. rw (is, name, seconds, dormant, aside) (refl, refl, refl)

pub walks_example : (s : Status) (a : ArchiveStatus) → s.archives.items ≡ a ∷ [] → a.name ≡ codes "a.example"
    → a.walks ≡ record {
      whole = 1;
      part = 2;
      busy = 3;
      no_answer = 4;
      too_long = 5;
      status = 6;
      encoded = 7;
      no_page = 8;
      too_many_pages = 9;
      too_many_mementos = 10;
      no_memory = 11;
    }
    → lines_told s metric.Walks
    ≡ codes "maplewrench_walks_total{archive=\"a.example\",outcome=\"whole\"} 1\n"
    ++ codes "maplewrench_walks_total{archive=\"a.example\",outcome=\"part\"} 2\n"
    ++ codes "maplewrench_walks_total{archive=\"a.example\",outcome=\"busy\"} 3\n"
    ++ codes "maplewrench_walks_total{archive=\"a.example\",outcome=\"no_answer\"} 4\n"
    ++ codes "maplewrench_walks_total{archive=\"a.example\",outcome=\"too_long\"} 5\n"
    ++ codes "maplewrench_walks_total{archive=\"a.example\",outcome=\"status\"} 6\n"
    ++ codes "maplewrench_walks_total{archive=\"a.example\",outcome=\"encoded\"} 7\n"
    ++ codes "maplewrench_walks_total{archive=\"a.example\",outcome=\"no_page\"} 8\n"
    ++ codes "maplewrench_walks_total{archive=\"a.example\",outcome=\"too_many_pages\"} 9\n"
    ++ codes "maplewrench_walks_total{archive=\"a.example\",outcome=\"too_many_mementos\"} 10\n"
    ++ codes "maplewrench_walks_total{archive=\"a.example\",outcome=\"no_memory\"} 11\n"
unfolding name_of walk_rows pull_rows reply_rows wish_rows digits
walks_example = λ s a is name walks. rw (is, name, walks) refl

pub peers_example : (s : Status) (p q : PeerStatus) → s.peers.items ≡ p ∷ q ∷ [] → p.base ≡ codes "http://p" → p.number ≡ 1
    → p.last ≡ 0 → q.base ≡ codes "http://p" → q.number ≡ 2 → q.last ≡ 1700000000 → lines_told s metric.LastDelta
    ≡ codes "maplewrench_peer_last_delta_timestamp_seconds{peer=\"http://p\",number=\"1\"} 0\n"
    ++ codes "maplewrench_peer_last_delta_timestamp_seconds{peer=\"http://p\",number=\"2\"} 1700000000\n"
unfolding name_of walk_rows pull_rows reply_rows wish_rows digits
peers_example = λ s p q is base number last other_base other_number other_last. rw (is, base, number, last, other_base, other_number, other_last) refl

pub pulls_example : (s : Status) (p : PeerStatus) → s.peers.items ≡ p ∷ [] → p.base ≡ codes "http://p" → p.number ≡ 1
    → p.pulls ≡ record { news = 1; no_news = 2; no_answer = 3; status = 4; no_delta = 5; gap = 6; no_memory = 7 }
    → lines_told s metric.Pulls
    ≡ codes "maplewrench_pulls_total{peer=\"http://p\",number=\"1\",outcome=\"news\"} 1\n"
    ++ codes "maplewrench_pulls_total{peer=\"http://p\",number=\"1\",outcome=\"no_news\"} 2\n"
    ++ codes "maplewrench_pulls_total{peer=\"http://p\",number=\"1\",outcome=\"no_answer\"} 3\n"
    ++ codes "maplewrench_pulls_total{peer=\"http://p\",number=\"1\",outcome=\"status\"} 4\n"
    ++ codes "maplewrench_pulls_total{peer=\"http://p\",number=\"1\",outcome=\"no_delta\"} 5\n"
    ++ codes "maplewrench_pulls_total{peer=\"http://p\",number=\"1\",outcome=\"gap\"} 6\n"
    ++ codes "maplewrench_pulls_total{peer=\"http://p\",number=\"1\",outcome=\"no_memory\"} 7\n"
unfolding name_of walk_rows pull_rows reply_rows wish_rows digits
pulls_example = λ s p is base number pulls. rw (is, base, number, pulls) refl

pub replies_example : (s : Status) (g : GateStatus) → s.gates.items ≡ g ∷ [] → g.number ≡ 1
    → g.replies ≡ record { ok = 1; found = 2; bad = 3; absent = 4; method = 5; refused = 6; other = 7 }
    → lines_told s metric.Replies
    ≡ codes "maplewrench_replies_total{gate=\"1\",status=\"200\"} 1\n"
    ++ codes "maplewrench_replies_total{gate=\"1\",status=\"302\"} 2\n"
    ++ codes "maplewrench_replies_total{gate=\"1\",status=\"400\"} 3\n"
    ++ codes "maplewrench_replies_total{gate=\"1\",status=\"404\"} 4\n"
    ++ codes "maplewrench_replies_total{gate=\"1\",status=\"405\"} 5\n"
    ++ codes "maplewrench_replies_total{gate=\"1\",status=\"503\"} 6\n"
    ++ codes "maplewrench_replies_total{gate=\"1\",status=\"other\"} 7\n"
unfolding name_of walk_rows pull_rows reply_rows wish_rows digits
replies_example = λ s g is number replies. rw (is, number, replies) refl

pub wishes_example : (s : Status) → s.wishes ≡ Some (record { granted = 1; ended = 2; turned_away = 3; late = 4 })
    → lines_told s metric.Wishes
    ≡ codes "maplewrench_wishes_total{outcome=\"granted\"} 1\nmaplewrench_wishes_total{outcome=\"ended\"} 2\n"
    ++ codes "maplewrench_wishes_total{outcome=\"turned_away\"} 3\nmaplewrench_wishes_total{outcome=\"late\"} 4\n"
unfolding name_of walk_rows pull_rows reply_rows wish_rows digits
wishes_example = λ s is. rw is refl

pub snapshots_example : (s : Status) → s.snapshots ≡ Some (record { written = 5; failed = 1; last = 1700000000; is_behind = true })
    → (lines_told s metric.Snapshots
    ≡ codes "maplewrench_snapshots_total{outcome=\"written\"} 5\nmaplewrench_snapshots_total{outcome=\"failed\"} 1\n")
    × (lines_told s metric.LastSnapshot ≡ codes "maplewrench_last_snapshot_timestamp_seconds 1700000000\n")
    × (lines_told s metric.SnapshotBehind ≡ codes "maplewrench_snapshot_behind 1\n")
unfolding name_of walk_rows pull_rows reply_rows wish_rows digits
snapshots_example = λ s is. rw is (refl, refl, refl)

pub no_snapshots_example : (s : Status) → s.snapshots ≡ None
    → (lines_told s metric.Snapshots ≡ []) × (lines_told s metric.LastSnapshot ≡ []) × (lines_told s metric.SnapshotBehind ≡ [])
unfolding name_of walk_rows pull_rows reply_rows wish_rows digits
no_snapshots_example = λ s is. rw is (refl, refl, refl)

pub room_example : (s : Status) → s.room ≡ Some (record { used = 7; most = 100 })
    → (lines_told s metric.WantedUsed ≡ codes "maplewrench_wanted_used 7\n")
    × (lines_told s metric.WantedLimit ≡ codes "maplewrench_wanted_limit 100\n")
unfolding name_of walk_rows pull_rows reply_rows wish_rows digits
room_example = λ s is. rw is (refl, refl)

pub list_example : (s : Status) → s.list ≡ Some (record { bad = 3; last = 1700000000 })
    → (lines_told s metric.BadLines ≡ codes "maplewrench_list_bad_lines 3\n")
    × (lines_told s metric.LastList ≡ codes "maplewrench_last_list_timestamp_seconds 1700000000\n")
unfolding name_of walk_rows pull_rows reply_rows wish_rows digits
list_example = λ s is. rw is (refl, refl)

pub forgetting_example : (s : Status)
    → s.forgetting ≡ Some (record { forgotten = 4; unforgotten = 1; entries = 900; floor = 1700000000; mementos = 70; most = Some 100 })
    → (lines_told s metric.Forgettings
    ≡ codes "maplewrench_forgettings_total{outcome=\"forgotten\"} 4\nmaplewrench_forgettings_total{outcome=\"refused\"} 1\n")
    × (lines_told s metric.ForgottenEntries ≡ codes "maplewrench_forgotten_entries_total 900\n")
    × (lines_told s metric.Floor ≡ codes "maplewrench_floor_timestamp_seconds 1700000000\n")
    × (lines_told s metric.UnlistedMementos ≡ codes "maplewrench_unlisted_mementos 70\n")
    × (lines_told s metric.UnlistedLimit ≡ codes "maplewrench_unlisted_mementos_limit 100\n")
unfolding name_of digits
forgetting_example = λ s is. rw is (refl, refl, refl, refl, refl)

pub entries_example : (s : Status) (p : PeerStatus) → s.peers.items ≡ p ∷ [] → p.base ≡ codes "http://p" → p.number ≡ 1
    → p.entries ≡ record { taken = 3; left = 9 }
    → lines_told s metric.PullEntries
    ≡ codes "maplewrench_pull_entries_total{peer=\"http://p\",number=\"1\",outcome=\"taken\"} 3\n"
    ++ codes "maplewrench_pull_entries_total{peer=\"http://p\",number=\"1\",outcome=\"left\"} 9\n"
unfolding name_of entry_rows digits
entries_example = λ s p is base number entries. rw (is, base, number, entries) refl

pub parts_example : (s : Status) (p : PeerStatus) → s.peers.items ≡ p ∷ [] → p.base ≡ codes "http://p" → p.number ≡ 1 → p.parts ≡ 5
    → lines_told s metric.PullParts ≡ codes "maplewrench_pull_parts_total{peer=\"http://p\",number=\"1\"} 5\n"
unfolding name_of digits
parts_example = λ s p is base number parts. rw (is, base, number, parts) refl

pub known_example : (s : Status) → s.known ≡ record { entries = 5; mementos = 50; ahead = 1 }
    → (lines_told s metric.Entries ≡ codes "maplewrench_entries 5\n")
    × (lines_told s metric.Mementos ≡ codes "maplewrench_mementos 50\n")
    × (lines_told s metric.RevisionsAhead ≡ codes "maplewrench_revisions_ahead 1\n")
unfolding name_of walk_rows pull_rows reply_rows wish_rows digits
known_example = λ s is. rw is (refl, refl, refl)

pub kinds_fit : (m : Metric) → kind_of m ≡ (if is_total (name_of m) then codes "counter" else codes "gauge")
unfolding name_of kind_of
kinds_fit metric.Clock = refl
kinds_fit metric.Build = refl
kinds_fit metric.Shown = refl
kinds_fit metric.Rounds = refl
kinds_fit metric.RoundJobs = refl
kinds_fit metric.RoundDone = refl
kinds_fit metric.RoundPassed = refl
kinds_fit metric.Walks = refl
kinds_fit metric.WalkSeconds = refl
kinds_fit metric.DormantUntil = refl
kinds_fit metric.AsideUntil = refl
kinds_fit metric.Publishes = refl
kinds_fit metric.LastPublish = refl
kinds_fit metric.Snapshots = refl
kinds_fit metric.LastSnapshot = refl
kinds_fit metric.SnapshotBehind = refl
kinds_fit metric.Pulls = refl
kinds_fit metric.LastDelta = refl
kinds_fit metric.Entries = refl
kinds_fit metric.Mementos = refl
kinds_fit metric.RevisionsAhead = refl
kinds_fit metric.Resident = refl
kinds_fit metric.Replies = refl
kinds_fit metric.Wishes = refl
kinds_fit metric.WantedUsed = refl
kinds_fit metric.WantedLimit = refl
kinds_fit metric.BadLines = refl
kinds_fit metric.LastList = refl
kinds_fit metric.Forgettings = refl
kinds_fit metric.ForgottenEntries = refl
kinds_fit metric.Floor = refl
kinds_fit metric.PullEntries = refl
kinds_fit metric.UnlistedMementos = refl
kinds_fit metric.UnlistedLimit = refl
kinds_fit metric.PullParts = refl
