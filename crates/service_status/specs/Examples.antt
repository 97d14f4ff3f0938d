-- Worked examples of lines and replies.
use Rattle.std.specs.Prelude.{◌≡◌, ℕ, ◌-◌, Bool, true, false, List, [], ◌∷◌, ◌++◌, None, Some, codes, bytes_eq, drop, length, if◌then◌else◌}
use Rattle.timegate.specs.declared.request.Request.{Request}
use Rattle.timegate.specs.declared.reply.Header.TheVariants.{Allow, ContentType}
use Rattle.service_status.specs.declared.metrics.Metric.{Metric}
use Rattle.service_status.specs.declared.metrics.Metric.TheVariants as metric
use Rattle.service_status.specs.declared.status.ArchiveStatus.{ArchiveStatus}
use Rattle.service_status.specs.declared.status.PeerStatus.{PeerStatus}
use Rattle.service_status.specs.declared.status.GateStatus.{GateStatus}
use Rattle.service_status.specs.declared.status.Status.{Status}
use Rattle.service_status.specs.Exposition.{escaped_value, sample_line}
use Rattle.service_status.specs.Metrics.{name_of, kind_of}
use Rattle.service_status.specs.Samples.{lines_of, samples_of, metric_text}
use Rattle.service_status.specs.Replies.{reply_of}

-- a request without Accept-Datetime
abbrev pub asking : List ℕ → List ℕ → Request
asking method target = record { method = method; target = target; asked = [] }

-- whether a name ends as those of counters do
abbrev pub is_total : List ℕ → Bool
is_total name = bytes_eq (drop (length name - 6) name) (codes "_total")

-- the lines of a metric's samples
abbrev pub lines_told : Status → Metric → List ℕ
lines_told s m = lines_of m (samples_of s m)

pub record AreExamples : Type 0 where
  pub plain : sample_line (codes "entries") ([], 7) ≡ codes "entries 7\n"
  pub labelled : sample_line (codes "replies") ((codes "gate", codes "1") ∷ (codes "status", codes "200") ∷ [], 12)
      ≡ codes "replies{gate=\"1\",status=\"200\"} 12\n"
  pub escapes : escaped_value (codes "a\\b\"c\n") ≡ codes "a\\\\b\\\"c\\n"
  pub rounds : (s : Status) → s.rounds ≡ 3 → metric_text s metric.Rounds
      ≡ codes "# HELP maplewrench_rounds_total Rounds that were made.\n# TYPE maplewrench_rounds_total counter\n"
      ++ codes "maplewrench_rounds_total 3\n"
  pub publishes : (s : Status) → s.publishes ≡ record { published = 3; refused = 0; last = 1699999990 }
      → metric_text s metric.Publishes
      ≡ codes "# HELP maplewrench_publishes_total Publishes that succeeded, and those for which memory was refused.\n"
      ++ codes "# TYPE maplewrench_publishes_total counter\n"
      ++ codes "maplewrench_publishes_total{outcome=\"published\"} 3\n"
      ++ codes "maplewrench_publishes_total{outcome=\"no_memory\"} 0\n"
  pub kinds : (m : Metric) → kind_of m ≡ (if is_total (name_of m) then codes "counter" else codes "gauge")
  pub version : (s : Status) → s.version.now ≡ codes "0.1.0" → lines_told s metric.Build
      ≡ codes "maplewrench_build_info{version=\"0.1.0\"} 1\n"
  pub archives : (s : Status) (a : ArchiveStatus) → s.archives.items ≡ a ∷ [] → a.name ≡ codes "a.example"
      → a.seconds ≡ 12 → a.dormant_until ≡ 0 → a.aside_until ≡ 1700000600
      → (lines_told s metric.WalkSeconds ≡ codes "maplewrench_walk_seconds_total{archive=\"a.example\"} 12\n")
      × (lines_told s metric.DormantUntil
      ≡ codes "maplewrench_archive_dormant_until_timestamp_seconds{archive=\"a.example\"} 0\n")
      × (lines_told s metric.AsideUntil
      ≡ codes "maplewrench_archive_aside_until_timestamp_seconds{archive=\"a.example\"} 1700000600\n")
  pub walks : (s : Status) (a : ArchiveStatus) → s.archives.items ≡ a ∷ [] → a.name ≡ codes "a.example"
      → a.walks ≡ record {
        whole = 1;
        part = 2;
        busy = 3;
        no_answer = 4;
        too_long = 5;
        status = 6;
        encoded = 7;
        no_page = 8;
        too_many_pages = 9;
        too_many_mementos = 10;
        no_memory = 11;
      }
      → lines_told s metric.Walks
      ≡ codes "maplewrench_walks_total{archive=\"a.example\",outcome=\"whole\"} 1\n"
      ++ codes "maplewrench_walks_total{archive=\"a.example\",outcome=\"part\"} 2\n"
      ++ codes "maplewrench_walks_total{archive=\"a.example\",outcome=\"busy\"} 3\n"
      ++ codes "maplewrench_walks_total{archive=\"a.example\",outcome=\"no_answer\"} 4\n"
      ++ codes "maplewrench_walks_total{archive=\"a.example\",outcome=\"too_long\"} 5\n"
      ++ codes "maplewrench_walks_total{archive=\"a.example\",outcome=\"status\"} 6\n"
      ++ codes "maplewrench_walks_total{archive=\"a.example\",outcome=\"encoded\"} 7\n"
      ++ codes "maplewrench_walks_total{archive=\"a.example\",outcome=\"no_page\"} 8\n"
      ++ codes "maplewrench_walks_total{archive=\"a.example\",outcome=\"too_many_pages\"} 9\n"
      ++ codes "maplewrench_walks_total{archive=\"a.example\",outcome=\"too_many_mementos\"} 10\n"
      ++ codes "maplewrench_walks_total{archive=\"a.example\",outcome=\"no_memory\"} 11\n"
  pub peers : (s : Status) (p q : PeerStatus) → s.peers.items ≡ p ∷ q ∷ [] → p.base ≡ codes "http://p" → p.number ≡ 1
      → p.last ≡ 0 → q.base ≡ codes "http://p" → q.number ≡ 2 → q.last ≡ 1700000000 → lines_told s metric.LastDelta
      ≡ codes "maplewrench_peer_last_delta_timestamp_seconds{peer=\"http://p\",number=\"1\"} 0\n"
      ++ codes "maplewrench_peer_last_delta_timestamp_seconds{peer=\"http://p\",number=\"2\"} 1700000000\n"
  pub pulls : (s : Status) (p : PeerStatus) → s.peers.items ≡ p ∷ [] → p.base ≡ codes "http://p" → p.number ≡ 1
      → p.pulls ≡ record { news = 1; no_news = 2; no_answer = 3; status = 4; no_delta = 5; gap = 6; no_memory = 7 }
      → lines_told s metric.Pulls
      ≡ codes "maplewrench_pulls_total{peer=\"http://p\",number=\"1\",outcome=\"news\"} 1\n"
      ++ codes "maplewrench_pulls_total{peer=\"http://p\",number=\"1\",outcome=\"no_news\"} 2\n"
      ++ codes "maplewrench_pulls_total{peer=\"http://p\",number=\"1\",outcome=\"no_answer\"} 3\n"
      ++ codes "maplewrench_pulls_total{peer=\"http://p\",number=\"1\",outcome=\"status\"} 4\n"
      ++ codes "maplewrench_pulls_total{peer=\"http://p\",number=\"1\",outcome=\"no_delta\"} 5\n"
      ++ codes "maplewrench_pulls_total{peer=\"http://p\",number=\"1\",outcome=\"gap\"} 6\n"
      ++ codes "maplewrench_pulls_total{peer=\"http://p\",number=\"1\",outcome=\"no_memory\"} 7\n"
  pub replies : (s : Status) (g : GateStatus) → s.gates.items ≡ g ∷ [] → g.number ≡ 1
      → g.replies ≡ record { ok = 1; found = 2; bad = 3; absent = 4; method = 5; refused = 6; other = 7 }
      → lines_told s metric.Replies
      ≡ codes "maplewrench_replies_total{gate=\"1\",status=\"200\"} 1\n"
      ++ codes "maplewrench_replies_total{gate=\"1\",status=\"302\"} 2\n"
      ++ codes "maplewrench_replies_total{gate=\"1\",status=\"400\"} 3\n"
      ++ codes "maplewrench_replies_total{gate=\"1\",status=\"404\"} 4\n"
      ++ codes "maplewrench_replies_total{gate=\"1\",status=\"405\"} 5\n"
      ++ codes "maplewrench_replies_total{gate=\"1\",status=\"503\"} 6\n"
      ++ codes "maplewrench_replies_total{gate=\"1\",status=\"other\"} 7\n"
  pub wishes : (s : Status) → s.wishes ≡ Some (record { granted = 1; ended = 2; turned_away = 3; late = 4 })
      → lines_told s metric.Wishes
      ≡ codes "maplewrench_wishes_total{outcome=\"granted\"} 1\nmaplewrench_wishes_total{outcome=\"ended\"} 2\n"
      ++ codes "maplewrench_wishes_total{outcome=\"turned_away\"} 3\nmaplewrench_wishes_total{outcome=\"late\"} 4\n"
  pub snapshots : (s : Status) → s.snapshots ≡ Some (record { written = 5; failed = 1; last = 1700000000; is_behind = true })
      → (lines_told s metric.Snapshots
      ≡ codes "maplewrench_snapshots_total{outcome=\"written\"} 5\nmaplewrench_snapshots_total{outcome=\"failed\"} 1\n")
      × (lines_told s metric.LastSnapshot ≡ codes "maplewrench_last_snapshot_timestamp_seconds 1700000000\n")
      × (lines_told s metric.SnapshotBehind ≡ codes "maplewrench_snapshot_behind 1\n")
  pub no_snapshots : (s : Status) → s.snapshots ≡ None
      → (lines_told s metric.Snapshots ≡ []) × (lines_told s metric.LastSnapshot ≡ []) × (lines_told s metric.SnapshotBehind ≡ [])
  pub room : (s : Status) → s.room ≡ Some (record { used = 7; most = 100 })
      → (lines_told s metric.WantedUsed ≡ codes "maplewrench_wanted_used 7\n")
      × (lines_told s metric.WantedLimit ≡ codes "maplewrench_wanted_limit 100\n")
  pub list : (s : Status) → s.list ≡ Some (record { bad = 3; last = 1700000000 })
      → (lines_told s metric.BadLines ≡ codes "maplewrench_list_bad_lines 3\n")
      × (lines_told s metric.LastList ≡ codes "maplewrench_last_list_timestamp_seconds 1700000000\n")
  pub forgetting : (s : Status)
      → s.forgetting ≡ Some (record { forgotten = 4; unforgotten = 1; entries = 900; floor = 1700000000; mementos = 70; most = Some 100 })
      → (lines_told s metric.Forgettings
      ≡ codes "maplewrench_forgettings_total{outcome=\"forgotten\"} 4\nmaplewrench_forgettings_total{outcome=\"refused\"} 1\n")
      × (lines_told s metric.ForgottenEntries ≡ codes "maplewrench_forgotten_entries_total 900\n")
      × (lines_told s metric.Floor ≡ codes "maplewrench_floor_timestamp_seconds 1700000000\n")
      × (lines_told s metric.UnlistedMementos ≡ codes "maplewrench_unlisted_mementos 70\n")
      × (lines_told s metric.UnlistedLimit ≡ codes "maplewrench_unlisted_mementos_limit 100\n")
  pub entries : (s : Status) (p : PeerStatus) → s.peers.items ≡ p ∷ [] → p.base ≡ codes "http://p" → p.number ≡ 1
      → p.entries ≡ record { taken = 3; left = 9 }
      → lines_told s metric.PullEntries
      ≡ codes "maplewrench_pull_entries_total{peer=\"http://p\",number=\"1\",outcome=\"taken\"} 3\n"
      ++ codes "maplewrench_pull_entries_total{peer=\"http://p\",number=\"1\",outcome=\"left\"} 9\n"
  pub parts : (s : Status) (p : PeerStatus) → s.peers.items ≡ p ∷ [] → p.base ≡ codes "http://p" → p.number ≡ 1 → p.parts ≡ 5
      → lines_told s metric.PullParts ≡ codes "maplewrench_pull_parts_total{peer=\"http://p\",number=\"1\"} 5\n"
  pub known : (s : Status) → s.known ≡ record { entries = 5; mementos = 50; ahead = 1 }
      → (lines_told s metric.Entries ≡ codes "maplewrench_entries 5\n")
      × (lines_told s metric.Mementos ≡ codes "maplewrench_mementos 50\n")
      × (lines_told s metric.RevisionsAhead ≡ codes "maplewrench_revisions_ahead 1\n")
  pub healthy : (s : Status) → s.is_shown ≡ true → reply_of s (asking (codes "GET") (codes "/health"))
      ≡ record { status = 200; headers = (ContentType, codes "text/plain") ∷ []; body = codes "ok\n" }
  pub early_health : (s : Status) → s.is_shown ≡ false → reply_of s (asking (codes "GET") (codes "/health"))
      ≡ record { status = 503; headers = (ContentType, codes "text/plain") ∷ []; body = codes "nothing published\n" }
  pub head : (s : Status) → reply_of s (asking (codes "HEAD") (codes "/metrics"))
      ≡ record { status = 200; headers = (ContentType, codes "text/plain; version=0.0.4") ∷ []; body = [] }
  pub elsewhere : (s : Status) → reply_of s (asking (codes "GET") (codes "/state"))
      ≡ record { status = 404; headers = (ContentType, codes "text/plain") ∷ []; body = codes "no such route\n" }
  pub posted : (s : Status) → reply_of s (asking (codes "POST") (codes "/metrics"))
      ≡ record {
        status = 405;
        headers = (Allow, codes "GET, HEAD") ∷ (ContentType, codes "text/plain") ∷ [];
        body = codes "bad method\n";
      }
