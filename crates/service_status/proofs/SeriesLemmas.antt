-- No series is told twice.
use Rattle.std.proofs.Common.{◌≡◌, ℕ, ◌<◌, ◌≤◌, ◌+◌, ◌^◌, Bool, true, List, [], ◌∷◌, ◌++◌, get_or, length, refl, sym, ap, ◌∙◌, arith}
use Rattle.std.specs.Prelude.{not, ◌&&◌, map, flat_map, All, Option, None, Some, bytes_eq, option_map, codes}
use Rattle.std.specs.Fmt.{decimal}
use Rattle.std.proofs.lemmas.Bool.{true≢false, and_parts}
use Rattle.std.proofs.lemmas.Fmt.{decimal_injective}
use Rattle.std.proofs.lemmas.List.{append_cancel_left, length_push}
use Rattle.std.proofs.lemmas.List.Elements.{All-nil, All-cons, All-head, All-tail, All-append, All-map, All-push, All-weaker}
use Rattle.std.proofs.lemmas.Slice.Eq.{bytes_eq-Decides}
use Rattle.service_status.specs.declared.metrics.Metric.{Metric}
use Rattle.service_status.specs.declared.metrics.Metric.TheVariants as metric
use Rattle.service_status.specs.declared.counts.WishCounts.{WishCounts}
use Rattle.service_status.specs.declared.status.ArchiveStatus.{ArchiveStatus}
use Rattle.service_status.specs.declared.status.PeerStatus.{PeerStatus}
use Rattle.service_status.specs.declared.status.GateStatus.{GateStatus}
use Rattle.service_status.specs.declared.status.SnapshotStatus.{SnapshotStatus}
use Rattle.service_status.specs.declared.status.ForgettingStatus.{ForgettingStatus}
use Rattle.service_status.specs.declared.status.Status.{Status}
use Rattle.service_status.specs.Exposition.{Label, Sample}
use Rattle.service_status.specs.Metrics.{name_of, metrics, forgetting_metrics, part_metrics}
use Rattle.service_status.specs.Counts.{Row, walk_rows, pull_rows, reply_rows, wish_rows, entry_rows}
use Rattle.service_status.specs.Samples.{by_end, bit, if_known, archive_labels, peer_labels, gate_labels, archive_samples, peer_samples, gate_samples, snapshot_samples, wish_samples}
use Rattle.service_status.specs.Samples.{forgetting_samples, most_of, samples_of}
use Rattle.service_status.specs.Series.{AreApart, AreToldApart, NoSeriesTwice}

-- whether none of these texts is one of them
abbrev lacks : List ℕ → List (List ℕ) → Bool
lacks x [] = true
lacks x (y ∷ ys) = not (bytes_eq x y) && lacks x ys

-- whether no two texts are the same
abbrev pub are_apart : List (List ℕ) → Bool
are_apart [] = true
are_apart (x ∷ xs) = lacks x xs && are_apart xs

other_text : (x y : List ℕ) → not (bytes_eq x y) ≡ true → ¬ (x ≡ y)
other_text x y tested same = true≢false (sym tested ∙ ap not ((bytes_eq-Decides x y).1 same))

lacks_all : {A : Type 0} (key : A → List ℕ) (x : List ℕ) (ys : List A) → lacks x (map key ys) ≡ true → All (λ y. ¬ (x ≡ key y)) ys
lacks_all key x [] tested = All-nil (λ y. ¬ (x ≡ key y))
lacks_all key x (y ∷ ys) tested =
    let both = and_parts (not (bytes_eq x (key y))) (lacks x (map key ys)) tested in
    All-cons (λ y. ¬ (x ≡ key y)) y ys (other_text x (key y) both.0) (lacks_all key x ys both.1)

pub apart_by_test : {A : Type 0} (key : A → List ℕ) (xs : List A) → are_apart (map key xs) ≡ true → AreApart key xs
apart_by_test key [] tested = tt
apart_by_test key (x ∷ xs) tested =
    let both = and_parts (lacks (key x) (map key xs)) (are_apart (map key xs)) tested in
    (lacks_all key (key x) xs both.0, apart_by_test key xs both.1)

-- what is made of things that are apart, if equal keys are of equal things
map_apart : {A B K L : Type 0} (f : A → B) (key : B → K) (of : A → L) → ((x y : A) → key (f x) ≡ key (f y) → of x ≡ of y)
    → (xs : List A) → AreApart of xs → AreApart key (map f xs)
map_apart f key of by [] apart = tt
map_apart f key of by (x ∷ xs) apart = (
  All-map (λ b. ¬ (key (f x) ≡ key b)) f xs
      (All-weaker (λ y. ¬ (of x ≡ of y)) (λ y. ¬ (key (f x) ≡ key (f y))) (λ y other same. other (by x y same)) xs apart.0),
  map_apart f key of by xs apart.1,
)

append_apart : {A K : Type 0} (key : A → K) (xs ys : List A) → AreApart key xs → AreApart key ys
    → All (λ x. All (λ y. ¬ (key x ≡ key y)) ys) xs → AreApart key (xs ++ ys)
append_apart key [] ys one other between = other
append_apart key (x ∷ xs) ys one other between = (
  All-append (λ y. ¬ (key x ≡ key y)) xs ys one.0 (All-head (λ x. All (λ y. ¬ (key x ≡ key y)) ys) x xs between),
  append_apart key xs ys one.1 other (All-tail (λ x. All (λ y. ¬ (key x ≡ key y)) ys) x xs between),
)

-- one more whose key no other has
pub push_apart : {A K : Type 0} (key : A → K) (xs : List A) (y : A) → AreApart key xs → All (λ x. ¬ (key x ≡ key y)) xs
    → AreApart key (xs ++ y ∷ [])
push_apart key xs y apart other =
    append_apart key xs (y ∷ []) apart (All-nil (λ z. ¬ (key y ≡ key z)), tt)
    (All-weaker (λ x. ¬ (key x ≡ key y)) (λ x. All (λ z. ¬ (key x ≡ key z)) (y ∷ []))
    (λ x is. All-cons (λ z. ¬ (key x ≡ key z)) y [] is (All-nil (λ z. ¬ (key x ≡ key z)))) xs other)

-- one more with a number that is greater than each
pub numbered_more : {A : Type 0} (number : A → ℕ) (xs : List A) (y : A) (n : ℕ) → AreApart number xs → All (λ x. number x ≤ n) xs
    → number y ≡ n + 1 → AreApart number (xs ++ y ∷ [])
numbered_more number xs y n apart below is =
    push_apart number xs y apart
    (All-weaker (λ x. number x ≤ n) (λ x. ¬ (number x ≡ number y)) (λ x least same. omega (arith, least, same, is)) xs below)

-- and none of them is greater than how many there are, if it is that of the last
pub below_more : {A : Type 0} (number : A → ℕ) (xs : List A) (y : A) → All (λ x. number x ≤ length xs) xs → number y ≡ length xs + 1
    → All (λ x. number x ≤ length (xs ++ y ∷ [])) (xs ++ y ∷ [])
below_more number xs y below is =
    let more = length_push xs y in
    All-push (λ x. number x ≤ length (xs ++ y ∷ [])) xs y
    (All-weaker (λ x. number x ≤ length xs) (λ x. number x ≤ length (xs ++ y ∷ [])) (λ x least. omega (arith, least, more)) xs below)
    (omega (arith, is, more))

unmapped : {A B : Type 0} (P : B → Type 0) (f : A → B) (xs : List A) → All P (map f xs) → All (λ x. P (f x)) xs
unmapped P f [] all = All-nil (λ x. P (f x))
unmapped P f (x ∷ xs) all = All-cons (λ x. P (f x)) x xs (All-head P (f x) (map f xs) all) (unmapped P f xs (All-tail P (f x) (map f xs) all))

-- what has keys that are apart is apart by its keys
pub apart_by_keys : {A K : Type 0} (key : A → K) (xs : List A) → AreApart (λ (k : K). k) (map key xs) → AreApart key xs
apart_by_keys key [] apart = tt
apart_by_keys key (x ∷ xs) apart = (unmapped (λ k. ¬ (key x ≡ k)) key xs apart.0, apart_by_keys key xs apart.1)

-- what no thing owns isn't among what things give
unowned : {X A L : Type 0} (f : X → List A) (owner : A → L) (of : X → L) → ((x : X) → All (λ a. owner a ≡ of x) (f x))
    → (k : L) (xs : List X) → All (λ y. ¬ (k ≡ of y)) xs → All (λ a. ¬ (k ≡ owner a)) (flat_map f xs)
unowned f owner of owns k [] others = All-nil (λ a. ¬ (k ≡ owner a))
unowned f owner of owns k (x ∷ xs) others =
    All-append (λ a. ¬ (k ≡ owner a)) (f x) (flat_map f xs)
    (All-weaker (λ a. owner a ≡ of x) (λ a. ¬ (k ≡ owner a))
    (λ a is same. All-head (λ y. ¬ (k ≡ of y)) x xs others (same ∙ is)) (f x) (owns x))
    (unowned f owner of owns k xs (All-tail (λ y. ¬ (k ≡ of y)) x xs others))

-- what things give that are apart, if each of it tells of which it is
flat_apart : {X A K L : Type 0} (f : X → List A) (key : A → K) (owner : A → L) (of : X → L)
    → ((x : X) → All (λ a. owner a ≡ of x) (f x)) → ((a b : A) → key a ≡ key b → owner a ≡ owner b)
    → ((x : X) → AreApart key (f x)) → (xs : List X) → AreApart of xs → AreApart key (flat_map f xs)
flat_apart f key owner of owns tells each [] apart = tt
flat_apart f key owner of owns tells each (x ∷ xs) apart =
    append_apart key (f x) (flat_map f xs) (each x) (flat_apart f key owner of owns tells each xs apart.1)
    (All-weaker (λ a. owner a ≡ of x) (λ a. All (λ b. ¬ (key a ≡ key b)) (flat_map f xs))
    (λ a is. All-weaker (λ b. ¬ (of x ≡ owner b)) (λ b. ¬ (key a ≡ key b)) (λ b other same. other (sym is ∙ tells a b same)) (flat_map f xs)
    (unowned f owner of owns (of x) xs apart.0))
    (f x) (owns x))

abbrev labels_in : Sample → List Label
labels_in sample = sample.0

no_label : Label
no_label = ([], [])

same_word : (labels : List Label) (name : List ℕ) (r s : Row) → labels ++ (name, r.0) ∷ [] ≡ labels ++ (name, s.0) ∷ [] → r.0 ≡ s.0
same_word labels name r s same =
    ap (λ (l : List Label). (get_or l 0 ([], [])).1) (append_cancel_left labels ((name, r.0) ∷ []) ((name, s.0) ∷ []) same)

rows_apart : (labels : List Label) (name : List ℕ) (rows : List Row) → are_apart (map (λ (row : Row). row.0) rows) ≡ true
    → AreApart labels_in (by_end labels name rows)
rows_apart labels name rows tested =
    map_apart (λ (row : Row). (labels ++ (name, row.0) ∷ [], row.1)) labels_in (λ (row : Row). row.0) (same_word labels name) rows
    (apart_by_test (λ (row : Row). row.0) rows tested)

one_apart : (sample : Sample) → AreApart labels_in (sample ∷ [])
one_apart sample = (All-nil (λ (other : Sample). ¬ (labels_in sample ≡ labels_in other)), tt)

known_apart : (value : Option ℕ) → AreApart labels_in (if_known value)
known_apart None = tt
known_apart (Some value) = one_apart ([], value)

snapshots_apart : (s : Option SnapshotStatus) → AreApart labels_in (snapshot_samples s)
snapshots_apart None = tt
snapshots_apart (Some s) = rows_apart [] (codes "outcome") ((codes "written", s.written) ∷ (codes "failed", s.failed) ∷ []) refl

forgettings_apart : (f : Option ForgettingStatus) → AreApart labels_in (forgetting_samples f)
forgettings_apart None = tt
forgettings_apart (Some f) = rows_apart [] (codes "outcome") ((codes "forgotten", f.forgotten) ∷ (codes "refused", f.unforgotten) ∷ []) refl

entry_words : (peer : PeerStatus) → are_apart (map (λ (row : Row). row.0) (entry_rows peer.entries)) ≡ true
unfolding entry_rows
entry_words peer = refl

walk_words : (archive : ArchiveStatus) → are_apart (map (λ (row : Row). row.0) (walk_rows archive.walks)) ≡ true
unfolding walk_rows
walk_words archive = refl

pull_words : (peer : PeerStatus) → are_apart (map (λ (row : Row). row.0) (pull_rows peer.pulls)) ≡ true
unfolding pull_rows
pull_words peer = refl

reply_words : (gate : GateStatus) → are_apart (map (λ (row : Row). row.0) (reply_rows gate.replies)) ≡ true
unfolding reply_rows
reply_words gate = refl

wish_words : (counts : WishCounts) → are_apart (map (λ (row : Row). row.0) (wish_rows counts)) ≡ true
unfolding wish_rows
wish_words counts = refl

wishes_apart : (wishes : Option WishCounts) → AreApart labels_in (wish_samples wishes)
wishes_apart None = tt
wishes_apart (Some counts) = rows_apart [] (codes "outcome") (wish_rows counts) (wish_words counts)

-- the value of the first label, and of the second
abbrev first_value : Sample → List ℕ
first_value sample = (get_or sample.0 0 ([], [])).1

abbrev second_value : Sample → List ℕ
second_value sample = (get_or sample.0 1 ([], [])).1

first_told : (a b : Sample) → labels_in a ≡ labels_in b → first_value a ≡ first_value b
first_told a b same = ap (λ (l : List Label). (get_or l 0 ([], [])).1) same

second_told : (a b : Sample) → labels_in a ≡ labels_in b → second_value a ≡ second_value b
second_told a b same = ap (λ (l : List Label). (get_or l 1 ([], [])).1) same

each_is : {X : Type 0} (P : X → Type 0) → ((x : X) → P x) → (xs : List X) → All P xs
each_is P is xs = λ k d within. is (get_or xs k d)

rows_own : (owner : Sample → List ℕ) (labels : List Label) (name whose : List ℕ) (rows : List Row)
    → ((row : Row) → owner (labels ++ (name, row.0) ∷ [], row.1) ≡ whose) → All (λ (a : Sample). owner a ≡ whose) (by_end labels name rows)
rows_own owner labels name whose rows is =
    All-map (λ (a : Sample). owner a ≡ whose) (λ (row : Row). (labels ++ (name, row.0) ∷ [], row.1)) rows
    (each_is (λ (row : Row). owner (labels ++ (name, row.0) ∷ [], row.1) ≡ whose) is rows)

one_owns : (owner : Sample → List ℕ) (sample : Sample) (whose : List ℕ) → owner sample ≡ whose → All (λ (a : Sample). owner a ≡ whose) (sample ∷ [])
one_owns owner sample whose is = All-cons (λ (a : Sample). owner a ≡ whose) sample [] is (All-nil (λ (a : Sample). owner a ≡ whose))

walks_apart : (archives : List ArchiveStatus) → AreApart (λ (archive : ArchiveStatus). archive.name) archives
    → AreApart labels_in (flat_map (archive_samples metric.Walks) archives)
walks_apart archives apart =
    flat_apart (archive_samples metric.Walks) labels_in first_value (λ (archive : ArchiveStatus). archive.name)
    (λ archive. rows_own first_value (archive_labels archive) (codes "outcome") archive.name (walk_rows archive.walks) (λ row. refl)) first_told
    (λ archive. rows_apart (archive_labels archive) (codes "outcome") (walk_rows archive.walks) (walk_words archive))
    archives apart

-- a value of each archive
values_apart : (value : ArchiveStatus → ℕ) (archives : List ArchiveStatus) → AreApart (λ (archive : ArchiveStatus). archive.name) archives
    → AreApart labels_in (flat_map (λ (archive : ArchiveStatus). (archive_labels archive, value archive) ∷ []) archives)
values_apart value archives apart =
    flat_apart (λ (archive : ArchiveStatus). (archive_labels archive, value archive) ∷ []) labels_in first_value (λ (archive : ArchiveStatus). archive.name)
    (λ archive. one_owns first_value (archive_labels archive, value archive) archive.name refl) first_told
    (λ archive. one_apart (archive_labels archive, value archive))
    archives apart

both_are : {X : Type 0} (P Q : X → Type 0) (xs : List X) → All P xs → All Q xs → All (λ x. P x × Q x) xs
both_are P Q xs one other = λ k d within. (one k d within, other k d within)

-- what has numbers that are apart has decimals that are apart
decimals_apart : {A : Type 0} (number : A → ℕ) (xs : List A) → All (λ x. number x < 2 ^ 64) xs → AreApart number xs
    → AreApart (λ x. decimal (number x)) xs
decimals_apart number [] fit apart = tt
decimals_apart number (x ∷ xs) fit apart = (
  All-weaker (λ y. (number y < 2 ^ 64) × (¬ (number x ≡ number y))) (λ y. ¬ (decimal (number x) ≡ decimal (number y)))
      (λ y is same. is.1 (decimal_injective (number x) (number y) (All-head (λ x. number x < 2 ^ 64) x xs fit) is.0 same)) xs
      (both_are (λ y. number y < 2 ^ 64) (λ y. ¬ (number x ≡ number y)) xs (All-tail (λ x. number x < 2 ^ 64) x xs fit) apart.0),
  decimals_apart number xs (All-tail (λ x. number x < 2 ^ 64) x xs fit) apart.1,
)

pulls_apart : (peers : List PeerStatus) → AreApart (λ (peer : PeerStatus). decimal peer.number) peers
    → AreApart labels_in (flat_map (peer_samples metric.Pulls) peers)
pulls_apart peers apart =
    flat_apart (peer_samples metric.Pulls) labels_in second_value (λ (peer : PeerStatus). decimal peer.number)
    (λ peer. rows_own second_value (peer_labels peer) (codes "outcome") (decimal peer.number) (pull_rows peer.pulls) (λ row. refl)) second_told
    (λ peer. rows_apart (peer_labels peer) (codes "outcome") (pull_rows peer.pulls) (pull_words peer))
    peers apart

last_apart : (peers : List PeerStatus) → AreApart (λ (peer : PeerStatus). decimal peer.number) peers
    → AreApart labels_in (flat_map (peer_samples metric.LastDelta) peers)
last_apart peers apart =
    flat_apart (peer_samples metric.LastDelta) labels_in second_value (λ (peer : PeerStatus). decimal peer.number)
    (λ peer. one_owns second_value (peer_labels peer, peer.last) (decimal peer.number) refl) second_told
    (λ peer. one_apart (peer_labels peer, peer.last))
    peers apart

parts_apart : (peers : List PeerStatus) → AreApart (λ (peer : PeerStatus). decimal peer.number) peers
    → AreApart labels_in (flat_map (peer_samples metric.PullParts) peers)
parts_apart peers apart =
    flat_apart (peer_samples metric.PullParts) labels_in second_value (λ (peer : PeerStatus). decimal peer.number)
    (λ peer. one_owns second_value (peer_labels peer, peer.parts) (decimal peer.number) refl) second_told
    (λ peer. one_apart (peer_labels peer, peer.parts))
    peers apart

entries_apart : (peers : List PeerStatus) → AreApart (λ (peer : PeerStatus). decimal peer.number) peers
    → AreApart labels_in (flat_map (peer_samples metric.PullEntries) peers)
entries_apart peers apart =
    flat_apart (peer_samples metric.PullEntries) labels_in second_value (λ (peer : PeerStatus). decimal peer.number)
    (λ peer. rows_own second_value (peer_labels peer) (codes "outcome") (decimal peer.number) (entry_rows peer.entries) (λ row. refl)) second_told
    (λ peer. rows_apart (peer_labels peer) (codes "outcome") (entry_rows peer.entries) (entry_words peer))
    peers apart

replies_apart : (gates : List GateStatus) → AreApart (λ (gate : GateStatus). decimal gate.number) gates
    → AreApart labels_in (flat_map (gate_samples metric.Replies) gates)
replies_apart gates apart =
    flat_apart (gate_samples metric.Replies) labels_in first_value (λ (gate : GateStatus). decimal gate.number)
    (λ gate. rows_own first_value (gate_labels gate) (codes "status") (decimal gate.number) (reply_rows gate.replies) (λ row. refl)) first_told
    (λ gate. rows_apart (gate_labels gate) (codes "status") (reply_rows gate.replies) (reply_words gate))
    gates apart

names_apart : AreApart name_of (metrics ++ forgetting_metrics ++ part_metrics)
unfolding name_of
names_apart = apart_by_test name_of (metrics ++ forgetting_metrics ++ part_metrics) refl

labels_apart : (s : Status) → AreToldApart s → (m : Metric) → AreApart labels_in (samples_of s m)
labels_apart s apart metric.Clock = one_apart ([], s.clock)
labels_apart s apart metric.Build = one_apart ((codes "version", s.version.now) ∷ [], 1)
labels_apart s apart metric.Shown = one_apart ([], bit s.is_shown)
labels_apart s apart metric.Rounds = one_apart ([], s.rounds)
labels_apart s apart metric.RoundJobs = one_apart ([], s.round.jobs)
labels_apart s apart metric.RoundDone = one_apart ([], s.round.done)
labels_apart s apart metric.RoundPassed = one_apart ([], s.round.passed)
labels_apart s apart metric.Walks = walks_apart s.archives.items apart.archives
labels_apart s apart metric.WalkSeconds = values_apart (λ archive. archive.seconds) s.archives.items apart.archives
labels_apart s apart metric.DormantUntil = values_apart (λ archive. archive.dormant_until) s.archives.items apart.archives
labels_apart s apart metric.AsideUntil = values_apart (λ archive. archive.aside_until) s.archives.items apart.archives
labels_apart s apart metric.Publishes =
    rows_apart [] (codes "outcome") ((codes "published", s.publishes.published) ∷ (codes "no_memory", s.publishes.refused) ∷ []) refl
labels_apart s apart metric.LastPublish = one_apart ([], s.publishes.last)
labels_apart s apart metric.Snapshots = snapshots_apart s.snapshots
labels_apart s apart metric.LastSnapshot = known_apart (option_map (λ snapshots. snapshots.last) s.snapshots)
labels_apart s apart metric.SnapshotBehind = known_apart (option_map (λ snapshots. bit snapshots.is_behind) s.snapshots)
labels_apart s apart metric.Pulls =
    pulls_apart s.peers.items (decimals_apart (λ (peer : PeerStatus). peer.number) s.peers.items apart.peers.1 apart.peers.0)
labels_apart s apart metric.LastDelta =
    last_apart s.peers.items (decimals_apart (λ (peer : PeerStatus). peer.number) s.peers.items apart.peers.1 apart.peers.0)
labels_apart s apart metric.Entries = one_apart ([], s.known.entries)
labels_apart s apart metric.Mementos = one_apart ([], s.known.mementos)
labels_apart s apart metric.RevisionsAhead = one_apart ([], s.known.ahead)
labels_apart s apart metric.Resident = known_apart s.resident
labels_apart s apart metric.Replies =
    replies_apart s.gates.items (decimals_apart (λ (gate : GateStatus). gate.number) s.gates.items apart.gates.1 apart.gates.0)
labels_apart s apart metric.Wishes = wishes_apart s.wishes
labels_apart s apart metric.WantedUsed = known_apart (option_map (λ room. room.used) s.room)
labels_apart s apart metric.WantedLimit = known_apart (option_map (λ room. room.most) s.room)
labels_apart s apart metric.BadLines = known_apart (option_map (λ list. list.bad) s.list)
labels_apart s apart metric.LastList = known_apart (option_map (λ list. list.last) s.list)
labels_apart s apart metric.Forgettings = forgettings_apart s.forgetting
labels_apart s apart metric.ForgottenEntries = known_apart (option_map (λ forgetting. forgetting.entries) s.forgetting)
labels_apart s apart metric.Floor = known_apart (option_map (λ forgetting. forgetting.floor) s.forgetting)
labels_apart s apart metric.PullEntries =
    entries_apart s.peers.items (decimals_apart (λ (peer : PeerStatus). peer.number) s.peers.items apart.peers.1 apart.peers.0)
labels_apart s apart metric.UnlistedMementos = known_apart (option_map (λ forgetting. forgetting.mementos) s.forgetting)
labels_apart s apart metric.UnlistedLimit = known_apart (most_of s.forgetting)
labels_apart s apart metric.PullParts =
    parts_apart s.peers.items (decimals_apart (λ (peer : PeerStatus). peer.number) s.peers.items apart.peers.1 apart.peers.0)

pub told_once : NoSeriesTwice
told_once s apart = record { names = names_apart; labels = labels_apart s apart }
