-- That no series is told twice.
use Rattle.std.specs.Prelude.{◌≡◌, ℕ, ◌<◌, ◌^◌, ⊤, List, [], ◌∷◌, ◌++◌, All}
use Rattle.service_status.specs.declared.metrics.Metric.{Metric}
use Rattle.service_status.specs.declared.status.Status.{Status}
use Rattle.service_status.specs.Metrics.{name_of, metrics, forgetting_metrics, part_metrics}
use Rattle.service_status.specs.Samples.{samples_of}

-- no two elements have one key
abbrev pub AreApart : {A K : Type 0} → (A → K) → List A → Type 0
AreApart key [] = ⊤
AreApart key (x ∷ xs) = All (λ y. ¬ (key x ≡ key y)) xs × AreApart key xs

-- no two elements have one number, and each number has 64 bits
abbrev pub AreNumbered : {A : Type 0} → (A → ℕ) → List A → Type 0
AreNumbered number xs = AreApart number xs × All (λ x. number x < 2 ^ 64) xs

-- no two archives have one name, and no two peers and no two gates have one number
pub record AreToldApart (s : Status) : Type 0 where
  pub archives : AreApart (λ archive. archive.name) s.archives.items
  pub peers : AreNumbered (λ peer. peer.number) s.peers.items
  pub gates : AreNumbered (λ gate. gate.number) s.gates.items

-- no two lines of a status have one name and one list of labels: no two metrics have one name, and no two samples of a
-- metric have one list of labels
pub record IsEachToldOnce (s : Status) : Type 0 where
  pub names : AreApart name_of (metrics ++ forgetting_metrics ++ part_metrics)
  pub labels : (m : Metric) → AreApart (λ sample. sample.0) (samples_of s m)

-- so it is for each status whose archives, peers and gates are apart
abbrev pub NoSeriesTwice : Type 0
NoSeriesTwice = (s : Status) → AreToldApart s → IsEachToldOnce s
