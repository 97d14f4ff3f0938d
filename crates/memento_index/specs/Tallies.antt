-- Two columns as one list.
use Rattle.std.specs.Prelude.{ℕ, List, [], ◌∷◌, map, refl}
use Rattle.std.specs.Coded.{Coded, code_by, coded×, coded_ℕ, coded_list}
use Rattle.memento_time.specs.Mementos.{coded_memento}
use Rattle.memento_time.specs.declared.mementos.Memento.{Memento}
use Rattle.memento_index.specs.declared.counted.Counted.{Counted}

-- the mementos with their counts, and how many there is room for
pub record Tallied : Type 0 where
  pub entries : List Counted
  pub room : ℕ

-- each memento with the count beside it
abbrev pub beside : List Memento → List ℕ → List Counted
beside (m ∷ ms) (n ∷ ns) = record { memento = m; count = n } ∷ beside ms ns
beside ms ns = []

-- each memento shown by one archive
abbrev pub each_once : List Memento → List Counted
each_once ms = map (λ m. record { memento = m; count = 1 }) ms

-- a memento and its count, as a pair
abbrev pub coded_counted : Coded Counted
coded_counted = code_by (Memento × ℕ) (coded× coded_memento coded_ℕ) (λ e. (e.memento, e.count))
    (λ p. record { memento = p.0; count = p.1 }) (λ _. refl)

-- a list with its room, as a pair
abbrev pub coded_tallied : Coded Tallied
coded_tallied = code_by (List Counted × ℕ) (coded× (coded_list coded_counted) coded_ℕ) (λ t. (t.entries, t.room))
    (λ p. record { entries = p.0; room = p.1 }) (λ _. refl)
