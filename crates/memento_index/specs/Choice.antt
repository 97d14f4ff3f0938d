-- The memento that a gate names.
use Rattle.std.specs.Prelude.{◌≡◌, ◌≢◌, ℕ, ◌+◌, ◌-◌, ◌<◌, ◌⊎◌, true, cond, List, [], ◌∷◌, Option, Some, None}
use Rattle.std.specs.declared.cmp.Ordering.{Ordering}
use Rattle.std.specs.declared.cmp.Ordering.TheVariants.{Less}
use Rattle.std.specs.Ordering.{nat_cmp, is_gt, on, then_cmp, flip_args}
use Rattle.memento_time.specs.Mementos.{text_cmp, memento_cmp}
use Rattle.memento_time.specs.declared.mementos.Memento.{Memento}
use Rattle.memento_sets.specs.Maps.{join_values}
use Rattle.memento_sets.specs.Sets as set
use Rattle.memento_sets.specs.MementoSets.{Mementos}

-- how many seconds a memento lies from a datetime
abbrev pub distance : ℕ → Memento → ℕ
distance t m = (m.at - t) + (t - m.at)

-- every other one is farther from t, or as far and not before it in the order
pub record IsNearest (mementos : Mementos) (t : ℕ) (m : Memento) : Type 0 where
  pub held : set.contains mementos m ≡ true
  pub nearest : (other : Memento) → set.contains mementos other ≡ true
      → (distance t m < distance t other) ⊎ ((distance t m ≡ distance t other) × (memento_cmp other m ≢ Less))

-- every other one is of a lesser datetime, or of the same and at no lesser address
pub record IsLast (mementos : Mementos) (m : Memento) : Type 0 where
  pub held : set.contains mementos m ≡ true
  pub last : (other : Memento) → set.contains mementos other ≡ true
      → (other.at < m.at) ⊎ ((other.at ≡ m.at) × (text_cmp other.uri m.uri ≢ Less))

-- by the distance from t, and then in the order of mementos
abbrev pub nearness_cmp : ℕ → Memento → Memento → Ordering
nearness_cmp t = then_cmp (on (distance t) nat_cmp) memento_cmp

-- the later first, and then by address
abbrev pub recency_cmp : Memento → Memento → Ordering
recency_cmp = then_cmp (flip_args (on (λ m. m.at) nat_cmp)) (on (λ m. m.uri) text_cmp)

-- the least of a list
abbrev pub least_by : (Memento → Memento → Ordering) → List Memento → Option Memento
least_by cmp [] = None
least_by cmp (m ∷ ms) = join_values (λ a b. cond (is_gt (cmp a b)) b a) (Some m) (least_by cmp ms)

-- the memento nearest to a second, if there is any: a second before the first names the first, one after the last the
-- last (RFC 7089, section 4.5.3), and ties go by this project's rule
unfoldable pub nearest : Mementos → ℕ → Option Memento
nearest mementos t = least_by (nearness_cmp t) (set.items mementos)

-- the most recent memento, if there is any
unfoldable pub last : Mementos → Option Memento
last mementos = least_by recency_cmp (set.items mementos)
