-- Mementos (RFC 7089, section 1.1), and their order: by datetime, then by URI.
use Rattle.std.specs.Prelude.{ℕ, ◌↔◌, List, Contains, refl}
use Rattle.std.specs.declared.cmp.Ordering.{Ordering}
use Rattle.std.specs.Ordering.{nat_cmp, on, then_cmp}
use Rattle.std.specs.Cmp.Lexicographic.{slice_cmp}
use Rattle.std.specs.List.Sorted.{IsStrictlySortedBy}
use Rattle.std.specs.Coded.{Coded, code_by, coded×, coded_ℕ, coded_list}
use Rattle.memento_time.specs.declared.mementos.Memento.{Memento}
use Rattle.memento_time.specs.Second.{IsSecond}
use Rattle.memento_time.specs.Text.{IsClean}

-- a memento that there can be: a clean URI at a second from 1970 to 9999
pub record IsMemento (m : Memento) : Type 0 where
  pub at : IsSecond m.at
  pub uri : IsClean m.uri

-- by bytes, a prefix before the longer text
abbrev pub text_cmp : List ℕ → List ℕ → Ordering
text_cmp = slice_cmp nat_cmp

-- by datetime, and then by URI
abbrev pub memento_cmp : Memento → Memento → Ordering
memento_cmp = then_cmp (on (λ m. m.at) nat_cmp) (on (λ m. m.uri) text_cmp)

-- the list has the same members, in order and each once
pub record IsSetOf (list members : List Memento) : Type 0 where
  pub sorted : IsStrictlySortedBy memento_cmp list
  pub same : (m : Memento) → Contains list m ↔ Contains members m

-- a memento as a pair
abbrev pub coded_memento : Coded Memento
coded_memento = code_by (ℕ × List ℕ) (coded× coded_ℕ (coded_list coded_ℕ)) (λ m. (m.at, m.uri))
    (λ p. record { at = p.0; uri = p.1 }) (λ _. refl)
