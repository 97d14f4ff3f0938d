-- How many archives show each memento.
use Rattle.std.specs.Prelude.{◌≡◌, ℕ, ◌+◌, ◌<◌, cond, map, List, [], ◌∷◌, ◌++◌, reverse}
use Rattle.std.specs.List.{AllByRecursion}
use Rattle.std.specs.Ordering.{eq_by_cmp}
use Rattle.std.specs.declared.cmp.Ordering.TheVariants.{Less}
use Rattle.memento_time.specs.Mementos.{memento_cmp}
use Rattle.memento_time.specs.declared.mementos.Memento.{Memento}
use Rattle.memento_index.specs.declared.counted.Counted.{Counted}
use Rattle.memento_index.specs.declared.counted.Step.{Step}

-- the mementos of a list, without the counts
abbrev pub mementos_of : List Counted → List Memento
mementos_of es = map (λ e. e.memento) es

-- a list, and what was lifted off it, the next one last
abbrev pub whole : List Counted → List Counted → List Counted
whole list lifted = list ++ reverse lifted

-- 1 for the memento itself
abbrev pub once : Memento → Memento → ℕ
once x m = cond (eq_by_cmp memento_cmp x m) 1 0

-- the count of a memento: 0 if it isn't listed
abbrev pub count_of : List Counted → Memento → ℕ
count_of [] x = 0
count_of (e ∷ es) x = cond (eq_by_cmp memento_cmp x e.memento) e.count 0 + count_of es x

-- each of the list is below the memento
abbrev pub AreBelow : Memento → List Counted → Type 0
AreBelow m es = AllByRecursion (λ e. memento_cmp e.memento m ≡ Less) es

-- and each of it above
abbrev pub AreAbove : Memento → List Counted → Type 0
AreAbove m es = AllByRecursion (λ e. memento_cmp m e.memento ≡ Less) es

-- mementos in order, each once and with a count that isn't 0
abbrev pub IsTally : List Counted → Type 0
IsTally [] = Unit {0}
IsTally (e ∷ es) = (0 < e.count) × AreAbove e.memento es × IsTally es

-- how many archives begin to show a memento
abbrev pub beginnings : List Step → Memento → ℕ
beginnings [] x = 0
beginnings (s ∷ ss) x = cond s.begins (once x s.memento) 0 + beginnings ss x

-- and how many cease to
abbrev pub endings : List Step → Memento → ℕ
endings [] x = 0
endings (s ∷ ss) x = cond s.begins 0 (once x s.memento) + endings ss x

-- how often a memento stands in a list: once at most, if the list is in order
abbrev pub occurrences : List Memento → Memento → ℕ
occurrences [] x = 0
occurrences (m ∷ ms) x = once x m + occurrences ms x

-- what becomes of a list by these steps
pub record IsRecounted (old : List Counted) (steps : List Step) (new : List Counted) : Type 0 where
  pub tally : IsTally new
  pub counts : (m : Memento) → count_of new m + endings steps m ≡ count_of old m + beginnings steps m
