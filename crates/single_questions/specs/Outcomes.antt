-- What questions come to.
use Rattle.std.specs.Prelude.{◌≡◌, ◌⊎◌, ◌↔◌, ℕ, Bool, nat_lt, if◌then◌else◌}
use Rattle.single_questions.specs.declared.outcomes.Outcome.{Outcome}
use Rattle.single_questions.specs.declared.outcomes.Outcome.TheVariants.{Found, Nothing, Unknown}

-- by how many mementos are known, and whether an archive failed
abbrev pub outcome_of : ℕ → Bool → Outcome
outcome_of mementos failed = if nat_lt 0 mementos then Found else if failed then Unknown else Nothing

-- of two, the worse
abbrev pub worse : Outcome → Outcome → Outcome
worse Found other = other
worse Nothing Found = Nothing
worse Nothing Nothing = Nothing
worse Nothing Unknown = Unknown
worse Unknown other = Unknown

-- Several come to `Found` exactly if each does, and to `Unknown` exactly if one of them does; order makes no
-- difference.
pub record AreWorst : Type 0 where
  pub found : (a b : Outcome) → (worse a b ≡ Found) ↔ ((a ≡ Found) × (b ≡ Found))
  pub unknown : (a b : Outcome) → (worse a b ≡ Unknown) ↔ ((a ≡ Unknown) ⊎ (b ≡ Unknown))
  pub either : (a b : Outcome) → worse a b ≡ worse b a
  pub grouped : (a b c : Outcome) → worse (worse a b) c ≡ worse a (worse b c)
