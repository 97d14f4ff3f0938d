-- Lists in which each original stands once.
use Rattle.std.specs.Prelude.{◌≡◌, ℕ, Bool, true, not, ◌&&◌, List, [], ◌∷◌, ◌++◌, if◌then◌else◌}
use Rattle.original_sets.specs.Sets.{stands}

-- the original, unless it stands before
abbrev pub unless_before : List (List ℕ) → List ℕ → List (List ℕ)
unless_before before original = if stands before original then [] else original ∷ []

-- the originals of a list that stand neither before it nor earlier in it
abbrev pub new_after : List (List ℕ) → List (List ℕ) → List (List ℕ)
new_after before [] = []
new_after before (original ∷ originals) =
    unless_before before original ++ new_after (before ++ original ∷ []) originals

-- the originals of a list, each where it stands first
abbrev pub each_once : List (List ℕ) → List (List ℕ)
each_once originals = new_after [] originals

-- none stands twice
abbrev pub are_distinct : List (List ℕ) → Bool
are_distinct [] = true
are_distinct (original ∷ originals) = not (stands originals original) && are_distinct originals

-- the same originals, none twice, in order: those of a beginning come first
pub record AreEachOnce : Type 0 where
  pub same : (originals : List (List ℕ)) (original : List ℕ)
      → stands (each_once originals) original ≡ stands originals original
  pub distinct : (originals : List (List ℕ)) → are_distinct (each_once originals) ≡ true
  pub ordered : (front back : List (List ℕ)) → each_once (front ++ back) ≡ each_once front ++ new_after front back
