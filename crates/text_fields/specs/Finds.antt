-- What a search for the one thing of its kind answers.
use Rattle.std.specs.Prelude.{◌≡◌, ◌↔◌, Option, Some}

-- what is found is the one thing that is so, and nothing is found only if nothing is
abbrev pub Finds : {A : Type 0} → Option A → (A → Type 0) → Type 0
Finds {A} found Is = (a : A) → (found ≡ Some a) ↔ Is a
