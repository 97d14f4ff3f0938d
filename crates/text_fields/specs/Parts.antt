-- The parts of a text that a byte ends, and what stands behind a front.
use Rattle.std.specs.Prelude.{◌≡◌, ◌≢◌, ℕ, ◌+◌, ◌==◌, List, [], ◌∷◌, ◌++◌, All, take, drop, length, position, Option, Some, None}
use Rattle.std.specs.Prelude.{nat_eq, if◌then◌else◌}
use Rattle.std.specs.List.{starts_with}
use Rattle.std.specs.Option.{option_map}

-- the byte that ends a field which another follows
abbrev pub space : ℕ
space = 32

-- the byte that ends a line
abbrev pub line_end : ℕ
line_end = 10

-- the byte doesn't occur
abbrev pub Lacks : ℕ → List ℕ → Type 0
Lacks byte text = All (λ b. b ≢ byte) text

-- fields with one space between them
abbrev pub spaced_fields : List (List ℕ) → List ℕ
spaced_fields [] = []
spaced_fields (field ∷ []) = field
spaced_fields (field ∷ next ∷ fields) = field ++ space ∷ spaced_fields (next ∷ fields)

-- a part without the byte, the byte, and what stands behind it
abbrev pub IsSplit : ℕ → List ℕ → List ℕ × List ℕ → Type 0
IsSplit byte text parts = Lacks byte parts.0 × (text ≡ parts.0 ++ byte ∷ parts.1)

-- what stands before the first of a byte, and what stands behind it
abbrev pub parts_at : ℕ → List ℕ → Option (List ℕ × List ℕ)
parts_at byte text = option_map (λ place. (take place text, drop (place + 1) text)) (position (λ b. b == byte) text)

-- what stands behind this front, if the text begins with it
abbrev pub behind : List ℕ → List ℕ → Option (List ℕ)
behind front text = if starts_with nat_eq text front then Some (drop (length front) text) else None
