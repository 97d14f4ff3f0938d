-- Ways of writing values, and what a reader answers of a text that is to begin with a written value.
use Rattle.std.specs.Prelude.{◌≡◌, ⊤, ℕ, ◌<◌, ◌^◌, List, [], ◌∷◌, ◌++◌}
use Rattle.std.specs.Fmt.{decimal}
use Rattle.replica_exchange.specs.declared.fault.StateFault.{StateFault}
use Rattle.replica_exchange.specs.declared.fault.StateFault.TheVariants.{TooLong, NotState, NoMemory}

-- which values can be written, and the text of each
pub record Spelling (A : Type 0) : Type 1 where
  pub Is : A → Type 0
  pub spelled : A → List ℕ

-- the text is a written value and what follows it
pub record Begins {A : Type 0} (s : Spelling A) (text : List ℕ) (value : A) (rest : List ℕ) : Type 0 where
  pub is : s.Is value
  pub whole : text ≡ s.spelled value ++ rest

-- the text begins with a written value, which comes behind these
pub record Adds {A : Type 0} (s : Spelling A) (before after : List A) (text rest : List ℕ) : Type 0 where
  pub value : A
  pub added : after ≡ before ++ value ∷ []
  pub begins : Begins s text value rest

-- a text is refused as malformed only if it begins with no written value
abbrev pub Refuses : {A : Type 0} → Spelling A → List ℕ → StateFault → Type 0
Refuses s text TooLong = ⊥
Refuses {A} s text NotState = (value : A) (rest : List ℕ) → ¬ Begins s text value rest
Refuses s text NoMemory = ⊤

-- a text is refused as malformed only if no value's writing is the whole of it
abbrev pub RefusesWhole : {A : Type 0} → Spelling A → List ℕ → StateFault → Type 0
RefusesWhole s text TooLong = ⊥
RefusesWhole {A} s text NotState = (value : A) → ¬ Begins s text value []
RefusesWhole s text NoMemory = ⊤

-- a value, written so, and the byte that ends it
abbrev pub value_and_end : {A : Type 0} → (A → Type 0) → (A → List ℕ) → ℕ → Spelling A
value_and_end Is written byte = record { Is = Is; spelled = λ value. written value ++ byte ∷ [] }

-- a field of this kind, and the byte that ends it
abbrev pub field : (List ℕ → Type 0) → ℕ → Spelling (List ℕ)
field Is byte = value_and_end Is (λ text. text) byte

-- a number of 64 bits as a decimal, and the byte that ends it
abbrev pub number : ℕ → Spelling ℕ
number byte = value_and_end (λ n. n < 2 ^ 64) decimal byte
