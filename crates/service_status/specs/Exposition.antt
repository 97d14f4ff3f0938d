-- Prometheus' text format, version 0.0.4: lines that say what a metric is, and a line for each of its samples.
use Rattle.std.specs.Prelude.{◌≡◌, ℕ, ◌<◌, ◌^◌, ◌==◌, ◌&&◌, ◌||◌, Bool, true, nat_le, List, [], ◌∷◌, ◌++◌, codes, if◌then◌else◌, flat_map, All}
use Rattle.std.specs.List.{list_all}
use Rattle.std.specs.Fmt.{decimal}

-- a byte of a label's value: a backslash, a double quote and an LF stand behind a backslash
abbrev pub escaped_byte : ℕ → List ℕ
escaped_byte b =
    if b == 92 then 92 ∷ 92 ∷ []
    else if b == 34 then 92 ∷ 34 ∷ []
    else if b == 10 then 92 ∷ 110 ∷ []
    else b ∷ []

-- a label's value
abbrev pub escaped_value : List ℕ → List ℕ
escaped_value text = flat_map escaped_byte text

-- a label: its name and its value
abbrev pub Label : Type 0
Label = List ℕ × List ℕ

-- a label with its value in quotes
abbrev pub label_text : Label → List ℕ
label_text label = label.0 ++ codes "=\"" ++ escaped_value label.1 ++ codes "\""

-- labels in braces, with commas between them; nothing if there is none
abbrev pub labels_text : List Label → List ℕ
labels_text [] = []
labels_text (label ∷ labels) =
    codes "{" ++ label_text label ++ flat_map (λ next. codes "," ++ label_text next) labels ++ codes "}"

-- labels with a comma behind each
abbrev pub first_labels : List Label → List ℕ
first_labels labels = flat_map (λ label. label_text label ++ codes ",") labels

-- what a line says of a metric: its labels and its value
abbrev pub Sample : Type 0
Sample = List Label × ℕ

-- a value behind a space, and the end of its line
abbrev pub value_text : ℕ → List ℕ
value_text value = codes " " ++ decimal value ++ codes "\n"

-- the line of a sample of the metric with this name
abbrev pub sample_line : List ℕ → Sample → List ℕ
sample_line name sample = name ++ labels_text sample.0 ++ value_text sample.1

-- the line that says what a metric counts
abbrev pub help_line : List ℕ → List ℕ → List ℕ
help_line name help = codes "# HELP " ++ name ++ codes " " ++ help ++ codes "\n"

-- the line that says of which kind a metric is
abbrev pub type_line : List ℕ → List ℕ → List ℕ
type_line name kind = codes "# TYPE " ++ name ++ codes " " ++ kind ++ codes "\n"

-- a byte of a name: a letter, a digit or `_`
abbrev pub is_name_byte : ℕ → Bool
is_name_byte b = nat_le 97 b && nat_le b 122 || nat_le 65 b && nat_le b 90 || nat_le 48 b && nat_le b 57 || b == 95

-- the name of a metric or of a label
abbrev pub IsName : List ℕ → Type 0
IsName name = list_all is_name_byte name ≡ true

-- a sample whose labels have names, and whose value has 64 bits
pub record IsSample (sample : Sample) : Type 0 where
  pub named : All (λ label. IsName label.0) sample.0
  pub fits : sample.1 < 2 ^ 64

-- Whatever follows the line of a sample, the line can be read in one way: it has one name, one list of labels and one
-- value.
abbrev pub AreReadBack : Type 0
AreReadBack = (name other : List ℕ) (sample next : Sample) (rest more : List ℕ) → IsName name → IsName other → IsSample sample → IsSample next
    → sample_line name sample ++ rest ≡ sample_line other next ++ more
    → (name ≡ other) × (sample ≡ next) × (rest ≡ more)
