-- Labels in braces, with commas between them, and with a comma behind each but the last, are the same.
use Rattle.std.proofs.Common.{◌≡◌, ℕ, List, [], ◌∷◌, ◌++◌, ap, sym, ◌∙◌, append_assoc}
use Rattle.std.specs.Prelude.{codes, flat_map}
use Rattle.std.proofs.lemmas.List.{append-nil}
use Rattle.service_status.specs.Exposition.{Label, label_text, labels_text, first_labels}

-- a part moves into the parts behind it
moved : (a b c d e : List ℕ) → a ++ b ++ (c ++ d ++ e) ≡ a ++ (b ++ c ++ d) ++ e
moved a b c d e =
    append_assoc a b (c ++ d ++ e)
    ∙ ap (λ (t : List ℕ). a ++ (b ++ t)) (append_assoc c d e)
    ∙ ap (λ (t : List ℕ). a ++ t) (sym (append_assoc b c (d ++ e)))
    ∙ ap (λ (t : List ℕ). a ++ t) (sym (append_assoc (b ++ c) d e))
    ∙ sym (append_assoc a (b ++ c ++ d) e)

abbrev next_label : Label → List ℕ
next_label label = codes "," ++ label_text label

-- labels with a comma before each
next_labels : (labels : List Label) (last : Label) → flat_map next_label (labels ++ last ∷ []) ≡ codes "," ++ first_labels labels ++ label_text last
next_labels [] last = append-nil (codes "," ++ label_text last)
next_labels (l ∷ labels) last =
    ap (λ (t : List ℕ). next_label l ++ t) (next_labels labels last)
    ∙ moved (codes ",") (label_text l) (codes ",") (first_labels labels) (label_text last)

pub braced : (labels : List Label) (last : Label)
    → labels_text (labels ++ last ∷ []) ≡ codes "{" ++ first_labels labels ++ label_text last ++ codes "}"
braced [] last = ap (λ (t : List ℕ). t ++ codes "}") (append-nil (codes "{" ++ label_text last))
braced (l ∷ labels) last =
    ap (λ (t : List ℕ). t ++ codes "}")
    (ap (λ (t : List ℕ). codes "{" ++ label_text l ++ t) (next_labels labels last)
    ∙ moved (codes "{") (label_text l) (codes ",") (first_labels labels) (label_text last))

-- what is written part by part behind a text, in one
pub joined : (out a b c d : List ℕ) → out ++ a ++ b ++ c ++ d ≡ out ++ (a ++ b ++ c ++ d)
joined out a b c d =
    ap (λ (t : List ℕ). t ++ c ++ d) (append_assoc out a b)
    ∙ ap (λ (t : List ℕ). t ++ d) (append_assoc out (a ++ b) c)
    ∙ append_assoc out (a ++ b ++ c) d
