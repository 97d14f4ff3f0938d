-- The line of a sample has one reading.
use Rattle.std.proofs.Common.{◌≡◌, ℕ, ◌<◌, ◌^◌, ◌==◌, Bool, true, false, List, [], ◌∷◌, ◌++◌, get_or, drop, refl, sym, ap, ◌∙◌, append_assoc, arith}
use Rattle.std.specs.Prelude.{codes, flat_map, All, if◌then◌else◌}
use Rattle.std.specs.List.{list_all}
use Rattle.std.specs.Fmt.{decimal}
use Rattle.std.proofs.lemmas.Bool.{true≢false, and_parts}
use Rattle.std.proofs.lemmas.Bool.Decides.{Decides-eqb}
use Rattle.std.proofs.lemmas.Fmt.{decimal_injective}
use Rattle.std.proofs.lemmas.List.Elements.{All-head, All-tail}
use Rattle.text_fields.proofs.DecimalLemmas.{decimal_lacks}
use Rattle.text_fields.proofs.PartLemmas.{one_split}
use Rattle.service_status.specs.Exposition.{escaped_byte, escaped_value, Label, label_text, labels_text, value_text, Sample, sample_line, is_name_byte, IsName, AreReadBack}

-- a byte before what a value has
abbrev with_byte : ℕ → List ℕ × List ℕ → List ℕ × List ℕ
with_byte b read = (b ∷ read.0, read.1)

-- the byte that a letter behind a backslash stands for
abbrev meant : ℕ → ℕ
meant b = if b == 110 then 10 else b

-- a value up to its quote, and what follows; behind a backslash a letter comes first
abbrev read_value : List ℕ → Bool → List ℕ × List ℕ
read_value [] letter = ([], [])
read_value (b ∷ text) true = with_byte (meant b) (read_value text false)
read_value (b ∷ text) false =
    if b == 34 then ([], text) else if b == 92 then read_value text true else with_byte b (read_value text false)

plain_at : (quote slash : Bool) (x y z : List ℕ × List ℕ) → quote ≡ false → slash ≡ false → (if quote then x else if slash then y else z) ≡ z
plain_at true slash x y z q s = absurd (true≢false q)
plain_at false true x y z q s = absurd (true≢false s)
plain_at false false x y z q s = refl

byte_at : (b : ℕ) (slash quote end : Bool) (text : List ℕ) → (b == 92) ≡ slash → (b == 34) ≡ quote → (b == 10) ≡ end
    → read_value ((if slash then 92 ∷ 92 ∷ [] else if quote then 92 ∷ 34 ∷ [] else if end then 92 ∷ 110 ∷ [] else b ∷ []) ++ text) false
    ≡ with_byte b (read_value text false)
byte_at b true quote end text s q e = ap (λ (n : ℕ). with_byte n (read_value text false)) (sym ((Decides-eqb b 92).0 s))
byte_at b false true end text s q e = ap (λ (n : ℕ). with_byte n (read_value text false)) (sym ((Decides-eqb b 34).0 q))
byte_at b false false true text s q e = ap (λ (n : ℕ). with_byte n (read_value text false)) (sym ((Decides-eqb b 10).0 e))
byte_at b false false false text s q e = plain_at (b == 34) (b == 92) ([], text) (read_value text true) (with_byte b (read_value text false)) q s

value_read : (value rest : List ℕ) → read_value (escaped_value value ++ 34 ∷ rest) false ≡ (value, rest)
value_read [] rest = refl
value_read (b ∷ value) rest =
    ap (λ (t : List ℕ). read_value t false) (append_assoc (escaped_byte b) (escaped_value value) (34 ∷ rest))
    ∙ byte_at b (b == 92) (b == 34) (b == 10) (escaped_value value ++ 34 ∷ rest) refl refl refl
    ∙ ap (with_byte b) (value_read value rest)

one_value : (a b x y : List ℕ) → escaped_value a ++ 34 ∷ x ≡ escaped_value b ++ 34 ∷ y → (a ≡ b) × (x ≡ y)
one_value a b x y same =
    let read : (a, x) ≡ (b, y) = sym (value_read a x) ∙ ap (λ (t : List ℕ). read_value t false) same ∙ value_read b y in
    (ap (λ (p : List ℕ × List ℕ). p.0) read, ap (λ (p : List ℕ × List ℕ). p.1) read)

-- a name ends at the first byte that can't stand in it
one_name : (a b x y : List ℕ) (c d : ℕ) → IsName a → IsName b → is_name_byte c ≡ false → is_name_byte d ≡ false
    → a ++ c ∷ x ≡ b ++ d ∷ y → (a ≡ b) × (c ∷ x ≡ d ∷ y)
one_name [] [] x y c d na nb ec ed same = (refl, same)
one_name [] (e ∷ b) x y c d na nb ec ed same =
    let heads : c ≡ e = ap (λ (l : List ℕ). get_or l 0 0) same in
    absurd (true≢false (sym (and_parts (is_name_byte e) (list_all is_name_byte b) nb).0 ∙ (ap is_name_byte (sym heads) ∙ ec)))
one_name (e ∷ a) [] x y c d na nb ec ed same =
    let heads : e ≡ d = ap (λ (l : List ℕ). get_or l 0 0) same in
    absurd (true≢false (sym (and_parts (is_name_byte e) (list_all is_name_byte a) na).0 ∙ (ap is_name_byte heads ∙ ed)))
one_name (e ∷ a) (f ∷ b) x y c d na nb ec ed same =
    let heads : e ≡ f = ap (λ (l : List ℕ). get_or l 0 0) same in
    let tails : a ++ c ∷ x ≡ b ++ d ∷ y = ap (λ (l : List ℕ). drop 1 l) same in
    let rest = one_name a b x y c d (and_parts (is_name_byte e) (list_all is_name_byte a) na).1 (and_parts (is_name_byte f) (list_all is_name_byte b) nb).1 ec ed tails in
    ((λ i. heads i ∷ rest.0 i), rest.1)

label_parts : (l : Label) (x : List ℕ) → label_text l ++ x ≡ l.0 ++ 61 ∷ 34 ∷ (escaped_value l.1 ++ 34 ∷ x)
label_parts l x =
    append_assoc (l.0 ++ codes "=\"" ++ escaped_value l.1) (codes "\"") x
    ∙ append_assoc (l.0 ++ codes "=\"") (escaped_value l.1) (34 ∷ x)
    ∙ append_assoc l.0 (codes "=\"") (escaped_value l.1 ++ 34 ∷ x)

one_label : (l k : Label) (x y : List ℕ) → IsName l.0 → IsName k.0 → label_text l ++ x ≡ label_text k ++ y → (l ≡ k) × (x ≡ y)
one_label l k x y nl nk same =
    let names = one_name l.0 k.0 (34 ∷ (escaped_value l.1 ++ 34 ∷ x)) (34 ∷ (escaped_value k.1 ++ 34 ∷ y)) 61 61 nl nk refl refl
    (sym (label_parts l x) ∙ (same ∙ label_parts k y)) in
    let values = one_value l.1 k.1 x y (ap (λ (t : List ℕ). drop 2 t) names.1) in
    ((λ i. (names.0 i, values.0 i)), values.1)

abbrev next_label : Label → List ℕ
next_label label = codes "," ++ label_text label

next_parts : (l : Label) (ls : List Label) (x : List ℕ) → flat_map next_label (l ∷ ls) ++ 125 ∷ x ≡ 44 ∷ (label_text l ++ (flat_map next_label ls ++ 125 ∷ x))
next_parts l ls x =
    append_assoc (next_label l) (flat_map next_label ls) (125 ∷ x)

-- further labels, up to the brace
one_list : (ls ks : List Label) (x y : List ℕ) → All (λ (l : Label). IsName l.0) ls → All (λ (l : Label). IsName l.0) ks
    → flat_map next_label ls ++ 125 ∷ x ≡ flat_map next_label ks ++ 125 ∷ y → (ls ≡ ks) × (x ≡ y)
one_list [] [] x y nl nk same = (refl, ap (λ (t : List ℕ). drop 1 t) same)
one_list [] (k ∷ ks) x y nl nk same = absurd (let letters : 125 ≡ 44 = ap (λ (t : List ℕ). get_or t 0 0) same in omega (arith, letters))
one_list (l ∷ ls) [] x y nl nk same = absurd (let letters : 44 ≡ 125 = ap (λ (t : List ℕ). get_or t 0 0) same in omega (arith, letters))
one_list (l ∷ ls) (k ∷ ks) x y nl nk same =
    let first = one_label l k (flat_map next_label ls ++ 125 ∷ x) (flat_map next_label ks ++ 125 ∷ y)
    (All-head (λ (l : Label). IsName l.0) l ls nl) (All-head (λ (l : Label). IsName l.0) k ks nk)
    (ap (λ (t : List ℕ). drop 1 t) (sym (next_parts l ls x) ∙ (same ∙ next_parts k ks y))) in
    let rest = one_list ls ks x y (All-tail (λ (l : Label). IsName l.0) l ls nl) (All-tail (λ (l : Label). IsName l.0) k ks nk) first.1 in
    ((λ i. first.0 i ∷ rest.0 i), rest.1)

labels_parts : (l : Label) (ls : List Label) (x : List ℕ) → labels_text (l ∷ ls) ++ x ≡ 123 ∷ (label_text l ++ (flat_map next_label ls ++ 125 ∷ x))
labels_parts l ls x =
    append_assoc (codes "{" ++ label_text l ++ flat_map next_label ls) (codes "}") x
    ∙ append_assoc (codes "{" ++ label_text l) (flat_map next_label ls) (125 ∷ x)
    ∙ append_assoc (codes "{") (label_text l) (flat_map next_label ls ++ 125 ∷ x)

value_parts : (v : ℕ) (x : List ℕ) → value_text v ++ x ≡ 32 ∷ (decimal v ++ 10 ∷ x)
value_parts v x =
    append_assoc (codes " " ++ decimal v) (codes "\n") x ∙ append_assoc (codes " ") (decimal v) (10 ∷ x)

one_number : (v w : ℕ) (x y : List ℕ) → v < 2 ^ 64 → w < 2 ^ 64 → value_text v ++ x ≡ value_text w ++ y → (v ≡ w) × (x ≡ y)
one_number v w x y fv fw same =
    let split = one_split 10 (decimal v) (decimal w) x y (decimal_lacks 10 (omega arith) v fv) (decimal_lacks 10 (omega arith) w fw)
    (ap (λ (t : List ℕ). drop 1 t) (sym (value_parts v x) ∙ (same ∙ value_parts w y))) in
    (decimal_injective v w fv fw split.0, split.1)

-- labels and a value
one_end : (ls ks : List Label) (v w : ℕ) (x y : List ℕ) → All (λ (l : Label). IsName l.0) ls → All (λ (l : Label). IsName l.0) ks → v < 2 ^ 64 → w < 2 ^ 64
    → labels_text ls ++ (value_text v ++ x) ≡ labels_text ks ++ (value_text w ++ y) → (ls ≡ ks) × (v ≡ w) × (x ≡ y)
one_end [] [] v w x y nl nk fv fw same = let numbers = one_number v w x y fv fw same in (refl, numbers.0, numbers.1)
one_end [] (k ∷ ks) v w x y nl nk fv fw same = absurd (let letters : 32 ≡ 123 = ap (λ (t : List ℕ). get_or t 0 0) same in omega (arith, letters))
one_end (l ∷ ls) [] v w x y nl nk fv fw same = absurd (let letters : 123 ≡ 32 = ap (λ (t : List ℕ). get_or t 0 0) same in omega (arith, letters))
one_end (l ∷ ls) (k ∷ ks) v w x y nl nk fv fw same =
    let first = one_label l k (flat_map next_label ls ++ 125 ∷ (value_text v ++ x)) (flat_map next_label ks ++ 125 ∷ (value_text w ++ y))
    (All-head (λ (l : Label). IsName l.0) l ls nl) (All-head (λ (l : Label). IsName l.0) k ks nk)
    (ap (λ (t : List ℕ). drop 1 t) (sym (labels_parts l ls (value_text v ++ x)) ∙ (same ∙ labels_parts k ks (value_text w ++ y)))) in
    let rest = one_list ls ks (value_text v ++ x) (value_text w ++ y) (All-tail (λ (l : Label). IsName l.0) l ls nl) (All-tail (λ (l : Label). IsName l.0) k ks nk) first.1 in
    let numbers = one_number v w x y fv fw rest.1 in
    ((λ i. first.0 i ∷ rest.0 i), numbers.0, numbers.1)

-- the byte behind a name
abbrev after_name : List Label → ℕ
after_name [] = 32
after_name (l ∷ ls) = 123

-- and what follows it
abbrev behind_name : List Label → ℕ → List ℕ → List ℕ
behind_name [] v x = decimal v ++ 10 ∷ x
behind_name (l ∷ ls) v x = label_text l ++ (flat_map next_label ls ++ 125 ∷ (value_text v ++ x))

end_parts : (ls : List Label) (v : ℕ) (x : List ℕ) → labels_text ls ++ (value_text v ++ x) ≡ after_name ls ∷ behind_name ls v x
end_parts [] v x = value_parts v x
end_parts (l ∷ ls) v x = labels_parts l ls (value_text v ++ x)

no_name : (ls : List Label) → is_name_byte (after_name ls) ≡ false
no_name [] = refl
no_name (l ∷ ls) = refl

line_parts : (name : List ℕ) (s : Sample) (x : List ℕ) → sample_line name s ++ x ≡ name ++ (labels_text s.0 ++ (value_text s.1 ++ x))
line_parts name s x =
    append_assoc (name ++ labels_text s.0) (value_text s.1) x ∙ append_assoc name (labels_text s.0) (value_text s.1 ++ x)

line_at : (name : List ℕ) (s : Sample) (x : List ℕ) → sample_line name s ++ x ≡ name ++ after_name s.0 ∷ behind_name s.0 s.1 x
line_at name s x = line_parts name s x ∙ ap (λ (t : List ℕ). name ++ t) (end_parts s.0 s.1 x)

pub read_back : AreReadBack
read_back name other s t x y nn mn ns nt same =
    let names = one_name name other (behind_name s.0 s.1 x) (behind_name t.0 t.1 y) (after_name s.0) (after_name t.0) nn mn (no_name s.0) (no_name t.0)
    (sym (line_at name s x) ∙ (same ∙ line_at other t y)) in
    let ends = one_end s.0 t.0 s.1 t.1 x y ns.named nt.named ns.fits nt.fits
    (end_parts s.0 s.1 x ∙ (names.1 ∙ sym (end_parts t.0 t.1 y))) in
    (names.0, (λ i. (ends.0 i, ends.1 i)), ends.2)
