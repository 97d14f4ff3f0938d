-- Sections have one reading, and none where they are cut short.
use Rattle.std.proofs.Common.{◌≡◌, ℕ, ◌<◌, ◌^◌, List, [], ◌∷◌, ◌++◌, length, get_or, refl, sym, ap, ◌∙◌, append_assoc, arith}
use Rattle.std.specs.Prelude.{All, codes}
use Rattle.std.specs.List.{flat_map}
use Rattle.std.specs.Fmt.{decimal}
use Rattle.std.proofs.lemmas.Fmt.{decimal_injective}
use Rattle.std.proofs.lemmas.List.{append-nil, append_cancel_left}
use Rattle.std.proofs.lemmas.List.Elements.{All-head, All-tail}
use Rattle.text_fields.proofs.DecimalLemmas.{decimal_lacks}
use Rattle.text_fields.proofs.PartLemmas.{one_split}
use Rattle.snapshot_sections.specs.Sections.{first_line, section_line, last_line, section_text, snapshot_text, AreSections}

-- a number and the end of its line
pub one_number : (m n : ℕ) (x y : List ℕ) → m < 2 ^ 64 → n < 2 ^ 64 → (decimal m ++ 10 ∷ []) ++ x ≡ (decimal n ++ 10 ∷ []) ++ y → (m ≡ n) × (x ≡ y)
one_number m n x y fm fn same =
    let split = one_split 10 (decimal m) (decimal n) x y (decimal_lacks 10 (omega arith) m fm) (decimal_lacks 10 (omega arith) n fn)
    (sym (append_assoc (decimal m) (10 ∷ []) x) ∙ (same ∙ append_assoc (decimal n) (10 ∷ []) y)) in
    (decimal_injective m n fm fn split.0, split.1)

-- fronts of one length
one_front : (a b x y : List ℕ) → length a ≡ length b → a ++ x ≡ b ++ y → (a ≡ b) × (x ≡ y)
one_front [] [] x y same e = (refl, e)
one_front [] (c ∷ b) x y same e = absurd (omega (arith, same))
one_front (c ∷ a) [] x y same e = absurd (omega (arith, same))
one_front (c ∷ a) (d ∷ b) x y same e =
    let heads : c ≡ d = cc in
    let tails : a ++ x ≡ b ++ y = cc in
    let less : length a ≡ length b = omega (arith, same) in
    let rest = one_front a b x y less tails in
    ((λ i. heads i ∷ rest.0 i), rest.1)

-- a text's line, the text, and what follows
section_parts : (t x y : List ℕ) → (section_text t ++ x) ++ y ≡ codes "section " ++ ((decimal (length t) ++ 10 ∷ []) ++ (t ++ (x ++ y)))
section_parts t x y =
    append_assoc (section_text t) x y
    ∙ (append_assoc (section_line (length t)) t (x ++ y)
    ∙ append_assoc (codes "section ") (decimal (length t) ++ 10 ∷ []) (t ++ (x ++ y)))

one_section : (t u x y : List ℕ) → length t < 2 ^ 64 → length u < 2 ^ 64
    → codes "section " ++ ((decimal (length t) ++ 10 ∷ []) ++ (t ++ x)) ≡ codes "section " ++ ((decimal (length u) ++ 10 ∷ []) ++ (u ++ y)) → (t ≡ u) × (x ≡ y)
one_section t u x y ft fu same =
    let numbers = one_number (length t) (length u) (t ++ x) (u ++ y) ft fu
    (append_cancel_left (codes "section ") ((decimal (length t) ++ 10 ∷ []) ++ (t ++ x)) ((decimal (length u) ++ 10 ∷ []) ++ (u ++ y)) same) in
    one_front t u x y numbers.0 numbers.1

-- texts, the last line and what follows
one_body : (ts us : List (List ℕ)) (m n : ℕ) (x y : List ℕ) → All (λ t. length t < 2 ^ 64) ts → All (λ t. length t < 2 ^ 64) us → m < 2 ^ 64 → n < 2 ^ 64
    → flat_map section_text ts ++ (last_line m ++ x) ≡ flat_map section_text us ++ (last_line n ++ y) → (ts ≡ us) × (x ≡ y)
one_body [] [] m n x y ft fu fm fn same =
    let numbers = one_number m n x y fm fn
    (append_cancel_left (codes "sections ") ((decimal m ++ 10 ∷ []) ++ x) ((decimal n ++ 10 ∷ []) ++ y)
    (sym (append_assoc (codes "sections ") (decimal m ++ 10 ∷ []) x) ∙ (same ∙ append_assoc (codes "sections ") (decimal n ++ 10 ∷ []) y))) in
    (refl, numbers.1)
one_body [] (u ∷ us) m n x y ft fu fm fn same = absurd (let letters : 115 ≡ 32 = ap (λ (l : List ℕ). get_or l 7 0) same in omega (arith, letters))
one_body (t ∷ ts) [] m n x y ft fu fm fn same = absurd (let letters : 32 ≡ 115 = ap (λ (l : List ℕ). get_or l 7 0) same in omega (arith, letters))
one_body (t ∷ ts) (u ∷ us) m n x y ft fu fm fn same =
    let first = one_section t u (flat_map section_text ts ++ (last_line m ++ x)) (flat_map section_text us ++ (last_line n ++ y))
    (All-head (λ (l : List ℕ). length l < 2 ^ 64) t ts ft) (All-head (λ (l : List ℕ). length l < 2 ^ 64) u us fu)
    (sym (section_parts t (flat_map section_text ts) (last_line m ++ x)) ∙ (same ∙ section_parts u (flat_map section_text us) (last_line n ++ y))) in
    let rest = one_body ts us m n x y (All-tail (λ (l : List ℕ). length l < 2 ^ 64) t ts ft) (All-tail (λ (l : List ℕ). length l < 2 ^ 64) u us fu) fm fn first.1 in
    ((λ i. first.0 i ∷ rest.0 i), rest.1)

-- texts at the front, and what follows, in a list of texts and its last line
pub front_texts : (ts us : List (List ℕ)) (n : ℕ) (x : List ℕ) → All (λ t. length t < 2 ^ 64) ts → All (λ t. length t < 2 ^ 64) us
    → flat_map section_text ts ++ x ≡ flat_map section_text us ++ last_line n → (vs : List (List ℕ)) × (us ≡ ts ++ vs) × (x ≡ flat_map section_text vs ++ last_line n)
front_texts [] us n x ft fu same = (us, refl, same)
front_texts (t ∷ ts) [] n x ft fu same = absurd (let letters : 32 ≡ 115 = ap (λ (l : List ℕ). get_or l 7 0) same in omega (arith, letters))
front_texts (t ∷ ts) (u ∷ us) n x ft fu same =
    let first = one_section t u (flat_map section_text ts ++ x) (flat_map section_text us ++ last_line n)
    (All-head (λ (l : List ℕ). length l < 2 ^ 64) t ts ft) (All-head (λ (l : List ℕ). length l < 2 ^ 64) u us fu)
    (sym (section_parts t (flat_map section_text ts) x) ∙ (same ∙ section_parts u (flat_map section_text us) (last_line n))) in
    let rest = front_texts ts us n x (All-tail (λ (l : List ℕ). length l < 2 ^ 64) t ts ft) (All-tail (λ (l : List ℕ). length l < 2 ^ 64) u us fu) first.1 in
    (rest.0, (λ i. sym first.0 i ∷ rest.1 i), rest.2)

-- a text isn't the last line
pub no_last : (t x : List ℕ) (n : ℕ) → section_text t ++ x ≡ last_line n → ⊥
no_last t x n same = absurd (let letters : 32 ≡ 115 = ap (λ (l : List ℕ). get_or l 7 0) same in omega (arith, letters))

-- two texts, each with what follows it
pub same_text : (t u x y : List ℕ) → length t < 2 ^ 64 → length u < 2 ^ 64 → section_text t ++ x ≡ section_text u ++ y → t ≡ u
same_text t u x y ft fu same = (one_section t u x y ft fu (sym (text_parts t x) ∙ (same ∙ text_parts u y))).0
  where
    text_parts : (t x : List ℕ) → section_text t ++ x ≡ codes "section " ++ ((decimal (length t) ++ 10 ∷ []) ++ (t ++ x))
    text_parts t x = append_assoc (section_line (length t)) t x ∙ append_assoc (codes "section ") (decimal (length t) ++ 10 ∷ []) (t ++ x)

whole_parts : (ts : List (List ℕ)) (x : List ℕ) → snapshot_text ts ++ x ≡ first_line ++ (flat_map section_text ts ++ (last_line (length ts) ++ x))
whole_parts ts x =
    append_assoc first_line (flat_map section_text ts ++ last_line (length ts)) x
    ∙ ap (λ (l : List ℕ). first_line ++ l) (append_assoc (flat_map section_text ts) (last_line (length ts)) x)

-- two snapshots, each with what follows it
pub one_snapshot : (ts us : List (List ℕ)) (x y : List ℕ) → AreSections ts → AreSections us → snapshot_text ts ++ x ≡ snapshot_text us ++ y → (ts ≡ us) × (x ≡ y)
one_snapshot ts us x y at au same =
    one_body ts us (length ts) (length us) x y at.each au.each at.count au.count
    (append_cancel_left first_line (flat_map section_text ts ++ (last_line (length ts) ++ x)) (flat_map section_text us ++ (last_line (length us) ++ y))
    (sym (whole_parts ts x) ∙ (same ∙ whole_parts us y)))

pub same_sections : (ts us : List (List ℕ)) → AreSections ts → AreSections us → snapshot_text ts ≡ snapshot_text us → ts ≡ us
same_sections ts us at au same = (one_snapshot ts us [] [] at au (append-nil (snapshot_text ts) ∙ (same ∙ sym (append-nil (snapshot_text us))))).0

pub nothing_follows : (ts us : List (List ℕ)) (rest : List ℕ) → AreSections ts → AreSections us → snapshot_text ts ≡ snapshot_text us ++ rest → rest ≡ []
nothing_follows ts us rest at au same = sym (one_snapshot ts us [] rest at au (append-nil (snapshot_text ts) ∙ same)).1
