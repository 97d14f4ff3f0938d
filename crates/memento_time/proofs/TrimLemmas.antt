-- What trimming leaves and what it takes.
use Rattle.std.proofs.Common.{◌≡◌, ℕ, Bool, true, false, List, [], ◌∷◌, ◌++◌, reverse, refl, sym, ap, ◌∙◌}
use Rattle.std.proofs.lemmas.Bool.{and_parts}
use Rattle.std.proofs.lemmas.List.{reverse-append, reverse-reverse}
use Rattle.std.proofs.lemmas.List.Folds.{list_all-append}
use Rattle.std.specs.List.{list_all}
use Rattle.memento_time.specs.Blanks.{trim_start, trim_end, trim, IsTrimmed}

-- The rest is the text but for blanks before it, and begins with none.
record IsCut (test : ℕ → Bool) (text rest : List ℕ) : Type 0 where
  pub before : List ℕ
  pub parts : text ≡ before ++ rest
  pub blank : list_all test before ≡ true
  pub first : (b : ℕ) (bs : List ℕ) → rest ≡ b ∷ bs → test b ≡ false

same_head : (a b : ℕ) (xs ys : List ℕ) → a ∷ xs ≡ b ∷ ys → a ≡ b
same_head a b xs ys e = cc

cut_more : (test : ℕ → Bool) (x : ℕ) (xs rest : List ℕ) → test x ≡ true → IsCut test xs rest → IsCut test (x ∷ xs) rest
cut_more test x xs rest e h = record { before = x ∷ h.before; parts = ap (λ ys. x ∷ ys) h.parts; blank = rw (e, h.blank); first = h.first }

start_cut : (test : ℕ → Bool) (xs : List ℕ) → IsCut test xs (trim_start test xs)
unfolding trim_start
start_cut test [] = record { before = []; parts = refl; blank = refl; first = λ b bs e. absurd (cc) }
start_cut test (x ∷ xs) =
    elim (test x) as (λ t. test x ≡ t → IsCut test (x ∷ xs) (trim_start test (x ∷ xs))) [
      | true ↦ λ e. rw e (cut_more test x xs (trim_start test xs) e (start_cut test xs))
      | false ↦ λ e. rw e (record { before = []; parts = refl; blank = refl; first = λ b bs same. ap test (sym (same_head x b xs bs same)) ∙ e })
    ] refl

pub all_append : (test : ℕ → Bool) (xs ys : List ℕ) → list_all test xs ≡ true → list_all test ys ≡ true → list_all test (xs ++ ys) ≡ true
all_append test xs ys h k = rw (list_all-append test xs ys, h, k)

all_reverse : (test : ℕ → Bool) (xs : List ℕ) → list_all test xs ≡ true → list_all test (reverse xs) ≡ true
all_reverse test [] h = refl
all_reverse test (x ∷ xs) h =
    let parts : (test x ≡ true) × (list_all test xs ≡ true) = and_parts _ _ h in
    let one : list_all test (x ∷ []) ≡ true = rw parts.0 in
    let turned : reverse (x ∷ xs) ≡ reverse xs ++ x ∷ [] = reverse-append (x ∷ []) xs in
    rw turned (all_append test (reverse xs) (x ∷ []) (all_reverse test xs parts.1) one)

-- a text whose first byte is no blank, cut at its end
end_cut : (test : ℕ → Bool) (text before ys : List ℕ) → text ≡ before ++ ys → list_all test before ≡ true
    → ((b : ℕ) (bs : List ℕ) → ys ≡ b ∷ bs → test b ≡ false) → IsTrimmed test text (trim_end test ys)
end_cut test text before ys parts blank first =
    let cut = start_cut test (reverse ys) in
    let whole : ys ≡ trim_end test ys ++ reverse cut.before =
    sym (reverse-reverse ys) ∙ ap reverse cut.parts ∙ reverse-append cut.before (trim_start test (reverse ys)) in
    record {
      before = before;
      after = reverse cut.before;
      parts = parts ∙ ap (λ zs. before ++ zs) whole;
      passes_before = blank;
      passes_after = all_reverse test cut.before cut.blank;
      first = λ b bs e. first b (bs ++ reverse cut.before) (whole ∙ ap (λ zs. zs ++ reverse cut.before) e);
      last = λ b bs e. cut.first b (reverse bs) (sym (reverse-reverse (trim_start test (reverse ys))) ∙ ap reverse e ∙ reverse-append bs (b ∷ []));
    }

pub trim-IsTrimmed : (test : ℕ → Bool) (text : List ℕ) → IsTrimmed test text (trim test text)
trim-IsTrimmed test text = let cut = start_cut test text in end_cut test text cut.before (trim_start test text) cut.parts cut.blank cut.first
