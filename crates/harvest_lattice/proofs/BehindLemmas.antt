-- The rows behind a key, archive by archive.
use Rattle.std.proofs.Common.{◌≡◌, ℕ, Bool, true, false, cond, ◌&&◌, List, [], ◌∷◌, ◌++◌, Option, Some, None, refl, sym, ap, subst, ◌∙◌}
use Rattle.std.specs.declared.cmp.Ordering.{Ordering}
use Rattle.std.specs.declared.cmp.Ordering.TheVariants.{Less, Equal, Greater}
use Rattle.std.specs.declared.ops.Bound.TheVariants.{Excluded, Unbounded}
use Rattle.std.specs.List.{AllByRecursion, filter}
use Rattle.std.specs.List.Sorted.{IsStrictlySortedBy}
use Rattle.std.specs.Map.{lookup, keys_of}
use Rattle.std.specs.BTreeMap.{is_at}
use Rattle.std.specs.BTreeMap.Range.{entries_between}
use Rattle.std.specs.Ordering.{is_eq, is_lt, ordering_then}
use Rattle.std.specs.Cmp.{tied_itself}
use Rattle.std.specs.Option.{unwrap_or}
use Rattle.std.specs.Cmp.Lexicographic.{nat_list_cmp_total}
use Rattle.std.specs.FinMap as fmap
use Rattle.std.proofs.lemmas.List.Elements.{filter-append}
use Rattle.memento_time.specs.Mementos.{text_cmp}
use Rattle.harvest_lattice.specs.Lattice.{Key, key_cmp, Kept}
use Rattle.harvest_lattice.specs.Rows.{comes_behind, rows_behind}
use Rattle.harvest_lattice.specs.Shelves.{Shelved, shelf_rows, all_rows}
use Rattle.harvest_lattice.proofs.ShelfLemmas.{text_exact, none_after}

-- ---- ranges

and_true : (b : Bool) → (b && true) ≡ b
and_true true = refl
and_true false = refl

-- between no bounds lies all
pub between_none : {K X : Type 0} (R : K → K → Ordering) (es : List (K × X)) → entries_between R Unbounded Unbounded es ≡ es
between_none R [] = refl
between_none R (e ∷ es) = ap (λ l. e ∷ l) (between_none R es)

-- behind a key lies what is greater
pub between_behind : {K X : Type 0} (R : K → K → Ordering) (k : K) (es : List (K × X))
    → entries_between R (Excluded k) Unbounded es ≡ filter (λ e. is_lt (R k e.0)) es
between_behind R k [] = refl
between_behind R k (e ∷ es) =
    ap (λ b. cond b (e ∷ entries_between R (Excluded k) Unbounded es) (entries_between R (Excluded k) Unbounded es)) (and_true (is_lt (R k e.0)))
    ∙ ap (λ l. cond (is_lt (R k e.0)) (e ∷ l) l) (between_behind R k es)

-- ---- archive by archive

-- the rows of an archive, if it has a shelf, whose originals come behind this one
abbrev pub shelf_behind : List ℕ → Option Shelved → List ℕ → List (Key × Kept)
shelf_behind a None o = []
shelf_behind a (Some shelf) o = shelf_rows a (filter (λ e. is_lt (text_cmp o e.0)) (fmap.entries shelf))

lt_tie : (a o p : List ℕ) → comes_behind (a, o) (a, p) ≡ is_lt (text_cmp o p)
lt_tie a o p = ap (λ r. is_lt (ordering_then r (text_cmp o p))) (tied_itself nat_list_cmp_total a)

pushed : (b : Bool) (a : List ℕ) (e : List ℕ × Kept) (xs : List (Key × Kept)) (ys : List (List ℕ × Kept)) → xs ≡ shelf_rows a ys
    → cond b (((a, e.0), e.1) ∷ xs) xs ≡ shelf_rows a (cond b (e ∷ ys) ys)
pushed true a e xs ys is = ap (λ l. ((a, e.0), e.1) ∷ l) is
pushed false a e xs ys is = is

-- of the archive itself
own_behind : (a o : List ℕ) (es : List (List ℕ × Kept)) → rows_behind (a, o) (shelf_rows a es) ≡ shelf_rows a (filter (λ e. is_lt (text_cmp o e.0)) es)
own_behind a o [] = refl
own_behind a o (e ∷ es) =
    ap (λ b. cond b (((a, e.0), e.1) ∷ rows_behind (a, o) (shelf_rows a es)) (rows_behind (a, o) (shelf_rows a es))) (lt_tie a o e.0)
    ∙ pushed (is_lt (text_cmp o e.0)) a e (rows_behind (a, o) (shelf_rows a es)) (filter (λ x. is_lt (text_cmp o x.0)) es) (own_behind a o es)

-- all of a greater one
greater_behind : (a b o : List ℕ) (es : List (List ℕ × Kept)) → text_cmp a b ≡ Less → rows_behind (a, o) (shelf_rows b es) ≡ shelf_rows b es
greater_behind a b o [] h = refl
greater_behind a b o (e ∷ es) h =
    ap (λ r. cond (is_lt (ordering_then r (text_cmp o e.0))) (((b, e.0), e.1) ∷ rows_behind (a, o) (shelf_rows b es)) (rows_behind (a, o) (shelf_rows b es))) h
    ∙ ap (λ l. ((b, e.0), e.1) ∷ l) (greater_behind a b o es h)

-- none of a lesser one
lesser_behind : (a b o : List ℕ) (es : List (List ℕ × Kept)) → text_cmp a b ≡ Greater → rows_behind (a, o) (shelf_rows b es) ≡ []
lesser_behind a b o [] h = refl
lesser_behind a b o (e ∷ es) h =
    ap (λ r. cond (is_lt (ordering_then r (text_cmp o e.0))) (((b, e.0), e.1) ∷ rows_behind (a, o) (shelf_rows b es)) (rows_behind (a, o) (shelf_rows b es))) h
    ∙ lesser_behind a b o es h

less_than_all : (a b : List ℕ) (ks : List (List ℕ)) → text_cmp a b ≡ Less → AllByRecursion (λ c. text_cmp b c ≡ Less) ks → AllByRecursion (λ c. text_cmp a c ≡ Less) ks
less_than_all a b [] h all = tt
less_than_all a b (k ∷ ks) h all = (nat_list_cmp_total.trans a b k h all.0, less_than_all a b ks h all.1)

abbrev greater : List ℕ → List (List ℕ × Shelved) → List (List ℕ × Shelved)
greater a ss = filter (λ s. is_lt (text_cmp a s.0)) ss

abbrev behind_all : List ℕ → List ℕ → List (List ℕ × Shelved) → List (Key × Kept)
behind_all a o ss = shelf_behind a (lookup (is_at (text_cmp a)) ss) o ++ all_rows (greater a ss)

-- behind a key are the rest of its archive, and the archives behind that one
pub all_behind : (a o : List ℕ) (ss : List (List ℕ × Shelved)) → IsStrictlySortedBy text_cmp (keys_of ss) → rows_behind (a, o) (all_rows ss) ≡ behind_all a o ss
unfolding IsStrictlySortedBy
all_behind a o [] h = refl
all_behind a o (s ∷ ss) h =
    filter-append (λ (e : Key × Kept). comes_behind (a, o) e.0) (shelf_rows s.0 (fmap.entries s.1)) (all_rows ss)
    ∙ on (all_behind a o ss h.1) (text_cmp a s.0) refl
  where
    -- where the archive has no shelf among the others
    alone : rows_behind (a, o) (all_rows ss) ≡ behind_all a o ss → lookup (is_at (text_cmp a)) ss ≡ None → rows_behind (a, o) (all_rows ss) ≡ all_rows (greater a ss)
    alone rest none = rest ∙ ap (λ x. shelf_behind a x o ++ all_rows (greater a ss)) none

    on : rows_behind (a, o) (all_rows ss) ≡ behind_all a o ss → (r : Ordering) → text_cmp a s.0 ≡ r
        → rows_behind (a, o) (shelf_rows s.0 (fmap.entries s.1)) ++ rows_behind (a, o) (all_rows ss) ≡ behind_all a o (s ∷ ss)
    on rest Less e =
        let none = none_after a ss (less_than_all a s.0 (keys_of ss) e h.0) in
        (λ i. greater_behind a s.0 o (fmap.entries s.1) e i ++ alone rest none i)
        ∙ (λ i. shelf_behind a (cond (is_eq (sym e i)) (Some s.1) (sym none i)) o ++ all_rows (cond (is_lt (sym e i)) (s ∷ greater a ss) (greater a ss)))
    on rest Equal e =
        let here : a ≡ s.0 = text_exact a s.0 e in
        let none = none_after a ss (subst (λ b. AllByRecursion (λ c. text_cmp b c ≡ Less) (keys_of ss)) (sym here) h.0) in
        (λ i. rows_behind (a, o) (shelf_rows (sym here i) (fmap.entries s.1)) ++ alone rest none i)
        ∙ (ap (λ l. l ++ all_rows (greater a ss)) (own_behind a o (fmap.entries s.1))
        ∙ (λ i. shelf_behind a (cond (is_eq (sym e i)) (Some s.1) (lookup (is_at (text_cmp a)) ss)) o
        ++ all_rows (cond (is_lt (sym e i)) (s ∷ greater a ss) (greater a ss))))
    on rest Greater e =
        (λ i. lesser_behind a s.0 o (fmap.entries s.1) e i ++ rest i)
        ∙ (λ i. shelf_behind a (cond (is_eq (sym e i)) (Some s.1) (lookup (is_at (text_cmp a)) ss)) o
        ++ all_rows (cond (is_lt (sym e i)) (s ∷ greater a ss) (greater a ss)))

-- what is left of the archive, and then the archives behind it
pub behind_made : (a o : List ℕ) (ss rest : List (List ℕ × Shelved)) (shelf : Option (List (Key × Kept))) → IsStrictlySortedBy text_cmp (keys_of ss)
    → unwrap_or shelf [] ≡ shelf_behind a (lookup (is_at (text_cmp a)) ss) o → rest ≡ entries_between text_cmp (Excluded a) Unbounded ss
    → unwrap_or shelf [] ++ all_rows rest ≡ rows_behind (a, o) (all_rows ss)
behind_made a o ss rest shelf h own others =
    (λ i. own i ++ all_rows ((others ∙ between_behind text_cmp a ss) i)) ∙ sym (all_behind a o ss h)
