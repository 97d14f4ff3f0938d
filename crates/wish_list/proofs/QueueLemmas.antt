-- Lists of wishes of which none is for the same original as another.
use Rattle.std.proofs.Common.{◌≡◌, ℕ, suc, zero, Bool, true, false, not, ◌&&◌, ◌||◌, List, [], ◌∷◌, ◌++◌, cond, refl, sym, ap, ◌∙◌}
use Rattle.std.specs.Prelude.{bytes_eq, filter, slice_get, slice_set, Some}
use Rattle.std.proofs.Math.Bool.{or-false}
use Rattle.std.proofs.lemmas.Bool.{and_parts, or_parts, true≢false, false_from_ne_true, not-true}
use Rattle.std.proofs.lemmas.Slice.Eq.{bytes_eq-Decides}
use Rattle.std.proofs.lemmas.List.Folds.{list_any-append}
use Rattle.wish_list.specs.declared.queue.Wish.{Wish}
use Rattle.wish_list.specs.Queue.{are_distinct, with_grant, is_of, stands}

-- two texts that differ do so in either order
apart : (x y : List ℕ) → bytes_eq y x ≡ false → bytes_eq x y ≡ false
apart x y h = false_from_ne_true (bytes_eq x y) (λ t. true≢false
    (sym ((bytes_eq-Decides y x).1 (sym ((bytes_eq-Decides x y).0 t))) ∙ h))

both_true : (a b : Bool) → a ≡ false → b ≡ true → (not a && b) ≡ true
both_true a b h k = ap (λ a. not a && b) h ∙ k

-- one whose original isn't wished for may be put behind the others
pub append_distinct : (ws : List Wish) (w : Wish) → are_distinct ws ≡ true → stands ws w.original ≡ false → are_distinct (ws ++ w ∷ []) ≡ true
append_distinct [] w h new = refl
append_distinct (x ∷ xs) w h new =
    let first = and_parts (not (stands xs x.original)) (are_distinct xs) h in
    let other = or_parts (bytes_eq w.original x.original) (stands xs w.original) new in
    both_true (stands (xs ++ w ∷ []) x.original) (are_distinct (xs ++ w ∷ []))
    (list_any-append (is_of x.original) xs (w ∷ [])
    ∙ (ap (λ b. b || (bytes_eq x.original w.original || false)) (not-true (stands xs x.original) first.0)
    ∙ (or-false (bytes_eq x.original w.original) ∙ apart x.original w.original other.0)))
    (append_distinct xs w first.1 other.1)

some_is : (x w : Wish) → Some x ≡ Some w → x ≡ w
some_is x w is = cc

-- whether a wish is granted doesn't matter
stands_same : (ws : List Wish) (k : ℕ) (w : Wish) (b : Bool) (o : List ℕ) → slice_get ws k ≡ Some w → stands (slice_set ws k (with_grant b w)) o ≡ stands ws o
stands_same [] k w b o is = refl
stands_same (x ∷ xs) zero w b o is = ap (λ (y : Wish). bytes_eq o y.original || stands xs o) (sym (some_is x w is))
stands_same (x ∷ xs) (suc k) w b o is = ap (λ (r : Bool). bytes_eq o x.original || r) (stands_same xs k w b o is)

are_same : (a b c d : Bool) → a ≡ c → b ≡ d → (not a && b) ≡ (not c && d)
are_same a b c d e f = ap (λ (r : Bool). not r && b) e ∙ ap (λ (r : Bool). not c && r) f

pub distinct_same : (ws : List Wish) (k : ℕ) (w : Wish) (b : Bool) → slice_get ws k ≡ Some w → are_distinct (slice_set ws k (with_grant b w)) ≡ are_distinct ws
distinct_same [] k w b is = refl
distinct_same (x ∷ xs) zero w b is = ap (λ (y : Wish). not (stands xs y.original) && are_distinct xs) (sym (some_is x w is))
distinct_same (x ∷ xs) (suc k) w b is =
    are_same (stands (slice_set xs k (with_grant b w)) x.original) (are_distinct (slice_set xs k (with_grant b w))) (stands xs x.original) (are_distinct xs)
    (stands_same xs k w b x.original is) (distinct_same xs k w b is)

either_false : (a b : Bool) → a ≡ false → b ≡ false → (a || b) ≡ false
either_false a b e f = ap (λ (r : Bool). r || b) e ∙ f

stands_less : (p : Wish → Bool) (ws : List Wish) (o : List ℕ) → stands ws o ≡ false → stands (filter p ws) o ≡ false
stands_less p [] o h = refl
stands_less p (x ∷ xs) o h =
    let parts = or_parts (bytes_eq o x.original) (stands xs o) h in
    let rest : stands (filter p xs) o ≡ false = stands_less p xs o parts.1 in
    elim (p x) as (λ b. stands (cond b (x ∷ filter p xs) (filter p xs)) o ≡ false) [
      | true ↦ either_false (bytes_eq o x.original) (stands (filter p xs) o) parts.0 rest
      | false ↦ rest
    ]

-- where some go, none stands twice
pub filter_distinct : (p : Wish → Bool) (ws : List Wish) → are_distinct ws ≡ true → are_distinct (filter p ws) ≡ true
filter_distinct p [] h = refl
filter_distinct p (x ∷ xs) h =
    let parts = and_parts (not (stands xs x.original)) (are_distinct xs) h in
    let rest : are_distinct (filter p xs) ≡ true = filter_distinct p xs parts.1 in
    elim (p x) as (λ b. are_distinct (cond b (x ∷ filter p xs) (filter p xs)) ≡ true) [
      | true ↦ both_true (stands (filter p xs) x.original) (are_distinct (filter p xs)) (stands_less p xs x.original (not-true (stands xs x.original) parts.0)) rest
      | false ↦ rest
    ]
