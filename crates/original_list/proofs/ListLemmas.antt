-- Lists in which each original stands once.
use Rattle.std.proofs.Common.{◌≡◌, ℕ, Bool, true, false, not, ◌&&◌, ◌||◌, List, [], ◌∷◌, ◌++◌, refl, sym, ap, ◌∙◌, append_assoc, append-nil}
use Rattle.std.specs.Prelude.{bytes_eq, if◌then◌else◌}
use Rattle.std.proofs.lemmas.Bool.{true≢false}
use Rattle.std.proofs.lemmas.Slice.Eq.{bytes_eq-Decides}
use Rattle.std.proofs.lemmas.List.Folds.{list_any-append}
use Rattle.original_sets.specs.Sets.{stands}
use Rattle.original_list.specs.Lists.{AreEachOnce, are_distinct, each_once, new_after, unless_before}

abbrev Texts : Type 0
Texts = List (List ℕ)

pub stands-append : (xs ys : Texts) (o : List ℕ) → stands (xs ++ ys) o ≡ (stands xs o || stands ys o)
stands-append xs ys o = list_any-append (bytes_eq o) xs ys

-- one more
pub new_after-more : (before xs : Texts) (x : List ℕ) → new_after before (xs ++ x ∷ []) ≡ new_after before xs ++ unless_before (before ++ xs) x
new_after-more before [] x =
    append-nil (unless_before before x) ∙ ap (λ (b : Texts). unless_before b x) (sym (append-nil before))
new_after-more before (y ∷ ys) x =
    ap (λ (r : Texts). unless_before before y ++ r) (new_after-more (before ++ y ∷ []) ys x)
    ∙ (ap (λ (b : Texts). unless_before before y ++ (new_after (before ++ y ∷ []) ys ++ unless_before b x)) (append_assoc before (y ∷ []) ys)
    ∙ sym (append_assoc (unless_before before y) (new_after (before ++ y ∷ []) ys) (unless_before (before ++ y ∷ ys) x)))

pub once-more : (xs : Texts) (x : List ℕ) → each_once (xs ++ x ∷ []) ≡ each_once xs ++ unless_before xs x
once-more xs x = new_after-more [] xs x

pub new_after-append : (before xs ys : Texts) → new_after before (xs ++ ys) ≡ new_after before xs ++ new_after (before ++ xs) ys
new_after-append before [] ys = ap (λ (b : Texts). new_after b ys) (sym (append-nil before))
new_after-append before (x ∷ xs) ys =
    ap (λ (r : Texts). unless_before before x ++ r) (new_after-append (before ++ x ∷ []) xs ys)
    ∙ (ap (λ (b : Texts). unless_before before x ++ (new_after (before ++ x ∷ []) xs ++ new_after b ys)) (append_assoc before (x ∷ []) xs)
    ∙ sym (append_assoc (unless_before before x) (new_after (before ++ x ∷ []) xs) (new_after (before ++ x ∷ xs) ys)))

-- an original stands among those that are left where it is this one and didn't stand before
left : (q : Bool) (x o : List ℕ) → stands (if q then [] else x ∷ []) o ≡ (if q then false else (bytes_eq o x || false))
left true x o = refl
left false x o = refl

-- by what stands before (p that original, q this one), whether they are the same, and what follows
joined : (p q e r : Bool) → (e ≡ true → p ≡ q) → ((if q then false else (e || false)) || (not (p || (e || false)) && r)) ≡ (not p && (e || r))
joined true true true r h = refl
joined false false true r h = refl
joined true false true r h = absurd (true≢false (h refl))
joined false true true r h = absurd (true≢false (sym (h refl)))
joined true true false r h = refl
joined true false false r h = refl
joined false true false r h = refl
joined false false false r h = refl

nothing : (p : Bool) → false ≡ (not p && false)
nothing true = refl
nothing false = refl

pub stands-new_after : (before xs : Texts) (o : List ℕ) → stands (new_after before xs) o ≡ (not (stands before o) && stands xs o)
stands-new_after before [] o = nothing (stands before o)
stands-new_after before (x ∷ xs) o =
    let same : bytes_eq o x ≡ true → stands before o ≡ stands before x = λ e. ap (λ (t : List ℕ). stands before t) ((bytes_eq-Decides o x).0 e) in
    stands-append (unless_before before x) (new_after (before ++ x ∷ []) xs) o
    ∙ (ap (λ (b : Bool). b || stands (new_after (before ++ x ∷ []) xs) o) (left (stands before x) x o)
    ∙ (ap (λ (b : Bool). (if stands before x then false else (bytes_eq o x || false)) || b) (stands-new_after (before ++ x ∷ []) xs o)
    ∙ (ap (λ (b : Bool). (if stands before x then false else (bytes_eq o x || false)) || (not b && stands xs o)) (stands-append before (x ∷ []) o)
    ∙ joined (stands before o) (stands before x) (bytes_eq o x) (stands xs o) same)))

or-true : (b : Bool) → (b || true) ≡ true
or-true true = refl
or-true false = refl

-- one that stands before is not left
gone : (before xs : Texts) (x : List ℕ) → stands (new_after (before ++ x ∷ []) xs) x ≡ false
gone before xs x =
    let there : stands (before ++ x ∷ []) x ≡ true = stands-append before (x ∷ []) x
    ∙ (ap (λ (b : Bool). stands before x || (b || false)) ((bytes_eq-Decides x x).1 refl) ∙ or-true (stands before x)) in
    stands-new_after (before ++ x ∷ []) xs x ∙ ap (λ (b : Bool). not b && stands xs x) there

distinct-new_after : (before xs : Texts) → are_distinct (new_after before xs) ≡ true
distinct-new_after before [] = refl
distinct-new_after before (x ∷ xs) =
    let rest : are_distinct (new_after (before ++ x ∷ []) xs) ≡ true = distinct-new_after (before ++ x ∷ []) xs in
    elim (stands before x) as (λ q. are_distinct ((if q then [] else x ∷ []) ++ new_after (before ++ x ∷ []) xs) ≡ true) [
      | true ↦ rest
      | false ↦ ap (λ (b : Bool). not b && are_distinct (new_after (before ++ x ∷ []) xs)) (gone before xs x) ∙ rest
    ]

pub stand_once : AreEachOnce
stand_once = record {
  same = λ originals original. stands-new_after [] originals original;
  distinct = λ originals. distinct-new_after [] originals;
  ordered = λ front back. new_after-append [] front back;
}

-- what stands before matters by what is in it alone
pub new_after-same : (a b xs : Texts) → ((o : List ℕ) → stands a o ≡ stands b o) → new_after a xs ≡ new_after b xs
new_after-same a b [] same = refl
new_after-same a b (x ∷ xs) same =
    ap (λ (t : Bool). (if t then [] else x ∷ []) ++ new_after (a ++ x ∷ []) xs) (same x)
    ∙ ap (λ (r : Texts). unless_before b x ++ r) (new_after-same (a ++ x ∷ []) (b ++ x ∷ []) xs
    (λ o. stands-append a (x ∷ []) o ∙ (ap (λ (t : Bool). t || stands (x ∷ []) o) (same o) ∙ sym (stands-append b (x ∷ []) o))))

order : (e a b : Bool) → (e || (a || b)) ≡ (a || (b || (e || false)))
order true true b = refl
order true false true = refl
order true false false = refl
order false true b = refl
order false false true = refl
order false false false = refl

-- one original more of those that are added
pub seen_more : (first seen new done : Texts) (x o : List ℕ) → stands new o ≡ (bytes_eq o x || stands seen o) → stands seen o ≡ (stands first o || stands done o)
    → stands new o ≡ (stands first o || stands (done ++ x ∷ []) o)
seen_more first seen new done x o now before =
    now ∙ (ap (λ (b : Bool). bytes_eq o x || b) before ∙ (order (bytes_eq o x) (stands first o) (stands done o)
    ∙ ap (λ (b : Bool). stands first o || b) (sym (stands-append done (x ∷ []) o))))

pub list_more : (start list new first seen done : Texts) (x : List ℕ) → list ≡ start ++ new_after first done → new ≡ list ++ unless_before seen x
    → stands seen x ≡ (stands first x || stands done x) → new ≡ start ++ new_after first (done ++ x ∷ [])
list_more start list new first seen done x before now is =
    let known : stands seen x ≡ stands (first ++ done) x = is ∙ sym (stands-append first done x) in
    now ∙ (ap (λ (ys : Texts). ys ++ unless_before seen x) before
    ∙ (append_assoc start (new_after first done) (unless_before seen x)
    ∙ ap (λ (ys : Texts). start ++ ys) (ap (λ (b : Bool). new_after first done ++ (if b then [] else x ∷ [])) known ∙ sym (new_after-more first done x))))
