-- The nearest and the last memento of a set: there is one, and only one.
use Rattle.std.proofs.Common.{◌≡◌, ◌≢◌, ℕ, ◌<◌, ◌≤◌, ◌⊎◌, inl, inr, true, false, cond, ◌||◌, List, [], ◌∷◌, Some, None, refl, sym, ap, ◌∙◌, arith}
use Rattle.std.specs.declared.cmp.Ordering.{Ordering}
use Rattle.std.specs.declared.cmp.Ordering.TheVariants.{Less, Equal, Greater}
use Rattle.std.specs.List.{list_any}
use Rattle.std.specs.Option.{MatchOption}
use Rattle.std.specs.Ordering.{nat_cmp, eq_by_cmp, is_gt, is_eq, ordering_then, ordering_reverse}
use Rattle.std.specs.Cmp.{IsTotalOrder, Equal-is, tied_itself, nat_cmp_total, on_total, then_total, back_total, upto}
use Rattle.std.specs.Cmp.Lexicographic.{nat_list_cmp_total}
use Rattle.std.specs.FinMap.{contains_key-keys, slice_cmp-IsAntisymmetric, nat_cmp-IsAntisymmetric}
use Rattle.std.proofs.lemmas.Bool.{true≢false}
use Rattle.std.proofs.lemmas.Cmp.{ranked}
use Rattle.memento_time.specs.Mementos.{text_cmp, memento_cmp}
use Rattle.memento_time.proofs.MementoLemmas.{memento_cmp_total, memento_cmp_exact}
use Rattle.memento_time.specs.declared.mementos.Memento.{Memento}
use Rattle.memento_sets.specs.Maps.{join_values}
use Rattle.memento_sets.specs.Sets as set
use Rattle.memento_sets.specs.MementoSets.{Mementos}
use Rattle.memento_index.specs.Choice.{distance, IsNearest, IsLast, nearness_cmp, recency_cmp, least_by, nearest, last}

abbrev Has : List Memento → Memento → Type 0
Has xs m = list_any (eq_by_cmp memento_cmp m) xs ≡ true

record IsLeast (cmp : Memento → Memento → Ordering) (xs : List Memento) (m : Memento) : Type 0 where
  held : Has xs m
  least : (n : Memento) → Has xs n → is_gt (cmp m n) ≡ false

itself : (m : Memento) → eq_by_cmp memento_cmp m m ≡ true
itself m = ap is_eq (tied_itself memento_cmp_total m)

has_cases : (x m : Memento) (xs : List Memento) → Has (x ∷ xs) m → (m ≡ x) ⊎ Has xs m
has_cases x m xs h =
    elim (eq_by_cmp memento_cmp m x) as (λ b. eq_by_cmp memento_cmp m x ≡ b → (b || list_any (eq_by_cmp memento_cmp m) xs) ≡ true → (m ≡ x) ⊎ Has xs m) [
      | true ↦ λ t _. inl (memento_cmp_exact m x ((Equal-is (memento_cmp m x)).0 t))
      | false ↦ λ _ rest. inr rest
    ] refl h

has_first : (x : Memento) (xs : List Memento) → Has (x ∷ xs) x
has_first x xs = ap (λ b. b || list_any (eq_by_cmp memento_cmp x) xs) (itself x)

has_rest : (x m : Memento) (xs : List Memento) → Has xs m → Has (x ∷ xs) m
has_rest x m xs h = elim (eq_by_cmp memento_cmp m x) as (λ b. (b || list_any (eq_by_cmp memento_cmp m) xs) ≡ true) [ true ↦ refl | false ↦ h ]

-- not greater the other way round
other_way : (o : Ordering) → is_gt o ≡ true → is_gt (ordering_reverse o) ≡ false
other_way Less h = absurd (true≢false (sym h))
other_way Equal h = refl
other_way Greater h = refl

module _ (cmp : Memento → Memento → Ordering) (o : IsTotalOrder cmp) where
  least_more : (x y : Memento) (xs : List Memento) → IsLeast cmp xs y → IsLeast cmp (x ∷ xs) (cond (is_gt (cmp x y)) y x)
  least_more x y xs least =
      elim (is_gt (cmp x y)) as (λ b. is_gt (cmp x y) ≡ b → IsLeast cmp (x ∷ xs) (cond b y x)) [
        | true ↦ λ t. record {
          held = has_rest x y xs least.held;
          least = λ n h. elim (has_cases x n xs h) [
            | inl same ↦ ap (λ z. is_gt (cmp y z)) same ∙ (ap is_gt (o.antisymm y x) ∙ other_way (cmp x y) t)
            | inr rest ↦ least.least n rest
          ];
        }
        | false ↦ λ t. record {
          held = has_first x xs;
          least = λ n h. elim (has_cases x n xs h) [
            | inl same ↦ ap (λ z. is_gt (cmp x z)) same ∙ ap is_gt (tied_itself o x)
            | inr rest ↦ upto o x y n t (least.least n rest)
          ];
        }
      ] refl

  least_is : (xs : List Memento) → MatchOption (least_by cmp xs) (xs ≡ []) (IsLeast cmp xs)
  least_is [] = refl
  least_is (x ∷ xs) =
      elim (least_by cmp xs) as (λ r. MatchOption r (xs ≡ []) (IsLeast cmp xs)
      → MatchOption (join_values (λ a b. cond (is_gt (cmp a b)) b a) (Some x) r) (x ∷ xs ≡ [])
      (IsLeast cmp (x ∷ xs))) [
        | None ↦ λ none. record {
          held = has_first x xs;
          least = λ n h. elim (has_cases x n xs h) [
            | inl same ↦ ap (λ z. is_gt (cmp x z)) same ∙ ap is_gt (tied_itself o x)
            | inr rest ↦ absurd (true≢false (sym rest ∙ ap (list_any (eq_by_cmp memento_cmp n)) none))
          ];
        }
        | Some y ↦ λ least. least_more x y xs least
      ] (least_is xs)

pub nearness_total : (t : ℕ) → IsTotalOrder (nearness_cmp t)
nearness_total t = then_total (on_total (distance t) nat_cmp_total) memento_cmp_total

pub recency_total : IsTotalOrder recency_cmp
recency_total = then_total (back_total (on_total (λ m. m.at) nat_cmp_total)) (on_total (λ m. m.uri) nat_list_cmp_total)

-- what two comparisons one after the other say, where the result is not `Greater`
not_greater : (a b : ℕ) (p q : Ordering) → q ≡ ordering_reverse p → is_gt (ordering_then (nat_cmp a b) p) ≡ false → (a < b) ⊎ ((a ≡ b) × (q ≢ Less))
not_greater a b p q turn h =
    elim (nat_cmp a b) as (λ o. nat_cmp a b ≡ o → is_gt (ordering_then o p) ≡ false → (a < b) ⊎ ((a ≡ b) × (q ≢ Less))) [
      | Less ↦ λ is _. inl (ranked a b Less (sym is))
      | Equal ↦ λ is not. inr (ranked a b Equal (sym is), λ less. absurd (true≢false (sym (ap is_gt (back p (sym turn ∙ less))) ∙ not)))
      | Greater ↦ λ is not. absurd (true≢false not)
    ] refl h
  where
    back : (p : Ordering) → ordering_reverse p ≡ Less → p ≡ Greater
    back Less e = sym e
    back Equal e = absurd (true≢false (sym (ap is_eq (sym e)) ∙ refl))
    back Greater e = refl

has_contains : (ms : Mementos) (m : Memento) → set.contains ms m ≡ true → Has (set.items ms) m
has_contains ms m h = sym (contains_key-keys ms m) ∙ h

contains_has : (ms : Mementos) (m : Memento) → Has (set.items ms) m → set.contains ms m ≡ true
contains_has ms m h = contains_key-keys ms m ∙ h

pub nearest-is : (ms : Mementos) (t : ℕ) → MatchOption (nearest ms t) (set.items ms ≡ []) (IsNearest ms t)
unfolding nearest
nearest-is ms t =
    elim (least_by (nearness_cmp t) (set.items ms)) as
    (λ r. MatchOption r (set.items ms ≡ []) (IsLeast (nearness_cmp t) (set.items ms))
    → MatchOption r (set.items ms ≡ []) (IsNearest ms t)) [
      | None ↦ λ none. none
      | Some m ↦ λ least. record {
        held = contains_has ms m least.held;
        nearest = λ n h. not_greater (distance t m) (distance t n) (memento_cmp m n) (memento_cmp n m)
            (memento_cmp_total.antisymm n m) (least.least n (has_contains ms n h));
      }
    ] (least_is (nearness_cmp t) (nearness_total t) (set.items ms))

pub last-is : (ms : Mementos) → MatchOption (last ms) (set.items ms ≡ []) (IsLast ms)
unfolding last
last-is ms =
    elim (least_by recency_cmp (set.items ms)) as
    (λ r. MatchOption r (set.items ms ≡ []) (IsLeast recency_cmp (set.items ms))
    → MatchOption r (set.items ms ≡ []) (IsLast ms)) [
      | None ↦ λ none. none
      | Some m ↦ λ least. record {
        held = contains_has ms m least.held;
        last = λ n h. later n.at m.at (not_greater n.at m.at (text_cmp m.uri n.uri) (text_cmp n.uri m.uri)
            (nat_list_cmp_total.antisymm n.uri m.uri) (least.least n (has_contains ms n h)));
      }
    ] (least_is recency_cmp recency_total (set.items ms))
  where
    later : {P : Type 0} (a b : ℕ) → (a < b) ⊎ ((a ≡ b) × P) → (a < b) ⊎ ((a ≡ b) × P)
    later a b h = h

-- neither less nor greater
tied : (o : Ordering) → o ≢ Less → ordering_reverse o ≢ Less → o ≡ Equal
tied Less a b = absurd (a refl)
tied Equal a b = refl
tied Greater a b = absurd (b refl)

pub nearest_once : (ms : Mementos) (t : ℕ) (m n : Memento) → IsNearest ms t m → IsNearest ms t n → m ≡ n
nearest_once ms t m n a b =
    elim (a.nearest n b.held) [
      | inl nearer ↦ elim (b.nearest m a.held) [ inl back ↦ absurd (omega arith) | inr same ↦ absurd (omega (arith, same.0)) ]
      | inr same ↦ elim (b.nearest m a.held) [
        | inl nearer ↦ absurd (omega (arith, same.0))
        | inr back ↦ memento_cmp_exact m n (tied (memento_cmp m n) back.1 (λ less. same.1 (memento_cmp_total.antisymm n m ∙ less)))
      ]
    ]

pub last_once : (ms : Mementos) (m n : Memento) → IsLast ms m → IsLast ms n → m ≡ n
last_once ms m n a b =
    elim (a.last n b.held) [
      | inl later ↦ elim (b.last m a.held) [ inl back ↦ absurd (omega arith) | inr same ↦ absurd (omega (arith, same.0)) ]
      | inr same ↦ elim (b.last m a.held) [
        | inl later ↦ absurd (omega (arith, same.0))
        | inr back ↦
            let uris = slice_cmp-IsAntisymmetric nat_cmp-IsAntisymmetric m.uri n.uri
            (tied (text_cmp m.uri n.uri) back.1 (λ less. same.1 (nat_list_cmp_total.antisymm n.uri m.uri ∙ less)))
            in
            λ i. record { at = sym same.0 i; uri = uris i }
      ]
    ]

-- where none is later than the moment, the nearest one is the last
nearest-last : (ms : Mementos) (t : ℕ) (m : Memento) → ((n : Memento) → set.contains ms n ≡ true → n.at ≤ t) → IsNearest ms t m → IsLast ms m
nearest-last ms t m none_later near = record {
  held = near.held;
  last = λ n h.
      let up_to_m = none_later m near.held in
      let up_to_n = none_later n h in
      elim (near.nearest n h) [
        | inl nearer ↦ inl (omega arith)
        | inr tie ↦
            let same : n.at ≡ m.at = omega (arith, tie.0) in
            inr (same, λ less. tie.1 (ap (λ o. ordering_then o (text_cmp n.uri m.uri)) (at_same n.at m.at same) ∙ less))
      ];
}
  where
    at_same : (a b : ℕ) → a ≡ b → nat_cmp a b ≡ Equal
    at_same a b same = ap (nat_cmp a) (sym same) ∙ tied_itself nat_cmp_total a

pub nearest_is_last : (ms : Mementos) (t : ℕ) → ((n : Memento) → set.contains ms n ≡ true → n.at ≤ t) → nearest ms t ≡ last ms
nearest_is_last ms t none_later =
    elim (nearest ms t) as (λ r. MatchOption r (set.items ms ≡ []) (IsNearest ms t) → r ≡ last ms) [
      | None ↦ λ none. elim (last ms) as (λ r. MatchOption r (set.items ms ≡ []) (IsLast ms) → None ≡ r) [
        | None ↦ λ _. refl
        | Some n ↦ λ some. absurd (true≢false (sym (has_contains ms n some.held) ∙ ap (list_any (eq_by_cmp memento_cmp n)) none))
      ] (last-is ms)
      | Some m ↦ λ near. elim (last ms) as (λ r. MatchOption r (set.items ms ≡ []) (IsLast ms) → Some m ≡ r) [
        | None ↦ λ none. absurd (true≢false (sym (has_contains ms m near.held) ∙ ap (list_any (eq_by_cmp memento_cmp m)) none))
        | Some n ↦ λ some. ap Some (last_once ms m n (nearest-last ms t m none_later near) some)
      ] (last-is ms)
    ] (nearest-is ms t)
