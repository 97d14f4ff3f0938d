-- What `tabulate` and `join_by` have at a key.
use Rattle.std.proofs.Common.{◌≡◌, Bool, true, false, cond, ◌||◌, ◌++◌, List, [], ◌∷◌, Option, Some, None, is_some, refl, sym, ap, ◌∙◌}
use Rattle.std.specs.declared.cmp.Ordering.{Ordering}
use Rattle.std.specs.List.{list_any}
use Rattle.std.specs.Ordering.{eq_by_cmp}
use Rattle.std.specs.Cmp.{IsTotalOrder, Equal-is}
use Rattle.std.specs.FinMap.{FinMap, IsAntisymmetric, get, keys, get-empty, get-insert, contains_key-keys, same_map}
use Rattle.std.proofs.lemmas.List.Folds.{list_any-append}
use Rattle.memento_sets.specs.Maps.{join_values, insert_some, tabulate, join_by}
use Rattle.memento_sets.proofs.Semilattice.{IsSemilattice, values_semilattice}

kept : {V : Type 0} (b any : Bool) (g x : Option V) → g ≡ cond any x None → (b ≡ true → x ≡ None) → g ≡ cond (b || any) x None
kept false any g x e h = e
kept true false g x e h = e ∙ sym (h refl)
kept true true g x e h = e

put : {V : Type 0} (b any : Bool) (g x : Option V) (v : V) → g ≡ cond any x None → (b ≡ true → x ≡ Some v) → cond b (Some v) g ≡ cond (b || any) x None
put true any g x v e h = sym (h refl)
put false any g x v e h = e

either : {V : Type 0} (f : V → V → V) (a b : Option V) → cond (is_some a || is_some b) (join_values f a b) None ≡ join_values f a b
either f None None = refl
either f None (Some b) = refl
either f (Some a) None = refl
either f (Some a) (Some b) = refl

module _ {K V : Type 0} {R : K → K → Ordering} (o : IsTotalOrder R) (same : IsAntisymmetric R) where
  tabulate_more : (m : FinMap R V) (k : K) (f : K → Option V) (q : K) (any : Bool) → get m q ≡ cond any (f q) None
      → get (insert_some m k (f k)) q ≡ cond (eq_by_cmp R q k || any) (f q) None
  tabulate_more m k f q any e =
      let at : eq_by_cmp R q k ≡ true → f q ≡ f k = λ t. ap f (same q k ((Equal-is (R q k)).0 t)) in
      elim (f k) as (λ v. f q ≡ f q → (eq_by_cmp R q k ≡ true → f q ≡ v) → get (insert_some m k v) q ≡ cond (eq_by_cmp R q k || any) (f q) None) [
        | None ↦ λ _ h. kept (eq_by_cmp R q k) any (get m q) (f q) e h
        | Some v ↦ λ _ h. get-insert o m k v q ∙ put (eq_by_cmp R q k) any (get m q) (f q) v e h
      ] refl at

  pub get-tabulate : (ks : List K) (f : K → Option V) (q : K) → get (tabulate {R = R} ks f) q ≡ cond (list_any (eq_by_cmp R q) ks) (f q) None
  get-tabulate [] f q = get-empty R q
  get-tabulate (k ∷ ks) f q = tabulate_more (tabulate ks f) k f q (list_any (eq_by_cmp R q) ks) (get-tabulate ks f q)

  pub get-join_by : (f : V → V → V) (x y : FinMap R V) (q : K) → get (join_by f x y) q ≡ join_values f (get x q) (get y q)
  unfolding join_by
  get-join_by f x y q =
      let both : list_any (eq_by_cmp R q) (keys x ++ keys y) ≡ (is_some (get x q) || is_some (get y q)) =
      list_any-append (eq_by_cmp R q) (keys x) (keys y) ∙ (λ i. sym (contains_key-keys x q) i || sym (contains_key-keys y q) i) in
      get-tabulate (keys x ++ keys y) (λ k. join_values f (get x k) (get y k)) q
      ∙ (ap (λ b. cond b (join_values f (get x q) (get y q)) None) both ∙ either f (get x q) (get y q))

  module _ (f : V → V → V) (s : IsSemilattice f) where
    by_get : (x y : FinMap R V) → ((q : K) → get x q ≡ get y q) → x ≡ y
    by_get x y h = same_map o same x y h

    joined : (x y : FinMap R V) (q : K) → get (join_by f x y) q ≡ join_values f (get x q) (get y q)
    joined x y q = get-join_by f x y q

    pub maps_semilattice : IsSemilattice (join_by {R = R} f)
    maps_semilattice =
        let v = values_semilattice s in
        record {
          assoc = λ x y z. by_get _ _ (λ q.
              joined (join_by f x y) z q ∙ (ap (λ w. join_values f w (get z q)) (joined x y q) ∙ (v.assoc (get x q) (get y q) (get z q)
              ∙ (ap (join_values f (get x q)) (sym (joined y z q)) ∙ sym (joined x (join_by f y z) q)))));
          comm = λ x y. by_get _ _ (λ q. joined x y q ∙ (v.comm (get x q) (get y q) ∙ sym (joined y x q)));
          idem = λ x. by_get _ _ (λ q. joined x x q ∙ v.idem (get x q));
        }
