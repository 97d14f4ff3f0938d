use Rattle.std.proofs.Common.{◌≡◌, ◌++◌, ◌∷◌, [], ◌||◌, List, length, reverse, sym, ap, subst, ◌∙◌, arith, append_assoc}
use Rattle.std.specs.List.{list_any}
use Rattle.std.specs.List.Sorted.{IsStrictlySortedBy}
use Rattle.std.specs.Ordering.{eq_by_cmp}
use Rattle.std.specs.Vec.Iter.{into_iter_items}
use Rattle.memento_time.specs.Mementos.{memento_cmp}
use Rattle.memento_time.specs.declared.mementos.Memento.{Memento}
use Rattle.memento_sets.proofs.UnitedLemmas.{up_to, back_in_order, chained, any_next}
use Rattle.memento_sets.proofs.mementos.merge.Goals as goal

pub pass-requires-clause-below : goal.pass-requires-clause-below
pass-requires-clause-below c =
    let m : Memento = c.in-Some.memento in
    up_to c.loop-memento.list.items m (into_iter_items c.next.new.self)
    (subst (λ (xs : List Memento). IsStrictlySortedBy memento_cmp (c.loop-memento.list.items ++ xs)) c.in-Some.ensures.steps.0
    c.loop-memento.invariant.rest)

pub loop-memento-preserved : goal.loop-memento-preserved
loop-memento-preserved c =
    let m : Memento = c.in-Some.memento in
    let before = c.loop-memento.list.items in
    let list = c.pass.new.list.items in
    let lifted = c.pass.new.lifted.items in
    let rest = into_iter_items c.next.new.self in
    let pushed : c.push_reserved.new.self.items ≡ list ++ m ∷ [] = c.push_reserved.ensures.items in
    let all : c.push_reserved.new.self.items ++ reverse lifted ≡ list ++ m ∷ reverse lifted =
    ap (λ (xs : List Memento). xs ++ reverse lifted) pushed ∙ append_assoc list (m ∷ []) (reverse lifted) in
    let behind : c.push_reserved.new.self.items ++ rest ≡ list ++ m ∷ rest = ap (λ (xs : List Memento). xs ++ rest) pushed ∙ append_assoc list (m ∷ []) rest in
    let was : IsStrictlySortedBy memento_cmp (before ++ m ∷ rest) = subst (λ (xs : List Memento). IsStrictlySortedBy memento_cmp (before ++ xs))
    c.in-Some.ensures.steps.0 c.loop-memento.invariant.rest in
    record {
      in_order = subst (λ (xs : List Memento). IsStrictlySortedBy memento_cmp xs) (sym all) c.pass.ensures.in_order;
      rest = subst (λ (xs : List Memento). IsStrictlySortedBy memento_cmp xs) (sym behind)
          (chained list m rest (up_to list m (reverse lifted) c.pass.ensures.in_order) (back_in_order before (m ∷ rest) was));
      members = λ q.
          any_next (eq_by_cmp memento_cmp q) m (list_any (eq_by_cmp memento_cmp q) (c.push_reserved.new.self.items ++ reverse lifted))
          (list_any (eq_by_cmp memento_cmp q) (before ++ reverse c.loop-memento.lifted.items)) rest
          (ap (λ (xs : List Memento). list_any (eq_by_cmp memento_cmp q) xs) all ∙ c.pass.ensures.members q)
          ∙ (ap (λ (xs : List Memento). list_any (eq_by_cmp memento_cmp q) (before ++ reverse c.loop-memento.lifted.items)
          || list_any (eq_by_cmp memento_cmp q) xs) (sym c.in-Some.ensures.steps.0) ∙ c.loop-memento.invariant.members q);
      count = omega (arith, c.in-Some.ensures.steps.1, ap (λ (xs : List Memento). length xs) c.in-Some.ensures.steps.0, c.loop-memento.invariant.count);
      room = omega (
        arith,
        c.in-Some.ensures.steps.1,
        c.pass.ensures.len,
        c.pass.ensures.capacity,
        c.push_reserved.ensures.len,
        c.push_reserved.ensures.capacity,
        c.loop-memento.invariant.room,
      );
    }
