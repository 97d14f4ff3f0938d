use Rattle.std.proofs.Common.{◌≡◌, ◌++◌, ◌∷◌, [], ◌||◌, List, reverse, sym, ap, subst, ◌∙◌, arith, append_assoc}
use Rattle.std.specs.declared.cmp.Ordering.TheVariants.{Less}
use Rattle.std.specs.List.{list_any}
use Rattle.std.specs.List.Sorted.{IsStrictlySortedBy}
use Rattle.std.specs.Ordering.{eq_by_cmp}
use Rattle.memento_time.specs.Mementos.{memento_cmp}
use Rattle.memento_time.proofs.MementoLemmas.{memento_cmp_exact}
use Rattle.memento_time.specs.declared.mementos.Memento.{Memento}
use Rattle.memento_sets.proofs.Searched.{less}
use Rattle.memento_sets.proofs.UnitedLemmas.{up_to, back_in_order, chained, pair_in_order, lesser_first, any_again, next_first}
use Rattle.memento_sets.proofs.mementos.pass.Goals as goal

-- the list and what is lifted, of which the next stands in front
whole : (list lifted rest all : List Memento) (next : Memento) → lifted ≡ rest ++ next ∷ [] → list ++ reverse lifted ≡ all → list ++ next ∷ reverse rest ≡ all
whole list lifted rest all next is so_far = ap (λ (xs : List Memento). list ++ xs) (sym (next_first rest next lifted is)) ∙ so_far

pub loop-next-preserved : goal.loop-next-preserved
loop-next-preserved c =
    let m = c.args.memento.now in
    let next : Memento = c.in-Some.next in
    let list = c.loop-next.list.items in
    let rest = c.pop.new.self.items in
    let all = c.args.list.now.items ++ reverse c.args.lifted.now.items in
    let is : list ++ next ∷ reverse rest ≡ all = whole list c.loop-next.lifted.items rest all next c.in-Some.ensures.items c.loop-next.invariant.whole in
    let lt : memento_cmp next m ≡ Less = sym c.cmp.ensures ∙ c.in-Less.is in
    let in_order : IsStrictlySortedBy memento_cmp (list ++ next ∷ reverse rest) =
    subst (λ (xs : List Memento). IsStrictlySortedBy memento_cmp xs) (sym is) c.requires.in_order in
    let before : IsStrictlySortedBy memento_cmp (list ++ next ∷ m ∷ []) =
    chained list next (m ∷ []) (up_to list next (reverse rest) in_order) (pair_in_order next m lt) in
    let pushed : c.push_reserved.new.self.items ≡ list ++ next ∷ [] = c.push_reserved.ensures.items in
    record {
      whole = ap (λ (xs : List Memento). xs ++ reverse rest) pushed ∙ (append_assoc list (next ∷ []) (reverse rest) ∙ is);
      below = subst (λ (xs : List Memento). IsStrictlySortedBy memento_cmp xs)
          (sym (ap (λ (xs : List Memento). xs ++ m ∷ []) pushed ∙ append_assoc list (next ∷ []) (m ∷ []))) before;
      room = omega (arith, c.in-Some.ensures.cases, c.push_reserved.ensures.len, c.push_reserved.ensures.capacity, c.loop-next.invariant.room);
      len = omega (arith, c.in-Some.ensures.cases, c.push_reserved.ensures.len, c.loop-next.invariant.len);
      capacity = omega (arith, c.push_reserved.ensures.capacity, c.loop-next.invariant.capacity);
    }

pub returns-in-Equal-clause-in_order : goal.returns-in-Equal-clause-in_order
returns-in-Equal-clause-in_order c =
    let next : Memento = c.in-Some.next in
    let list = c.loop-next.list.items in
    let rest = c.pop.new.self.items in
    let all = c.args.list.now.items ++ reverse c.args.lifted.now.items in
    let is : list ++ next ∷ reverse rest ≡ all = whole list c.loop-next.lifted.items rest all next c.in-Some.ensures.items c.loop-next.invariant.whole in
    let same : next ≡ c.args.memento.now = memento_cmp_exact next c.args.memento.now (sym c.cmp.ensures ∙ c.in-Equal.is) in
    subst (λ (n : Memento). IsStrictlySortedBy memento_cmp (list ++ n ∷ reverse rest)) same
    (subst (λ (xs : List Memento). IsStrictlySortedBy memento_cmp xs) (sym is) c.requires.in_order)

pub returns-in-Equal-clause-members : goal.returns-in-Equal-clause-members
returns-in-Equal-clause-members c m =
    let next : Memento = c.in-Some.next in
    let list = c.loop-next.list.items in
    let rest = c.pop.new.self.items in
    let all = c.args.list.now.items ++ reverse c.args.lifted.now.items in
    let is : list ++ next ∷ reverse rest ≡ all = whole list c.loop-next.lifted.items rest all next c.in-Some.ensures.items c.loop-next.invariant.whole in
    let same : next ≡ c.args.memento.now = memento_cmp_exact next c.args.memento.now (sym c.cmp.ensures ∙ c.in-Equal.is) in
    any_again (eq_by_cmp memento_cmp m) list c.args.memento.now (reverse rest)
    ∙ ap (λ (xs : List Memento). eq_by_cmp memento_cmp m c.args.memento.now || list_any (eq_by_cmp memento_cmp m) xs)
    (ap (λ (n : Memento). list ++ n ∷ reverse rest) (sym same) ∙ is)

pub returns-in-Greater-clause-in_order : goal.returns-in-Greater-clause-in_order
returns-in-Greater-clause-in_order c =
    let m = c.args.memento.now in
    let next : Memento = c.in-Some.next in
    let list = c.loop-next.list.items in
    let rest = c.pop.new.self.items in
    let all = c.args.list.now.items ++ reverse c.args.lifted.now.items in
    let is : list ++ next ∷ reverse rest ≡ all = whole list c.loop-next.lifted.items rest all next c.in-Some.ensures.items c.loop-next.invariant.whole in
    let in_order : IsStrictlySortedBy memento_cmp (list ++ next ∷ reverse rest) =
    subst (λ (xs : List Memento). IsStrictlySortedBy memento_cmp xs) (sym is) c.requires.in_order in
    let lt : memento_cmp m next ≡ Less = less next m (sym c.cmp.ensures ∙ c.in-Greater.is) in
    let both : IsStrictlySortedBy memento_cmp (list ++ m ∷ next ∷ reverse rest) = chained list m (next ∷ reverse rest) c.loop-next.invariant.below
    (lesser_first m next (reverse rest) lt (back_in_order list (next ∷ reverse rest) in_order)) in
    subst (λ (xs : List Memento). IsStrictlySortedBy memento_cmp (list ++ m ∷ xs))
    (sym (next_first rest next c.push_reserved-in-Greater.new.self.items c.push_reserved-in-Greater.ensures.items))
    both
