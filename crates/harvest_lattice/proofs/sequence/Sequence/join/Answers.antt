use Rattle.std.proofs.Common.{◌≡◌, ℕ, ◌<◌, ◌∷◌, ◌||◌, [], List, Bool, Option}
use Rattle.std.proofs.Common.{refl, sym, ap, subst, ◌∙◌, arith}
use Rattle.std.specs.Cmp.{ranked}
use Rattle.std.specs.Ordering.{nat_cmp}
use Rattle.std.specs.declared.cmp.Ordering.{Ordering}
use Rattle.std.specs.declared.cmp.Ordering.TheVariants.{Less, Equal, Greater}
use Rattle.std.proofs.lemmas.Result.{on_ok_weaker}
use Rattle.memento_sets.specs.MementoSets.{Mementos}
use Rattle.harvest_lattice.specs.Lattice.{Kept, whole, not_before}
use Rattle.harvest_lattice.specs.Parts.{PartsRise, kept_in, put_part}
use Rattle.harvest_lattice.proofs.Entries.{unite}
use Rattle.harvest_lattice.proofs.PartLists.{join_from_later}
use Rattle.harvest_lattice.proofs.WaitingParts.{older_joined, comes_first, comes_to_first, comes_behind, after_either}
use Rattle.harvest_lattice.proofs.sequence.Sequence.join.Goals as goal

-- what the test of the whole revision told
told : (m n : Kept) (b v : Bool) (w : Option ℕ) (q r : ℕ) → b ≡ not_before w q → w ≡ whole n → n ≡ m → q ≡ r → b ≡ v
    → not_before (whole m) r ≡ v
told m n b v w q r tests reads of_it at is =
    sym (tests ∙ (λ i. not_before ((reads ∙ ap (λ (k : Kept). whole k) of_it) i) (at i))) ∙ is

-- how the two revisions compare
lower : (a b m n : ℕ) (o : Ordering) → o ≡ nat_cmp a b → o ≡ Less → a ≡ m → b ≡ n → m < n
lower a b m n o compared is here there = let lt : a < b = ranked a b Less (sym (sym compared ∙ is)) in omega (arith, lt, here, there)

higher : (a b m n : ℕ) (o : Ordering) → o ≡ nat_cmp a b → o ≡ Greater → a ≡ m → b ≡ n → n < m
higher a b m n o compared is here there = let gt : b < a = ranked a b Greater (sym (sym compared ∙ is)) in omega (arith, gt, here, there)

pub returns-then-not-is_not_before-clause-ok : goal.returns-then-not-is_not_before-clause-ok
returns-then-not-is_not_before-clause-ok c =
    let w = c.args.is_whole in
    let p = c.args.part in
    let b = kept_in w p [] in
    older_joined w p c.args.self.now b refl
    (told _ _ _ _ _ _ _ c.is_not_before.ensures c.whole.ensures c.reading.ensures c.revision.ensures
    c.if-not-is_not_before.true)

pub invariant_of-self-in-Less : goal.invariant_of-self-in-Less
invariant_of-self-in-Less c =
    let e = c.self.inside in
    let w = c.args.is_whole in
    let p = c.args.part in
    let b = kept_in w p [] in
    let late = told _ _ _ _ _ _ _ c.is_not_before.ensures c.whole.ensures c.reading.ensures c.revision.ensures
    c.if-not-is_not_before.false in
    let lt : p.0 < e.first.0 = lower _ _ _ _ _ c.cmp.ensures c.in-Less.is c.revision-2.ensures c.revision-3.ensures in
    subst (λ (xs : List (ℕ × Mementos)). PartsRise (p ∷ xs))
    (sym (c.in_ok-insert-in-Less.ensures.ok ∙ ap (λ (q : ℕ × Mementos). q ∷ e.later) c.in_ok-next-in-Less.ensures))
    (comes_first e.is_whole w e.first p e.later c.args.self.now b c.self.view_is refl c.self.invariant late lt).0

pub returns-in_ok-insert-in-Less-clause-ok : goal.returns-in_ok-insert-in-Less-clause-ok
returns-in_ok-insert-in-Less-clause-ok c =
    let e = c.self.inside in
    let w = c.args.is_whole in
    let p = c.args.part in
    let b = kept_in w p [] in
    let late = told _ _ _ _ _ _ _ c.is_not_before.ensures c.whole.ensures c.reading.ensures c.revision.ensures
    c.if-not-is_not_before.false in
    let lt : p.0 < e.first.0 = lower _ _ _ _ _ c.cmp.ensures c.in-Less.is c.revision-2.ensures c.revision-3.ensures in
    ap (kept_in w p) (c.in_ok-insert-in-Less.ensures.ok ∙ ap (λ (q : ℕ × Mementos). q ∷ e.later) c.in_ok-next-in-Less.ensures)
    ∙ (comes_first e.is_whole w e.first p e.later c.args.self.now b c.self.view_is refl c.self.invariant late lt).1

pub returns-in_ok-absorb-in-Equal-clause-ok : goal.returns-in_ok-absorb-in-Equal-clause-ok
returns-in_ok-absorb-in-Equal-clause-ok c =
    let e = c.self.inside in
    let w = c.args.is_whole in
    let p = c.args.part in
    let b = kept_in w p [] in
    let same : p.0 ≡ e.first.0 = sym c.revision-2.ensures
    ∙ (ranked c.revision-2.result c.revision-3.result Equal (sym (sym c.cmp.ensures ∙ c.in-Equal.is))
    ∙ c.revision-3.ensures) in
    ap (λ (q : ℕ × Mementos). kept_in (e.is_whole || w) q e.later) (c.in_ok-absorb-in-Equal.ensures.ok
    ∙ (λ i. (e.first.0, unite e.first.1 (c.into_set.ensures i))))
    ∙ (comes_to_first e.is_whole w e.first p e.later c.args.self.now b c.self.view_is refl c.self.invariant same).1

pub invariant_of-self-then-is_whole : goal.invariant_of-self-then-is_whole
invariant_of-self-then-is_whole c =
    let e = c.self.inside in
    let w = c.args.is_whole in
    let p = c.args.part in
    let b = kept_in w p [] in
    let lt : e.first.0 < p.0 = higher _ _ _ _ _ c.cmp.ensures c.in-Greater.is c.revision-2.ensures c.revision-3.ensures in
    (join_from_later e.is_whole w e.first p e.later c.args.self.now b c.self.view_is refl c.self.invariant
    c.in_ok-latest-in-Greater.latest c.replace_older.new.self c.if-is_whole.true lt
    c.in_ok-latest-in-Greater.ensures.ok).0

pub returns-in_ok-latest-in-Greater-clause-ok : goal.returns-in_ok-latest-in-Greater-clause-ok
returns-in_ok-latest-in-Greater-clause-ok c =
    let e = c.self.inside in
    let w = c.args.is_whole in
    let p = c.args.part in
    let b = kept_in w p [] in
    let lt : e.first.0 < p.0 = higher _ _ _ _ _ c.cmp.ensures c.in-Greater.is c.revision-2.ensures c.revision-3.ensures in
    (join_from_later e.is_whole w e.first p e.later c.args.self.now b c.self.view_is refl c.self.invariant
    c.in_ok-latest-in-Greater.latest c.replace_older.new.self c.if-is_whole.true lt
    c.in_ok-latest-in-Greater.ensures.ok).1

pub invariant_of-self-in-Greater-2 : goal.invariant_of-self-in-Greater-2
invariant_of-self-in-Greater-2 c =
    let e = c.self.inside in
    let w = c.args.is_whole in
    let p = c.args.part in
    let b = kept_in w p [] in
    let lt : e.first.0 < p.0 = higher _ _ _ _ _ c.cmp.ensures c.in-Greater-2.is c.revision-2.ensures c.revision-3.ensures in
    after_either c.put.result (λ xs. PartsRise (e.first ∷ xs)) e.later (put_part e.later p) c.put.new.self c.put.ensures.ok c.put.ensures.err
    (comes_behind e.is_whole w e.first p e.later c.args.self.now b c.self.view_is refl c.self.invariant c.if-is_whole.false lt).0 c.self.invariant

pub returns-in-Greater-2-clause-ok : goal.returns-in-Greater-2-clause-ok
returns-in-Greater-2-clause-ok c =
    let e = c.self.inside in
    let w = c.args.is_whole in
    let p = c.args.part in
    let b = kept_in w p [] in
    let lt : e.first.0 < p.0 = higher _ _ _ _ _ c.cmp.ensures c.in-Greater-2.is c.revision-2.ensures c.revision-3.ensures in
    on_ok_weaker c.put.result (λ is. ap (kept_in e.is_whole e.first) is
    ∙ (comes_behind e.is_whole w e.first p e.later c.args.self.now b c.self.view_is refl c.self.invariant c.if-is_whole.false lt).1) c.put.ensures.ok
