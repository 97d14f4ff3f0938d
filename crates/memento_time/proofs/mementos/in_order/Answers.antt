use Rattle.std.proofs.lemmas.List.Filters.{dedup_is}
use Rattle.std.proofs.lemmas.List.Kept.{IsStrictlySortedBy-dedup, Contains-dedup, Contains-from_dedup}
use Rattle.std.proofs.lemmas.List.Sorted.{Contains-permutation, IsPermutation-sym}
use Rattle.memento_time.specs.contracts.mementos.MementoEq.TheImpl.Laws.{laws-law}
use Rattle.memento_time.specs.contracts.mementos.MementoOrd.TheImpl.Laws.{matches_eq-law, total-law}
use Rattle.memento_time.proofs.SetLemmas.{same_memento}
use Rattle.memento_time.proofs.mementos.in_order.Goals as goal

pub returns-then-not-rise : goal.returns-then-not-rise
returns-then-not-rise c =
    let is = dedup_is _ _ _ c.dedup.ensures.filtered in
    let moved = c.sort_unstable.ensures.permutation in
    rw is (record {
      sorted = IsStrictlySortedBy-dedup total-law matches_eq-law _ c.sort_unstable.ensures.sorted;
      same = λ m. (
        (λ h. Contains-permutation _ _ m (IsPermutation-sym _ _ moved) (Contains-from_dedup _ _ m h)),
        (λ h. Contains-dedup laws-law same_memento _ m (Contains-permutation _ _ m moved h)),
      );
    })
