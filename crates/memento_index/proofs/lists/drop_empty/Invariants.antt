use Rattle.std.proofs.Common.{◌≡◌, ℕ, List, IsSome}
use Rattle.std.specs.BTreeMap as tree
use Rattle.memento_time.specs.Mementos.{text_cmp}
use Rattle.memento_index.specs.Lists.{IsListed, tally_of}
use Rattle.memento_index.proofs.ListLemmas.{IsListedOr}
use Rattle.memento_index.proofs.lists.drop_empty.Given as goal

abbrev pub invariant-loop-original : goal.invariant-loop-original
invariant-loop-original l = record {
  gone : (o : List ℕ) → IsSome (tree.get text_cmp l.all o) → IsListedOr l.original-iterator l.lists o;
  tallies : (o : List ℕ) → tally_of l.lists o ≡ tally_of l.initial.lists o;
  listed : (o : List ℕ) → IsListed (tree.get text_cmp l.initial.lists o) → tree.get text_cmp l.lists o ≡ tree.get text_cmp l.initial.lists o;
}
