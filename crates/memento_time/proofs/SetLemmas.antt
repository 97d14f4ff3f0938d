-- Mementos that `==` counts as one are one.
use Rattle.std.proofs.Common.{◌≡◌, true, sym, ◌∙◌}
use Rattle.std.specs.Cmp.{Equal-is}
use Rattle.memento_time.specs.declared.mementos.Memento.{Memento}
use Rattle.memento_time.specs.Mementos.{memento_cmp}
use Rattle.memento_time.specs.contracts.mementos.MementoOrd.TheImpl.Laws.{matches_eq-law}
use Rattle.memento_time.specs.contracts.mementos.MementoPartialEq.TheImpl.{ghosts}
use Rattle.memento_time.proofs.MementoLemmas.{memento_cmp_exact}

pub same_memento : (a b : Memento) → ghosts.eq a b ≡ true → a ≡ b
same_memento a b e = memento_cmp_exact a b ((Equal-is (memento_cmp a b)).0 (sym (matches_eq-law a b) ∙ e))
