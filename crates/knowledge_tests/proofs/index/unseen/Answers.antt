use Rattle.std.proofs.Common.{List, sym, ap, subst, ◌∙◌}
use Rattle.std.specs.List.Sorted.{IsStrictlySortedBy}
use Rattle.memento_time.specs.Mementos.{memento_cmp}
use Rattle.memento_time.specs.declared.mementos.Memento.{Memento}
use Rattle.memento_sets.proofs.Sets.{items_sorted}
use Rattle.harvest_lattice.specs.Knowledge.{shown_of}
use Rattle.memento_index.specs.Probes.{Lent}
use Rattle.knowledge_tests.proofs.index.unseen.Goals as goal

pub returns-clause-in_order : goal.returns-clause-in_order
returns-clause-in_order c = subst (λ (ms : List Memento). IsStrictlySortedBy memento_cmp ms)
    (sym (ap (λ (l : Lent). l.list) c.new.ensures ∙ c.list.ensures.list)) (items_sorted memento_cmp (shown_of c.args.index.now c.args.original.now))
