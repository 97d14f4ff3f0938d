use Rattle.memento_time.proofs.MementoLemmas.{memento_cmp_total, memento_cmp_exact}
use Rattle.memento_time.proofs.laws.mementos_are_ordered.Goals as goal

pub returns-clause-total : goal.returns-clause-total
returns-clause-total c = memento_cmp_total

pub returns-clause-exact : goal.returns-clause-exact
returns-clause-exact c = memento_cmp_exact
