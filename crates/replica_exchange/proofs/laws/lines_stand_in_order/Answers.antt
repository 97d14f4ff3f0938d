use Rattle.std.specs.FinMap as map
use Rattle.std.specs.Ordering.{nat_cmp}
use Rattle.memento_time.specs.Mementos.{memento_cmp}
use Rattle.memento_sets.proofs.Sets.{items_sorted, keys_rise}
use Rattle.harvest_lattice.specs.Lattice.{key_cmp}
use Rattle.replica_exchange.proofs.laws.lines_stand_in_order.Goals as goal

pub returns-clause-entries : goal.returns-clause-entries
returns-clause-entries c = λ x. keys_rise key_cmp (map.entries x) (map.entries_sorted x)

pub returns-clause-revisions : goal.returns-clause-revisions
returns-clause-revisions c = λ kept. keys_rise nat_cmp (map.entries kept.revisions) (map.entries_sorted kept.revisions)

pub returns-clause-mementos : goal.returns-clause-mementos
returns-clause-mementos c = λ mementos. items_sorted memento_cmp mementos
