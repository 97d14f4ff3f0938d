use Rattle.memento_sets.proofs.Searched.{front_of_found, front_of_gap}
use Rattle.memento_sets.proofs.mementos.count_below.Goals as goal

pub returns-in-Ok-clause-below : goal.returns-in-Ok-clause-below
returns-in-Ok-clause-below c = front_of_found c.args.list.now c.args.memento.now c.in-Ok.at c.requires c.in-Ok.ensures.bound c.in-Ok.ensures.position

pub returns-in-Err-clause-below : goal.returns-in-Err-clause-below
returns-in-Err-clause-below c = front_of_gap c.args.list.now c.args.memento.now c.in-Err.at c.requires c.in-Err.ensures.position
