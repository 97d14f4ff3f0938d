use Rattle.std.proofs.lemmas.Slice.Eq.{slice_eq-Decides}
use Rattle.memento_sets.proofs.Same.{same_memento-Decides}
use Rattle.memento_sets.proofs.mementos.are_same.Goals as goal

pub returns : goal.returns
returns c = slice_eq-Decides same_memento-Decides c.args.left.now c.args.right.now c.eq.result c.eq.ensures
