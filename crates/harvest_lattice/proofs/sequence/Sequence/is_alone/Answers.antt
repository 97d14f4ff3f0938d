use Rattle.harvest_lattice.proofs.WaitingParts.{alone_of_it, len_of_one}
use Rattle.harvest_lattice.proofs.sequence.Sequence.is_alone.Goals as goal

pub returns : goal.returns
returns c =
    let e = c.self.inside in (
      λ t. len_of_one e.is_whole e.first e.later c.args.self.now c.self.view_is c.self.invariant (c.is_empty.ensures.0 t),
      λ one. c.is_empty.ensures.1 (alone_of_it e.is_whole e.first e.later c.args.self.now c.self.view_is c.self.invariant one),
    )
