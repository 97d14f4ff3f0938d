use Rattle.std.proofs.Common.{sym}
use Rattle.harvest_lattice.proofs.Parts.{len_of_it}
use Rattle.harvest_lattice.proofs.reading.Reading.revisions.Goals as goal

pub returns : goal.returns
returns c =
    let e = c.self.inside in
    sym (len_of_it e.is_whole e.first.now e.later.now c.args.self.now c.self.view_is c.self.invariant)
