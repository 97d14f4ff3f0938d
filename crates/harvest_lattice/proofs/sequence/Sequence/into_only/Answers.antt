use Rattle.std.proofs.Common.{sym, ap, ◌∙◌}
use Rattle.harvest_lattice.specs.Parts.{kept_in}
use Rattle.harvest_lattice.proofs.WaitingParts.{alone_of_it}
use Rattle.harvest_lattice.proofs.sequence.Sequence.into_only.Goals as goal

pub returns : goal.returns
returns c =
    let e = c.self.inside in
    ap (kept_in e.is_whole e.first) (sym (alone_of_it e.is_whole e.first e.later c.args.self c.self.view_is c.self.invariant c.requires)) ∙ c.self.view_is
