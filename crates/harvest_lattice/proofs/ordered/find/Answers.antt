use Rattle.std.proofs.Common.{sym, ap, ◌∙◌}
use Rattle.harvest_lattice.specs.Parts.{found_set}
use Rattle.harvest_lattice.proofs.PartLists.{find_at}
use Rattle.harvest_lattice.proofs.ordered.find.Goals as goal

pub returns : goal.returns
returns c = ap found_set c.part_at.ensures ∙ sym (find_at c.args.parts.now c.args.revision c.count_below.result c.requires c.count_below.ensures.place)
