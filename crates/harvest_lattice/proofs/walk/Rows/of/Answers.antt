use Rattle.std.proofs.Common.{List, ℕ, ap, ◌∙◌}
use Rattle.memento_time.specs.Mementos.{text_cmp}
use Rattle.harvest_lattice.specs.Shelves.{Shelved, all_rows}
use Rattle.harvest_lattice.proofs.BehindLemmas.{between_none}
use Rattle.harvest_lattice.proofs.walk.Rows.of.Goals as goal

pub returns : goal.returns
returns c = ap (λ (ss : List (List ℕ × Shelved)). all_rows ss) (c.range.ensures.between tt ∙ between_none text_cmp c.args.shelves.now.entries)
