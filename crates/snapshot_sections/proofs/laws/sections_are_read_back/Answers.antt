use Rattle.snapshot_sections.proofs.Sections.{same_sections, nothing_follows}
use Rattle.snapshot_sections.proofs.laws.sections_are_read_back.Goals as goal

pub returns-clause-same : goal.returns-clause-same
returns-clause-same c = same_sections

pub returns-clause-cut : goal.returns-clause-cut
returns-clause-cut c = nothing_follows
