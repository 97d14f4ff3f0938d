use Rattle.std.proofs.Common.{ap, ◌∙◌}
use Rattle.std.specs.List.{list_any}
use Rattle.harvest_lattice.specs.Lattice.{Key, Kept}
use Rattle.retention.specs.Rules.{is_withdrawn}
use Rattle.forgetting.proofs.GoneLemmas.{none_listed}
use Rattle.forgetting.proofs.deciding.has_withdrawn.Goals as goal

pub returns : goal.returns
returns c none =
    none_listed c.args.withdrawn.now c.args.state.now
    (c.loop-archive.invariant ∙ ap (list_any (λ (e : Key × Kept). is_withdrawn c.args.withdrawn.now e.0)) c.in-None.ensures.steps.0)
