use Rattle.std.proofs.Common.{false, ap}
use Rattle.std.specs.Arc.{arc_value}
use Rattle.round_walks.proofs.WalkLemmas.{taken_in}
use Rattle.round_walks.proofs.taking.accept_round_walk.Goals as goal

pub returns-in-Ok : goal.returns-in-Ok
returns-in-Ok g c =
    taken_in _ c.in-Ok.harvest _ _ _ _ c.accept_harvest.new.course.standing.forgetting false _ _ _ c.accept_harvest.result c.in-Ok.is
    (ap arc_value c.note_job.ensures.terms) c.note_job.ensures.forgetting c.note_job.ensures.ledger c.accept_harvest.ensures
