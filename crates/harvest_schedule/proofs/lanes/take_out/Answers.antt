use Rattle.harvest_schedule.proofs.Counts.{not_taken_out}
use Rattle.harvest_schedule.proofs.lanes.take_out.Goals as goal

pub returns-in_default-clause-len : goal.returns-in_default-clause-len
returns-in_default-clause-len c =
    absurd (not_taken_out c.args.original c.args.originals.now.items (cc) c.requires)
