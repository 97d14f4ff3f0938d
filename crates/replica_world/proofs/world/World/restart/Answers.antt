use Rattle.std.proofs.Common.{rules}
use Rattle.replica_world.proofs.Worlds.{no_replica}
use Rattle.replica_world.proofs.WorldRuns.{spent_restart, restarted}
use Rattle.replica_world.proofs.world.World.restart.Goals as goal

pub returns-in_err-place-clause-steps : goal.returns-in_err-place-clause-steps
returns-in_err-place-clause-steps c = no_replica c.args.self.now _ _ _ _ c.in_err-place.ensures.none (search rules) (search rules)

pub returns-in_default-clause-steps : goal.returns-in_default-clause-steps
returns-in_default-clause-steps c = spent_restart c.args.self.now c.args.number c.in_ok-place.place c.in_ok-place.ensures.found (search rules)

pub returns-clause-steps : goal.returns-clause-steps
returns-clause-steps c =
    restarted c.args.self.now _ c.args.number c.in_ok-place.place c.new.result c.in_ok-place.ensures.found
    (search rules) c.new.ensures.stamped (search rules) c.new.ensures.cursors (search rules) (search rules) (search rules) (search rules)
