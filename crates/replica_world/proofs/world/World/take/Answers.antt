use Rattle.std.proofs.Common.{rules, Err, ap}
use Rattle.replica_exchange.specs.declared.stamped.StampFault.{StampFault}
use Rattle.replica_world.proofs.Worlds.{no_replica, refused_as, take_ran_out, not_taken, took}
use Rattle.replica_world.proofs.world.World.take.Goals as goal

pub returns-in_err-place-clause-steps : goal.returns-in_err-place-clause-steps
returns-in_err-place-clause-steps c = no_replica c.args.self.now _ _ _ _ c.in_err-place.ensures.none (search rules) (search rules)

pub returns-in_err-try_clone-clause-steps : goal.returns-in_err-try_clone-clause-steps
returns-in_err-try_clone-clause-steps c =
    refused_as c.args.self.now _ _ _ _ (take_ran_out c.args.self.now c.args.number c.in_ok-place.place c.args.harvest.now c.in_ok-place.ensures.found) (search rules) (search rules)

pub returns-in_err-absorb-clause-steps : goal.returns-in_err-absorb-clause-steps
returns-in_err-absorb-clause-steps c =
    refused_as c.args.self.now _ _ _ _
    (not_taken c.args.self.now c.args.number c.in_ok-place.place c.args.harvest.now c.in_err-absorb.field-0.0 c.in_ok-place.ensures.found
    (λ spent. c.in_err-absorb.ensures.spent.0 (ap (λ (fault : StampFault). Err fault) spent)))
    (search rules) (search rules)

pub returns-clause-steps : goal.returns-clause-steps
returns-clause-steps c = took c.args.self.now c.absorb.new.self c.args.number c.in_ok-place.place c.args.harvest.now _ (search rules) c.in_ok-place.ensures.found c.in_ok-absorb.ensures.ok
