use Rattle.std.proofs.Common.{rules, Err, ap}
use Rattle.replica_exchange.specs.declared.stamped.StampFault.{StampFault}
use Rattle.replica_events.specs.World.{IsText}
use Rattle.replica_world.proofs.Worlds.{no_replica, refused_as, received, not_received, not_absorbed}
use Rattle.replica_world.proofs.world.World.receive.Goals as goal

pub returns-in_err-place-clause-steps : goal.returns-in_err-place-clause-steps
returns-in_err-place-clause-steps c = no_replica c.args.self.now _ _ _ _ c.in_err-place.ensures.none (search rules) (search rules)

pub returns-in_err-state-clause-steps : goal.returns-in_err-state-clause-steps
returns-in_err-state-clause-steps c =
    not_received c.args.self.now c.args.number c.in_ok-place.place c.args.bytes.now c.in_err-state.field-0.0 _ c.in_ok-place.ensures.found c.in_err-state.ensures.cause (search rules)

pub returns-in_err-absorb-clause-steps : goal.returns-in_err-absorb-clause-steps
returns-in_err-absorb-clause-steps c =
    let text : IsText c.args.bytes.now c.in_ok-state.state = record { text = c.in_ok-state.ensures.found; within = c.in_ok-state.ensures.within } in
    refused_as c.args.self.now _ _ _ _
    (not_absorbed c.args.self.now c.args.number c.in_ok-place.place c.args.bytes.now c.in_ok-state.state c.in_err-absorb.field-0.0 c.in_ok-place.ensures.found text
    (λ spent. c.in_err-absorb.ensures.spent.0 (ap (λ (fault : StampFault). Err fault) spent)))
    (search rules) (search rules)

pub returns-clause-steps : goal.returns-clause-steps
returns-clause-steps c =
    received c.args.self.now c.absorb.new.self c.args.number c.in_ok-place.place c.args.bytes.now c.in_ok-state.state c.in_ok-place.ensures.found
    (record { text = c.in_ok-state.ensures.found; within = c.in_ok-state.ensures.within }) c.in_ok-absorb.ensures.ok
