use Rattle.std.proofs.Common.{rules}
use Rattle.replica_exchange.specs.Faults.{IsDeltaCause}
use Rattle.replica_world.proofs.Worlds.{IsReadFrom, no_replica, no_message, refused_as, not_delivered, not_joined, delivered}
use Rattle.replica_world.proofs.world.World.deliver.Goals as goal

pub returns-in_err-place-clause-steps : goal.returns-in_err-place-clause-steps
returns-in_err-place-clause-steps c = no_replica c.args.self.now _ _ _ _ c.in_err-place.ensures.none (search rules) (search rules)

pub returns-in_err-message-clause-steps : goal.returns-in_err-message-clause-steps
returns-in_err-message-clause-steps c =
    no_message c.args.self.now _ c.args.number c.in_ok-place.place c.args.message _ _ c.in_ok-place.ensures.found c.in_err-message.ensures.none (search rules) (search rules)

pub returns-in_err-delta-clause-steps : goal.returns-in_err-delta-clause-steps
returns-in_err-delta-clause-steps c =
    let cause : IsDeltaCause c.in_err-delta.field-0.0 c.in_ok-message.message.now.bytes = search rules in
    not_delivered c.args.self.now c.args.number c.in_ok-place.place c.args.message c.in_ok-message.message.now c.in_err-delta.field-0.0 _
    c.in_ok-place.ensures.found c.in_ok-message.ensures.found cause (search rules)

pub returns-in_err-join-clause-steps : goal.returns-in_err-join-clause-steps
returns-in_err-join-clause-steps c =
    let text : IsReadFrom c.in_ok-message.message.now c.in_ok-delta.delta = record { text = search rules; within = search rules } in
    refused_as c.args.self.now _ _ _ _
    (not_joined c.args.self.now c.args.number c.in_ok-place.place c.args.message c.in_ok-message.message.now c.in_ok-delta.delta
    c.in_err-join.field-0.0 c.in_ok-place.ensures.found c.in_ok-message.ensures.found text c.in_err-join.ensures.cause)
    (search rules) (search rules)

pub returns-clause-steps : goal.returns-clause-steps
returns-clause-steps c =
    let text : IsReadFrom c.in_ok-message.message.now c.in_ok-delta.delta = record { text = search rules; within = search rules } in
    delivered c.args.self.now c.join.new.self c.args.number c.in_ok-place.place c.args.message c.in_ok-message.message.now c.in_ok-delta.delta
    c.in_ok-place.ensures.found c.in_ok-message.ensures.found text
    c.in_ok-join.ensures.fits c.in_ok-join.ensures.ok
