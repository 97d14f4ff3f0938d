use Rattle.std.proofs.Common.{rules, refl}
use Rattle.replica_world.proofs.Places.{numbered_here, none_numbered}
use Rattle.replica_world.proofs.world.World.message.Goals as goal

pub returns-in-None-clause-none : goal.returns-in-None-clause-none
returns-in-None-clause-none c = (refl, none_numbered c.args.self.now.messages c.args.number c.len.result (search rules) (search rules))

pub returns-in-Some-clause-found : goal.returns-in-Some-clause-found
returns-in-Some-clause-found c = numbered_here c.args.self.now.messages c.args.number c.len.result c.in-Some.place _ (search rules) c.in-Some.ensures.found (search rules)
