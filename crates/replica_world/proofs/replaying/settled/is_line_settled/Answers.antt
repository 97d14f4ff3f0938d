use Rattle.std.proofs.Common.{◌<◌, length, arith, sym}
use Rattle.std.proofs.lemmas.Grind.{common_steps}
use Rattle.replica_world.proofs.Settled.{line_ended, long_settled}
use Rattle.replica_world.proofs.replaying.settled.is_line_settled.Goals as goal

pub returns-in-Some-clause-line : goal.returns-in-Some-clause-line
returns-in-Some-clause-line c = λ _. line_ended c.args.text.now _ (sym c.in-Some.ensures.parts)

pub returns-in-None-clause-line : goal.returns-in-None-clause-line
returns-in-None-clause-line c = λ is. let long : 65536 < length c.args.text.now = grind (arith, common_steps, is) in long_settled c.args.text.now long
