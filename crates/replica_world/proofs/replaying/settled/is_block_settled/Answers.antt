use Rattle.std.proofs.Common.{◌<◌, length, arith}
use Rattle.std.proofs.lemmas.Grind.{common_steps}
use Rattle.replica_world.proofs.Settled.{long_block_settled, block_settled}
use Rattle.replica_world.proofs.replaying.settled.is_block_settled.Goals as goal

pub returns-then-len-gt-LONGEST_BLOCK : goal.returns-then-len-gt-LONGEST_BLOCK
returns-then-len-gt-LONGEST_BLOCK c = λ _. long_block_settled c.args.len c.args.text.now c.if-len-gt-LONGEST_BLOCK.true

pub returns-else-len-gt-LONGEST_BLOCK : goal.returns-else-len-gt-LONGEST_BLOCK
returns-else-len-gt-LONGEST_BLOCK c = λ is. let within : c.args.len < length c.args.text.now = grind (arith, common_steps, is) in block_settled c.args.len c.args.text.now within
