use Rattle.replica_world.proofs.LaidOut.{line_is, block_is, after_empty_lines_is}
use Rattle.replica_world.proofs.Commands.{start_is, command_is}
use Rattle.replica_world.proofs.WholeScript.{commands_are}
use Rattle.replica_world.proofs.replaying.laws.script_is_its_layout.Goals as goal

pub returns : goal.returns
returns c = record { line = line_is; start = start_is; command = command_is; block = block_is; empty_lines = after_empty_lines_is; commands = commands_are }
