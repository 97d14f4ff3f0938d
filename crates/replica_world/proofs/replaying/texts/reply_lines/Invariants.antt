use Rattle.std.proofs.Common.{◌≡◌, ◌++◌, take}
use Rattle.std.specs.Prelude.{codes}
use Rattle.std.specs.List.{flat_map}
use Rattle.replica_world.specs.Output.{number_line, header_line}
use Rattle.replica_world.proofs.replaying.texts.reply_lines.Given as goal

abbrev pub invariant-loop-header : goal.invariant-loop-header
invariant-loop-header l = l.out.items ≡ number_line (codes "reply") l.reply.status ++ flat_map header_line (take l.header-index l.reply.headers)
