use Rattle.std.proofs.Common.{◌≡◌, length, ap, ◌∙◌}
use Rattle.replica_world.specs.Fields.{after_empty_lines}
use Rattle.replica_world.proofs.Ends.{empty_lines_end}
use Rattle.replica_world.proofs.Windows.{dropped_to}
use Rattle.replica_world.proofs.replaying.window.Window.skip_empty_lines.Goals as goal

pub returns-clause-bytes : goal.returns-clause-bytes
returns-clause-bytes c =
    let left = c.after_empty_lines-left.result.now in
    let left_is : left ≡ after_empty_lines c.args.self.now.bytes = c.after_empty_lines-left.ensures.text ∙ ap after_empty_lines c.bytes.ensures in
    dropped_to c.args.self.now c.keep.new.self (after_empty_lines c.args.self.now.bytes) c.keep.ensures.drops (empty_lines_end c.args.self.now.bytes)
    (c.keep.ensures.left ∙ ap length left_is)
