use Rattle.std.proofs.Common.{◌≡◌, ◌≤◌, ◌-◌, length, take, drop, rules, arith, length-drop, sym, ap, refl}
use Rattle.replica_world.specs.Reading.{Held, ends_of_lines}
use Rattle.replica_world.proofs.Windows.{front_used}
use Rattle.replica_world.proofs.replaying.window.Window.keep.Goals as goal

pub returns-clause-drops : goal.returns-clause-drops
returns-clause-drops c =
    let start = c.self.inside.start in
    let next = c.len.result - c.args.left in
    let items = c.self.inside.buffer.items in
    let all : c.len.result ≡ length items = search rules in
    let held : c.args.self.now.bytes ≡ drop start items = sym (ap (λ (h : Held). h.bytes) c.self.view_is) in
    let within : c.args.left ≤ length (drop start items) = search rules in
    let low : start ≤ next = omega (arith, all, within, length-drop start items, c.self.invariant.within) in
    let counted : c.ends_of_lines.result ≡ ends_of_lines (take (next - start) (drop start items)) = search rules in
    front_used start next items c.args.self.now _ low held refl (search rules) (search rules) (search rules)
