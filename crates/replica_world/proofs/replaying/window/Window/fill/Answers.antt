use Rattle.std.proofs.Common.{◌≡◌, ◌≤◌, length, take, rules, arith, length-take}
use Rattle.replica_world.proofs.Windows.{filled}
use Rattle.replica_world.proofs.replaying.window.Window.fill.Goals as goal

pub returns-clause-ok : goal.returns-clause-ok
returns-clause-ok g c =
    let buffer = c.read.new.buffer in
    let all : length buffer ≡ 65536 = search rules in
    let within : c.in-Ok.count ≤ length buffer = search rules in
    let front : length (take c.in-Ok.count buffer) ≡ c.in-Ok.count = omega (arith, within, length-take c.in-Ok.count buffer) in
    filled c.args.self.now c.compact.new.self c.push.new.self _ _ (take c.in-Ok.count buffer) c.compact.ensures c.in_ok-push.ensures.ok c.requires.more
    (omega (arith, all, within, front)) (omega (arith, front, c.if-count-eq0.false)) c.in-Ok.ensures.bytes.0 c.in-Ok.ensures.not_failed
    (omega (arith, c.pieces.ensures.pieces, c.pieces.ensures.most, c.if-pieces-eq-MOST_PIECES.false)) (c.in-Ok.ensures.piece (omega (arith, c.if-count-eq0.false)))
