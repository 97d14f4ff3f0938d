use Rattle.std.proofs.Common.{◌≡◌, length, arith}
use Rattle.memento_index.proofs.Columns.{length-beside}
use Rattle.memento_index.proofs.tally.Tally.reserve.Goals as goal

pub returns-clause-made : goal.returns-clause-made
returns-clause-made c =
    let ms = c.reserve.new.self in
    let ns = c.reserve-2.new.self in
    let first = c.in_ok-reserve.ensures.len in
    let second = c.in_ok-reserve-2.ensures.len in
    let alike = c.self.invariant in
    let same : length ms.items ≡ length ns.items = omega (arith, ms.ok.0, ns.ok.0, first, second, alike) in
    let long = length-beside ms.items ns.items same in
    (omega (arith, c.len.ensures, long, ms.ok.0), omega (arith, c.len.ensures, c.in_ok-reserve.ensures.ok, c.in_ok-reserve-2.ensures.ok, first, second, alike))
