use Rattle.std.proofs.Common.{◌≡◌, ◌∙◌, Some, sym, ap}
use Rattle.link_format.specs.Bytes.{is_plain}
use Rattle.link_format.specs.Scan.{after_byte, past}
use Rattle.link_format.proofs.UsualLemmas.{usual}
use Rattle.link_format.proofs.usual.split_usual.Goals as goal

pub returns : goal.returns
returns c =
    let more = c.in_ok-quoted.quoted.now in
    let rest = c.in_ok-rest.rest.now in
    let quote : after_byte 34 (past is_plain more) ≡ Some rest = ap (after_byte 34) (sym c.split_while.ensures.past) ∙ c.in_ok-rest.ensures in
    let u = usual c.args.text.now _ _ _ more rest c.in_ok-first.ensures c.in_ok-behind.ensures c.in_ok-second.ensures c.in_ok-quoted.ensures quote in
    rw c.split_while.ensures.front record { params = u.params; rest = u.behind; left = u.left; shorter = u.shorter }
