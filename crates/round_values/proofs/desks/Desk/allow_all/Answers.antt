use Rattle.std.proofs.Common.{◌++◌, ◌+◌, ◌≡◌, ℕ, List, Bool, true, false, suc, map, take, drop, set, refl, ap, ◌∙◌, arith}
use Rattle.wish_list.proofs.Places.{mapped_more}
use Rattle.round_values.proofs.desks.Desk.allow_all.Goals as goal

pub loop-may-preserved : goal.loop-may-preserved
loop-may-preserved c =
    let f = λ (_ : Bool). true in
    let first = c.deref_mut-may-items.result.now in
    let i = c.loop-may.may-index in
    let next : suc i ≡ i + 1 = omega arith in
    ap (λ (ws : List Bool). set ws i true) c.loop-may.invariant ∙ mapped_more f first i true false c.loop-may-test.true refl
    ∙ ap (λ (n : ℕ). map f (take n first) ++ drop n first) next
