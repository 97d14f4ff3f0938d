use Rattle.std.proofs.Common.{◌≡◌, List, length, true, false, sym, ap, subst, arith}
use Rattle.wish_list.specs.declared.queue.Wish.{Wish}
use Rattle.wish_list.specs.Queue.{are_distinct, stands}
use Rattle.wish_list.proofs.QueueLemmas.{append_distinct}
use Rattle.wish_list.proofs.queue.Queue.push.Goals as goal

pub invariant_of-self-2 : goal.invariant_of-self-2
invariant_of-self-2 c =
    let wish = c.args.wish in
    let old = c.self.inside.wishes.items in
    let new : stands old wish.original ≡ false = subst (λ (ws : List Wish). stands ws wish.original ≡ false) (sym c.self.view_is) c.requires.new in
    let same : length old ≡ length c.args.self.now = ap (λ (ws : List Wish). length ws) c.self.view_is in
    record {
      distinct = subst (λ (ws : List Wish). are_distinct ws ≡ true) (sym c.in_ok-push.ensures.items)
          (append_distinct old wish c.self.invariant.distinct new);
      few = omega (arith, same, c.requires.room, c.in_ok-push.ensures.len);
    }
