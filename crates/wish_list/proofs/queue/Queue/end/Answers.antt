use Rattle.std.proofs.Common.{◌≡◌, List, length, true, sym, ap, subst, arith}
use Rattle.std.specs.Prelude.{filter}
use Rattle.std.proofs.lemmas.List.Sums.{count_by-le-length, length-filter}
use Rattle.wish_list.specs.declared.queue.Wish.{Wish}
use Rattle.wish_list.specs.Queue.{are_distinct, isnt_of}
use Rattle.wish_list.proofs.QueueLemmas.{filter_distinct}
use Rattle.wish_list.proofs.queue.Queue.end.Goals as goal

pub invariant_of-self : goal.invariant_of-self
invariant_of-self c =
    let old = c.self.inside.wishes.items in
    let kept = isnt_of c.args.original.now in
    let same : length c.leave_out.new.wishes.items ≡ length (filter kept old) = ap (λ (ws : List Wish). length ws) c.leave_out.ensures in
    record {
      distinct = subst (λ (ws : List Wish). are_distinct ws ≡ true) (sym c.leave_out.ensures) (filter_distinct kept old c.self.invariant.distinct);
      few = omega (arith, same, length-filter kept old, count_by-le-length kept old, c.self.invariant.few);
    }
