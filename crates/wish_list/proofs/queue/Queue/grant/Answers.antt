use Rattle.std.proofs.Common.{◌≡◌, List, Some, true, sym, ap, subst, ◌∙◌, arith, length-set}
use Rattle.std.specs.Prelude.{position, slice_get, slice_set}
use Rattle.wish_list.specs.declared.queue.Wish.{Wish}
use Rattle.wish_list.specs.Queue.{with_grant, is_waiting}
use Rattle.wish_list.proofs.Places.{passes}
use Rattle.wish_list.proofs.QueueLemmas.{distinct_same}
use Rattle.wish_list.proofs.queue.Queue.grant.Goals as goal

pub invariant_of-self-2 : goal.invariant_of-self-2
invariant_of-self-2 c =
    let old = c.self.inside.wishes.items in
    let place = c.in-Some.place in
    let wish = c.index_mut-wish.result.now in
    let first : position is_waiting old ≡ Some place =
    ap (λ (ws : List Wish). position is_waiting ws) (sym c.deref.ensures.value) ∙ sym c.oldest_waiting.ensures.place ∙ c.in-Some.is in
    let at = passes is_waiting old place wish first c.index_mut-wish.ensures.value in
    record {
      distinct = distinct_same old place wish true at.2 ∙ c.self.invariant.distinct;
      few = omega (arith, length-set old place (with_grant true wish), c.self.invariant.few);
    }

pub returns-clause-some : goal.returns-clause-some
returns-clause-some c =
    let old = c.self.inside.wishes.items in
    let place = c.in-Some.place in
    let wish = c.index_mut-wish.result.now in
    let first : position is_waiting old ≡ Some place =
    ap (λ (ws : List Wish). position is_waiting ws) (sym c.deref.ensures.value) ∙ sym c.oldest_waiting.ensures.place ∙ c.in-Some.is in
    let at = passes is_waiting old place wish first c.index_mut-wish.ensures.value in
    record {
      place = place;
      wish = wish;
      oldest = ap (λ (ws : List Wish). position is_waiting ws) (sym c.self.view_is) ∙ first;
      there = subst (λ (ws : List Wish). slice_get ws place ≡ Some wish) c.self.view_is at.2;
      original_is = sym c.as_original.ensures.value ∙ sym c.in_ok-original.ensures;
      after = ap (λ (ws : List Wish). slice_set ws place (with_grant true wish)) c.self.view_is;
    }
