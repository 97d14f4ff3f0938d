use Rattle.std.proofs.Common.{◌≡◌, ℕ, List, Option, Some, false, sym, ap, subst, ◌∙◌, arith, length-set}
use Rattle.std.specs.Prelude.{MatchOption, position, slice_get, slice_set}
use Rattle.wish_list.specs.declared.queue.Wish.{Wish}
use Rattle.wish_list.specs.Queue.{with_grant, is_of}
use Rattle.wish_list.proofs.Places.{passes}
use Rattle.wish_list.proofs.QueueLemmas.{distinct_same}
use Rattle.wish_list.proofs.queue.Queue.put_back.Goals as goal

pub invariant_of-self : goal.invariant_of-self
invariant_of-self c =
    let old = c.self.inside.wishes.items in
    let place = c.in-Some.place in
    let wish = c.index_mut.result.now in
    let test = is_of c.args.original.now in
    let first : position test old ≡ Some place =
    ap (λ (ws : List Wish). position test ws) (sym c.deref.ensures.value) ∙ sym c.place_of.ensures ∙ c.in-Some.is in
    let at = passes test old place wish first c.index_mut.ensures.value in
    record {
      distinct = distinct_same old place wish false at.2 ∙ c.self.invariant.distinct;
      few = omega (arith, length-set old place (with_grant false wish), c.self.invariant.few);
    }

pub returns-in-Some : goal.returns-in-Some
returns-in-Some c =
    let old = c.self.inside.wishes.items in
    let now = c.args.self.now in
    let place = c.in-Some.place in
    let wish = c.index_mut.result.now in
    let test = is_of c.args.original.now in
    let first : position test old ≡ Some place =
    ap (λ (ws : List Wish). position test ws) (sym c.deref.ensures.value) ∙ sym c.place_of.ensures ∙ c.in-Some.is in
    let at = passes test old place wish first c.index_mut.ensures.value in
    let new = slice_set old place (with_grant false wish) in
    let P : Option ℕ → Type 0 = λ o. MatchOption o (new ≡ now) (λ k. (w : Wish) × (slice_get now k ≡ Some w) × (new ≡ slice_set now k (with_grant false w))) in
    let there : slice_get now place ≡ Some wish = subst (λ (ws : List Wish). slice_get ws place ≡ Some wish) c.self.view_is at.2 in
    let after : new ≡ slice_set now place (with_grant false wish) = ap (λ (ws : List Wish). slice_set ws place (with_grant false wish)) c.self.view_is in
    subst P (sym (ap (λ (ws : List Wish). position test ws) (sym c.self.view_is) ∙ first)) (wish, there, after)
