use Rattle.std.proofs.Common.{◌≡◌, ◌+◌, ◌≤◌, [], List, length, append-nil, sym, ap, subst, ◌∙◌, arith}
use Rattle.std.specs.Vec.Iter.{into_iter_items, into_iter_len}
use Rattle.memento_index.specs.Counts.{whole, count_of, beginnings, endings, IsTally}
use Rattle.memento_index.specs.declared.counted.Counted.{Counted}
use Rattle.memento_index.specs.declared.counted.Step.{Step}
use Rattle.memento_index.specs.Tallies.{Tallied}
use Rattle.memento_index.proofs.Tallies.{begun_step, ceased_step, may_begin, may_cease, beginnings-IsPermutation, endings-IsPermutation, no_steps}
use Rattle.memento_index.proofs.counts.recount.Goals as goal
use Rattle.memento_index.proofs.counts.recount.Goals.{In-Some}

pub count_in-requires-clause-few : goal.count_in-requires-clause-few
count_in-requires-clause-few c =
    may_begin _ _ _ c.in-Some.step _ _ c.in-Some.ensures.steps.0 c.if-step.true c.loop-step.invariant.between

pub count_out-requires-clause-counted : goal.count_out-requires-clause-counted
count_out-requires-clause-counted c =
    may_cease _ _ _ c.in-Some.step _ _ c.in-Some.ensures.steps.0 c.if-step.false c.loop-step.invariant.between

-- the room that the rest of the steps has, once one is counted
room_left : (c : In-Some) → (list lifted : Tallied) → length list.entries + length lifted.entries
    ≤ length c.loop-step.list.entries + length c.loop-step.lifted.entries + 1 → c.loop-step.list.room ≤ list.room → c.loop-step.lifted.room ≤ lifted.room
    → (length list.entries + length lifted.entries + into_iter_len c.next.new.self ≤ list.room)
    × (length list.entries + length lifted.entries + into_iter_len c.next.new.self ≤ lifted.room)
    × (into_iter_len c.next.new.self ≡ length (into_iter_items c.next.new.self)) × (c.args.lifted.now.room ≤ lifted.room)
room_left c list lifted len list_grows lifted_grows = (
  omega (arith, c.in-Some.ensures.steps.1, len, list_grows, c.loop-step.invariant.list_room),
  omega (arith, c.in-Some.ensures.steps.1, len, lifted_grows, c.loop-step.invariant.lifted_room),
  omega (arith, c.in-Some.ensures.steps.1, ap (λ (ss : List Step). length ss) c.in-Some.ensures.steps.0, c.loop-step.invariant.count),
  omega (arith, lifted_grows, c.loop-step.invariant.lifted_grows),
)

pub loop-step-preserved-then-step : goal.loop-step-preserved-then-step
loop-step-preserved-then-step c =
    let made = c.count_in.ensures in
    let room = room_left (goal.at.loop-step-preserved-then-step c).In-Some c.count_in.new.list c.count_in.new.lifted made.len made.list_room made.lifted_room in
    record {
      tally = made.tally;
      list_room = room.0;
      lifted_room = room.1;
      count = room.2;
      lifted_grows = room.3;
      between = begun_step _ _ _ c.in-Some.step _ _ _ c.in-Some.ensures.steps.0 c.if-step.true c.loop-step.invariant.between made.counts;
    }

pub loop-step-preserved : goal.loop-step-preserved
loop-step-preserved c =
    let made = c.count_out.ensures in
    let room = room_left (goal.at.loop-step-preserved c).In-Some c.count_out.new.list c.count_out.new.lifted (omega (arith, made.len)) made.list_room made.lifted_room in
    record {
      tally = made.tally;
      list_room = room.0;
      lifted_room = room.1;
      count = room.2;
      lifted_grows = room.3;
      between = ceased_step _ _ _ c.in-Some.step _ _ _ c.in-Some.ensures.steps.0 c.if-step.false c.loop-step.invariant.between made.counts;
    }

pub loop-step-init : goal.loop-step-init
loop-step-init c =
    let list = c.args.list.now.entries in
    let lifted = c.args.lifted.now.entries in
    let steps = c.args.steps.items in
    let sorted = into_iter_items c.into_iter-step-iterator.result in
    let all = c.into_iter-step-iterator.ensures.into_iter_gives in
    let none : length lifted ≡ 0 = ap (λ (es : List Counted). length es) c.requires.settled in
    let same : whole list lifted ≡ list = ap (λ (es : List Counted). whole list es) c.requires.settled ∙ append-nil list in
    record {
      tally = subst IsTally (sym same) c.requires.tally;
      list_room = omega (arith, none, all.1, c.requires.list_room, c.sort_unstable.ensures.len);
      lifted_room = omega (arith, none, all.1, c.requires.lifted_room, c.sort_unstable.ensures.len);
      lifted_grows = omega arith;
      count = omega (arith, all.1, ap (λ (ss : List Step). length ss) all.0);
      between = record {
        counts = λ x. ap (λ (es : List Counted). count_of es x + (beginnings sorted x + endings sorted x)) same;
        shown = λ x. omega (
          arith,
          c.requires.shown x,
          ap (λ (es : List Counted). count_of es x) same,
          ap (λ (ss : List Step). endings ss x) all.0,
          endings-IsPermutation steps _ x c.sort_unstable.ensures.permutation,
        );
        few = λ x. omega (
          arith,
          c.requires.few x,
          ap (λ (es : List Counted). count_of es x) same,
          ap (λ (ss : List Step). beginnings ss x) all.0,
          beginnings-IsPermutation steps _ x c.sort_unstable.ensures.permutation,
        );
      };
    }

pub returns-clause-recounted : goal.returns-clause-recounted
returns-clause-recounted c =
    let steps = c.args.steps.items in
    let sorted = c.sort_unstable.new.self.items in
    let all = c.into_iter-step-iterator.ensures.into_iter_gives.0 in
    let left = into_iter_items c.loop-step.step-iterator in
    let none : left ≡ [] = no_steps left (omega (arith, c.in-None.ensures.steps.0, c.loop-step.invariant.count)) in
    record {
      tally = subst IsTally (sym c.settle.ensures.list) c.loop-step.invariant.tally;
      counts = λ m. omega (
        arith,
        c.loop-step.invariant.between.counts m,
        ap (λ (ss : List Step). beginnings ss m) none,
        ap (λ (ss : List Step). endings ss m) none,
        ap (λ (ss : List Step). beginnings ss m) all,
        ap (λ (ss : List Step). endings ss m) all,
        ap (λ (es : List Counted). count_of es m) c.settle.ensures.list,
        beginnings-IsPermutation steps sorted m c.sort_unstable.ensures.permutation,
        endings-IsPermutation steps sorted m c.sort_unstable.ensures.permutation,
      );
    }

pub returns-clause-lifted_room : goal.returns-clause-lifted_room
returns-clause-lifted_room c = omega (arith, c.settle.ensures.lifted_room, c.loop-step.invariant.lifted_grows)
