use Rattle.std.proofs.Common.{ℕ, List, inl, refl, ap, ◌∙◌}
use Rattle.std.specs.BTreeMap as tree
use Rattle.std.specs.BTreeMap.{is_at}
use Rattle.std.specs.Map.{lookup}
use Rattle.memento_time.specs.Mementos.{text_cmp}
use Rattle.memento_index.specs.declared.counted.Steps.{Steps}
use Rattle.memento_index.proofs.ListLemmas.{grows_same, grows_on, still_fit, one_more_room, all_roomy, none_to_come}
use Rattle.memento_index.proofs.lists.make_rooms.Goals as goal

pub loop-original-init : goal.loop-original-init
loop-original-init c = record {
  grow = λ o. grows_same (tree.get text_cmp c.args.lists.now o);
  come = λ o none. ap (lookup (is_at (text_cmp o))) c.into_iter-original-iterator.ensures.into_iter_gives.0 ∙ none;
  others = λ o none. refl;
  lifted = refl;
  room = λ o. inl (ap (lookup (is_at (text_cmp o))) c.into_iter-original-iterator.ensures.into_iter_gives.0);
}

pub returns-in_err-make_room-clause-others : goal.returns-in_err-make_room-clause-others
returns-in_err-make_room-clause-others c o none =
    let e : List ℕ × Steps = (c.in-Some.original.now, c.in-Some.steps.now) in
    c.make_room.ensures.others o (none_to_come o c.loop-original.original-iterator c.next.new.self e
    c.in-Some.ensures.steps (c.loop-original.invariant.come o none)).0 ∙ c.loop-original.invariant.others o none

pub loop-original-preserved : goal.loop-original-preserved
loop-original-preserved c =
    let e : List ℕ × Steps = (c.in-Some.original.now, c.in-Some.steps.now) in
    let was = c.loop-original.lists in
    let now = c.make_room.new.lists in
    record {
      grow = λ o. grows_on (tree.get text_cmp c.args.lists.now o) (tree.get text_cmp was o) (tree.get text_cmp now o)
          (c.loop-original.invariant.grow o) (c.make_room.ensures.grow o);
      come = λ o none. (none_to_come o c.loop-original.original-iterator c.next.new.self e c.in-Some.ensures.steps (c.loop-original.invariant.come o none)).1;
      others = λ o none. c.make_room.ensures.others o
          (none_to_come o c.loop-original.original-iterator c.next.new.self e c.in-Some.ensures.steps
          (c.loop-original.invariant.come o none)).0 ∙ c.loop-original.invariant.others o none;
      lifted = c.make_room.ensures.lifted ∙ c.loop-original.invariant.lifted;
      room = λ o. one_more_room c.args.keys c.args.all.now c.loop-original.original-iterator c.next.new.self e was now
          c.loop-original.lifted.room c.make_room.new.lifted.room c.in-Some.ensures.steps c.make_room.ensures.grow
          c.make_room.ensures.lifted_room
          (still_fit c.args.lists.now was c.args.all.now c.loop-original.invariant.grow c.requires.fit)
          c.in_ok-make_room.ensures.made o (c.loop-original.invariant.room o);
    }

pub returns-clause-made : goal.returns-clause-made
returns-clause-made c = all_roomy c.args.keys c.args.all.now c.loop-original.original-iterator c.loop-original.lists
    c.loop-original.lifted.room c.in-None.ensures.steps.0 c.loop-original.invariant.room
