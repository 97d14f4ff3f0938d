use Rattle.std.proofs.Common.{ℕ, List, inl, refl, sym, ap, subst, arith}
use Rattle.std.specs.BTreeMap.{is_at}
use Rattle.std.specs.Map.{lookup, keys_of}
use Rattle.std.specs.List.Sorted.{IsStrictlySortedBy}
use Rattle.memento_time.specs.Mementos.{text_cmp}
use Rattle.memento_index.specs.declared.counted.Steps.{Steps}
use Rattle.memento_index.proofs.ListLemmas.{one_more_counted, all_counted, all_listed, later_sorted, next_tally, next_can, next_room}
use Rattle.memento_index.proofs.lists.recount_all.Goals as goal

pub loop-entry-init : goal.loop-entry-init
loop-entry-init c =
    let gives = c.into_iter-entry-iterator.ensures.into_iter_gives in
    record {
      sorted = subst (λ (es : List (List ℕ × Steps)). IsStrictlySortedBy text_cmp (keys_of es)) (sym gives.0) gives.5;
      each = λ o. inl (ap (λ (es : List (List ℕ × Steps)). lookup (is_at (text_cmp o)) es) gives.0, refl);
      settled = c.requires.settled;
      room = omega arith;
    }

pub recount_list-requires-clause-tally : goal.recount_list-requires-clause-tally
recount_list-requires-clause-tally c =
    let e : List ℕ × Steps = c.in-Some.entry in
    next_tally c.args.all c.loop-entry.entry-iterator c.next.new.self e c.args.lists.now c.loop-entry.lists
    c.in-Some.ensures.steps c.loop-entry.invariant.each c.requires.tally

pub recount_list-requires-clause-can : goal.recount_list-requires-clause-can
recount_list-requires-clause-can c =
    let e : List ℕ × Steps = c.in-Some.entry in
    next_can c.args.all c.loop-entry.entry-iterator c.next.new.self e c.args.lists.now c.loop-entry.lists
    c.in-Some.ensures.steps c.loop-entry.invariant.each c.requires.can

pub recount_list-requires-clause-room : goal.recount_list-requires-clause-room
recount_list-requires-clause-room c =
    let e : List ℕ × Steps = c.in-Some.entry in
    next_room c.args.all c.loop-entry.entry-iterator c.next.new.self e c.args.lists.now c.loop-entry.lists
    c.in-Some.ensures.steps c.loop-entry.invariant.each c.args.lifted.now.room c.loop-entry.lifted.room
    c.loop-entry.invariant.room c.requires.room

pub loop-entry-preserved : goal.loop-entry-preserved
loop-entry-preserved c =
    let e : List ℕ × Steps = c.in-Some.entry in
    record {
      sorted = later_sorted c.loop-entry.entry-iterator c.next.new.self e c.in-Some.ensures.steps c.loop-entry.invariant.sorted;
      each = λ o. one_more_counted c.args.all c.loop-entry.entry-iterator c.next.new.self e c.args.lists.now
          c.loop-entry.lists c.recount_list.new.lists c.in-Some.ensures.steps c.loop-entry.invariant.sorted
          c.loop-entry.invariant.each c.recount_list.ensures.recounted c.recount_list.ensures.listed
          c.recount_list.ensures.others o;
      settled = c.recount_list.ensures.settled;
      room = omega (arith, c.recount_list.ensures.lifted_room, c.loop-entry.invariant.room);
    }

pub returns-clause-recounted : goal.returns-clause-recounted
returns-clause-recounted c = all_counted c.args.all c.loop-entry.entry-iterator c.args.lists.now c.loop-entry.lists
    c.in-None.ensures.steps.0 c.requires.tally c.loop-entry.invariant.each

pub returns-clause-listed : goal.returns-clause-listed
returns-clause-listed c = all_listed c.args.all c.loop-entry.entry-iterator c.args.lists.now c.loop-entry.lists
    c.in-None.ensures.steps.0 c.requires.listed c.loop-entry.invariant.each
