use Rattle.std.proofs.Common.{inl, refl, sym, ap, subst, ◌∙◌}
use Rattle.std.specs.Ordering.{eq_by_cmp}
use Rattle.std.specs.Set.{is_member}
use Rattle.memento_time.specs.Mementos.{text_cmp}
use Rattle.memento_index.specs.Lists.{IsListed}
use Rattle.memento_index.proofs.ListLemmas.{one_more_listed, none_left}
use Rattle.memento_index.proofs.lists.drop_empty.Goals as goal

pub loop-original-init : goal.loop-original-init
loop-original-init c = record {
  gone = λ o some. inl (ap (λ ks. is_member (eq_by_cmp text_cmp) ks o)
      c.into_iter-original-iterator.ensures.into_iter_gives ∙ (sym (c.keys-original-items.ensures.has o) ∙ some));
  tallies = λ o. refl;
  listed = λ o some. refl;
}

pub loop-original-preserved : goal.loop-original-preserved
loop-original-preserved c =
    let was = c.loop-original.lists in
    let now = c.drop_if_empty.new.lists in
    record {
      gone = λ o some. one_more_listed c.loop-original.original-iterator c.next.new.self c.in-Some.original.now was now
          c.in-Some.ensures.steps c.drop_if_empty.ensures.gone c.drop_if_empty.ensures.listed o
          (c.loop-original.invariant.gone o some);
      tallies = λ o. c.drop_if_empty.ensures.tallies o ∙ c.loop-original.invariant.tallies o;
      listed = λ o some.
          let same = c.loop-original.invariant.listed o some in
          c.drop_if_empty.ensures.listed o (subst IsListed (sym same) some) ∙ same;
    }

pub returns-clause-gone : goal.returns-clause-gone
returns-clause-gone c o some = none_left c.loop-original.original-iterator c.loop-original.lists
    c.in-None.ensures.steps.0 o (c.loop-original.invariant.gone o some)
