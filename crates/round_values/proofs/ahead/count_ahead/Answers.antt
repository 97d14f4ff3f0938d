use Rattle.std.proofs.Common.{ℕ, ◌+◌, ◌-◌, ◌^◌, length, map, min, sym, ap, ◌∙◌}
use Rattle.std.specs.FinMap as fmap
use Rattle.std.specs.List.{filter}
use Rattle.std.proofs.lemmas.List.{map_push}
use Rattle.std.proofs.lemmas.Map.Iter.{iter_end}
use Rattle.harvest_lattice.specs.Lattice.{Key, Kept}
use Rattle.harvest_lattice.specs.Rows.{lent_entry}
use Rattle.round_values.specs.Ahead.{is_ahead}
use Rattle.round_values.proofs.AheadLemmas.{ahead_in, ahead_in-push, all_counted, counted_on}
use Rattle.round_values.proofs.ahead.count_ahead.Goals as goal

pub loop-row-preserved : goal.loop-row-preserved
loop-row-preserved c =
    let last = c.args.last.0 in
    let e : Key × Kept = lent_entry c.in-Some.row in
    let before = map lent_entry c.loop-row.yielded in
    let here = length (filter (is_ahead last) (fmap.keys e.1.revisions)) in
    rw (map_push lent_entry c.loop-row.yielded c.in-Some.row)
    (c.saturating_add-count.ensures
    ∙ (ap (λ (n : ℕ). min (c.loop-row.count + n) (2 ^ 64 - 1)) c.count_in.ensures
    ∙ (counted_on (ahead_in last before) here c.loop-row.count c.loop-row.invariant
    ∙ ap (λ (n : ℕ). min n (2 ^ 64 - 1)) (sym (ahead_in-push last before e)))))

pub returns : goal.returns
returns c =
    let start = c.into_iter-row-iterator.ensures.into_iter_gives ∙ c.rows-row-items.ensures in
    let whole = iter_end lent_entry _ c.loop-row.yielded _ _ _ _ start c.loop-row.yielded_by c.in-None.is c.next.ensures.steps in
    c.loop-row.invariant ∙ ap (λ (n : ℕ). min n (2 ^ 64 - 1)) (all_counted c.args.last.0 c.args.state.now (map lent_entry c.loop-row.yielded) whole.0)
