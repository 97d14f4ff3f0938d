use Rattle.std.proofs.Common.{◌∙◌, [], map, refl, sym}
use Rattle.std.specs.FinMap as fmap
use Rattle.std.proofs.lemmas.List.{map_push}
use Rattle.std.proofs.lemmas.Result.{err_from_is_err_and}
use Rattle.std.proofs.lemmas.Map.Iter.{iter_end, iter_turn, rest_so_far}
use Rattle.harvest_lattice.specs.Rows.{lent_entry}
use Rattle.snapshot_sections.proofs.Appending.{on_err}
use Rattle.snapshots.proofs.Beginning.{in_first_line, state_begun}
use Rattle.snapshots.proofs.Sectioning.{nothing_started, rows_written, rows_short, one_is_long, same_fault}
use Rattle.snapshots.proofs.writing.write_snapshot.Goals as goal

pub loop-archive-init : goal.loop-archive-init
loop-archive-init g c =
    nothing_started _ _ _ _ _ c.in_ok-write_first_line.ensures.written c.new-sections.ensures.body c.new-sections.ensures.entries c.new-sections.ensures.written

pub loop-archive-preserved : goal.loop-archive-preserved
loop-archive-preserved g c =
    rw (map_push lent_entry c.loop-archive.yielded ((c.in-Some.archive, c.in-Some.original), c.in-Some.entry))
    (c.in_ok-add.ensures.added _ _ c.loop-archive.invariant)

pub returns-in_err-add-clause-too_long : goal.returns-in_err-add-clause-too_long
returns-in_err-add-clause-too_long g c = λ is.
    let p = err_from_is_err_and c.from_residual-in_err-add.result c.from_residual-in_err-add.ensures.1 in
    let start = c.into_iter-archive-iterator.ensures.into_iter_gives ∙ c.rows-archive-items.ensures in
    let turn = iter_turn lent_entry _ c.loop-archive.yielded _ _ _ _ start c.loop-archive.yielded_by _ c.in-Some.is c.next.ensures.steps in
    one_is_long _ _ _ turn (c.in_err-add.ensures.too_long (same_fault _ _ _ _ p.1 p.2 is))

pub returns-clause-written : goal.returns-clause-written
returns-clause-written g c =
    let start = c.into_iter-archive-iterator.ensures.into_iter_gives ∙ c.rows-archive-items.ensures in
    let whole = iter_end lent_entry _ c.loop-archive.yielded _ _ _ _ start c.loop-archive.yielded_by c.in-None.is c.next.ensures.steps in
    rows_written _ _ c.args.state.now _ (c.in_ok-end.ensures.ended _ _ c.loop-archive.invariant) whole.0

pub returns-clause-short : goal.returns-clause-short
returns-clause-short g c =
    let start = c.into_iter-archive-iterator.ensures.into_iter_gives ∙ c.rows-archive-items.ensures in
    let whole = iter_end lent_entry _ c.loop-archive.yielded _ _ _ _ start c.loop-archive.yielded_by c.in-None.is c.next.ensures.steps in
    rows_short _ c.args.state.now _ _ _ _ _ c.loop-archive.invariant whole.0

pub returns-in_err-write_first_line-clause-less : goal.returns-in_err-write_first_line-clause-less
returns-in_err-write_first_line-clause-less g c =
    on_err _ (state_begun _ _ c.args.state.now [] (fmap.entries c.args.state.now) (in_first_line _ _ c.in_err-write_first_line.ensures.less) refl)

pub returns-in_err-add-clause-less : goal.returns-in_err-add-clause-less
returns-in_err-add-clause-less g c =
    let start = c.into_iter-archive-iterator.ensures.into_iter_gives ∙ c.rows-archive-items.ensures in
    on_err _ (state_begun _ _ c.args.state.now (map lent_entry c.loop-archive.yielded) _ (c.in_err-add.ensures.begun _ _ c.loop-archive.invariant)
    (sym (rest_so_far lent_entry c.loop-archive.yielded _ _ c.loop-archive.yielded_by) ∙ start))

pub returns-in_err-end-clause-less : goal.returns-in_err-end-clause-less
returns-in_err-end-clause-less g c =
    let start = c.into_iter-archive-iterator.ensures.into_iter_gives ∙ c.rows-archive-items.ensures in
    on_err _ (state_begun _ _ c.args.state.now (map lent_entry c.loop-archive.yielded) _ (c.in_err-end.ensures.begun _ _ c.loop-archive.invariant)
    (sym (rest_so_far lent_entry c.loop-archive.yielded _ _ c.loop-archive.yielded_by) ∙ start))
