use Rattle.std.proofs.Common.{◌≡◌, ℕ, List, map, take, take_all, sym, ap, ◌∙◌}
use Rattle.std.specs.FinMap as fmap
use Rattle.std.specs.List.{flat_map}
use Rattle.harvest_lattice.specs.Lattice.{Key}
use Rattle.harvest_lattice.specs.Rows.{row_entry}
use Rattle.replica_exchange.specs.declared.order.OrderRow.{OrderRow}
use Rattle.replica_exchange.specs.Stamps.{StampedState}
use Rattle.replica_exchange.specs.StampOrder.{stamp_and_key, order_of, standing_entry}
use Rattle.replica_exchange.proofs.OrderLemmas.{noted_more, above_behind}
use Rattle.replica_exchange.proofs.ShelfLemmas.{get-stamps_in}
use Rattle.replica_exchange.proofs.stamped.Stamped.rows_above.Goals as goal

pub behind-behind-requires : goal.behind-behind-requires
behind-behind-requires c = c.self.invariant.1.rises

pub loop-given-preserved : goal.loop-given-preserved
loop-given-preserved c =
    let s = c.args.self.now in
    let row : ℕ × Key = (c.stamp.result, (c.archive.result, c.original.result.now)) in
    noted_more s c.behind-behind.result.now c.loop-given.given-index c.given-item.result row (map row_entry c.loop-given.rows.items) (map row_entry c.note_standing.new.rows.items)
    c.loop-given-test.true c.given-item.is
    (λ i. (c.stamp.ensures i, (c.archive.ensures i, c.original.ensures i))) c.loop-given.invariant c.in_ok-note_standing.ensures

pub returns : goal.returns
returns c =
    let x = c.self.inside in
    let s = c.args.self.now in
    let rows = c.behind-behind.result.now in
    let stamps = λ (k : Key). sym (ap (λ (t : StampedState). fmap.get t.stamps k) c.self.view_is) ∙ get-stamps_in x.stamps c.self.invariant.0 k in
    let whole : take c.loop-given.given-index rows ≡ rows = take_all c.loop-given.given-index rows c.loop-given-test.false in
    above_behind s c.args.start x.stamps (order_of x.order) (map stamp_and_key rows) x.number (map row_entry c.loop-given.rows.items) stamps c.self.invariant.1 c.behind-behind.ensures
    (c.loop-given.invariant ∙ ap (λ (l : List OrderRow). flat_map (standing_entry s) (map stamp_and_key l)) whole)
