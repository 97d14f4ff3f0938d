use Rattle.std.proofs.Common.{◌≡◌, List, length, ap, ◌∙◌, sym, arith}
use Rattle.std.specs.FinMap as fmap
use Rattle.std.specs.List.{filter}
use Rattle.std.proofs.lemmas.Map.Iter.{iter_end, iter_turn}
use Rattle.harvest_lattice.specs.Rows.{lent_entry}
use Rattle.harvest_lattice.specs.Lattice.{Key, Kept}
use Rattle.replica_exchange.specs.Stamps.{above}
use Rattle.replica_exchange.proofs.StampLemmas.{entries_filtered}
use Rattle.replica_exchange.proofs.writing.count_above.Goals as goal

pub overflow_add-count : goal.overflow_add-count
overflow_add-count c =
    let start = c.into_iter-archive-iterator.ensures.into_iter_gives ∙ c.rows-archive-items.ensures in
    let turn = iter_turn lent_entry _ c.loop-archive.yielded _ _ _ _ start c.loop-archive.yielded_by _ c.in-Some.is c.next.ensures.steps in
    let few = c.loop-archive.invariant.few in
    let all : c.len-all.result ≡ length (fmap.entries c.state-held.result.now) = c.len-all.ensures ∙ fmap.len-entries c.state-held.result.now in
    let less = turn.0 in
    omega (arith, few, all, less, c.len-all.type_inv)

pub returns : goal.returns
returns c =
    let rows = c.rows-archive-items.ensures ∙ (λ i. fmap.entries ((c.state-held.ensures ∙ c.index.ensures) i)) in
    let whole = iter_end lent_entry _ c.loop-archive.yielded _ _ _ _ (c.into_iter-archive-iterator.ensures.into_iter_gives ∙ rows) c.loop-archive.yielded_by c.in-None.is c.next.ensures.steps in
    let test = above c.args.stamped.now c.args.start in
    c.loop-archive.invariant.count ∙ ap (λ (es : List (Key × Kept)). length es) (ap (λ (es : List (Key × Kept)). filter test es) whole.0 ∙ sym (entries_filtered c.args.stamped.now c.args.start))
