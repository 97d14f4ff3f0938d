use Rattle.std.proofs.Common.{map, sym, ap, ◌∙◌}
use Rattle.std.proofs.lemmas.List.{map_push}
use Rattle.std.proofs.lemmas.Map.Iter.{iter_end}
use Rattle.harvest_lattice.specs.Lattice.{Entries, Key, join}
use Rattle.harvest_lattice.specs.Rows.{lent_entry}
use Rattle.harvest_lattice.proofs.Knowledge.{lat-nil}
use Rattle.round_values.specs.Ahead.{taken_of}
use Rattle.round_values.proofs.AheadLemmas.{all_entries, entry_more}
use Rattle.round_values.proofs.ahead.without_ahead.Goals as goal

pub loop-archive-init : goal.loop-archive-init
loop-archive-init c = c.new-rest.ensures ∙ sym lat-nil

pub loop-archive-preserved : goal.loop-archive-preserved
loop-archive-preserved c =
    let last = c.args.last.0 in
    let before = map lent_entry c.loop-archive.yielded in
    let key : Key = (c.in-Some.archive, c.in-Some.original.now) in
    rw (map_push lent_entry c.loop-archive.yielded ((c.in-Some.archive, c.in-Some.original), c.in-Some.entry))
    (c.in_ok-add_entry.ensures
    ∙ (ap (λ (x : Entries). join x (taken_of last key c.in-Some.entry.now)) c.loop-archive.invariant
    ∙ entry_more last before (key, c.in-Some.entry.now)))

pub returns : goal.returns
returns c =
    let start = c.into_iter-archive-iterator.ensures.into_iter_gives ∙ c.rows-archive-items.ensures in
    let whole = iter_end lent_entry _ c.loop-archive.yielded _ _ _ _ start c.loop-archive.yielded_by c.in-None.is c.next.ensures.steps in
    c.loop-archive.invariant ∙ all_entries c.args.last.0 c.args.state.now (map lent_entry c.loop-archive.yielded) whole.0
