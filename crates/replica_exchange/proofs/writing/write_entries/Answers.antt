use Rattle.std.proofs.Common.{◌++◌, map, ap, subst, ◌∙◌}
use Rattle.std.specs.Prelude.{All}
use Rattle.std.specs.List.{flat_map}
use Rattle.std.proofs.lemmas.List.{map_push}
use Rattle.std.proofs.lemmas.Map.Iter.{iter_end}
use Rattle.harvest_lattice.specs.Rows.{lent_entry}
use Rattle.replica_exchange.specs.StateText.{entry_text, IsEntry}
use Rattle.replica_exchange.proofs.WritingLemmas.{more}
use Rattle.replica_exchange.proofs.writing.write_entries.Goals as goal

pub loop-archive-preserved : goal.loop-archive-preserved
loop-archive-preserved c =
    let entry = c.in_ok-write_entry.ensures in
    rw (map_push lent_entry c.loop-archive.yielded ((c.in-Some.archive, c.in-Some.original), c.in-Some.entry))
    (more IsEntry entry_text c.args.out.now.items c.loop-archive.out.items c.write_entry.new.out.items (map lent_entry c.loop-archive.yielded)
    ((c.in-Some.archive, c.in-Some.original.now), c.in-Some.entry.now) c.loop-archive.invariant entry.written entry.fits)

pub returns-clause-written : goal.returns-clause-written
returns-clause-written c =
    let start = c.into_iter-archive-iterator.ensures.into_iter_gives ∙ c.rows-archive-items.ensures in
    let whole = iter_end lent_entry _ c.loop-archive.yielded _ _ _ _ start c.loop-archive.yielded_by c.in-None.is c.next.ensures.steps in
    c.loop-archive.invariant.text ∙ ap (λ es. c.args.out.now.items ++ flat_map entry_text es) whole.0

pub returns-clause-fits : goal.returns-clause-fits
returns-clause-fits c =
    let start = c.into_iter-archive-iterator.ensures.into_iter_gives ∙ c.rows-archive-items.ensures in
    let whole = iter_end lent_entry _ c.loop-archive.yielded _ _ _ _ start c.loop-archive.yielded_by c.in-None.is c.next.ensures.steps in
    subst (All IsEntry) whole.0 c.loop-archive.invariant.fits
