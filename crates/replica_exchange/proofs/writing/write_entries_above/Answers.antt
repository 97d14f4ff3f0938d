use Rattle.std.proofs.Common.{◌≡◌, ◌++◌, ◌∷◌, [], List, map, ap, subst, ◌∙◌, sym}
use Rattle.std.specs.Prelude.{All}
use Rattle.std.specs.FinMap as fmap
use Rattle.std.specs.List.{flat_map, filter}
use Rattle.std.proofs.lemmas.List.{map_push}
use Rattle.std.proofs.lemmas.List.Elements.{filter-append}
use Rattle.std.proofs.lemmas.Map.Iter.{iter_end}
use Rattle.harvest_lattice.specs.Rows.{lent_entry}
use Rattle.harvest_lattice.specs.Lattice.{Key, Kept}
use Rattle.replica_exchange.specs.StateText.{entry_text, IsEntry}
use Rattle.replica_exchange.specs.Stamps.{above}
use Rattle.replica_exchange.proofs.StampLemmas.{entries_filtered}
use Rattle.replica_exchange.proofs.WritingLemmas.{HasWritten, more_some}
use Rattle.replica_exchange.proofs.writing.write_entries_above.Goals as goal

pub loop-archive-preserved : goal.loop-archive-preserved
loop-archive-preserved c =
    let entry : Key × Kept = ((c.in-Some.archive, c.in-Some.original.now), c.in-Some.entry.now) in
    let test = above c.args.stamped.now c.args.start in
    let pushed : filter test (map lent_entry c.loop-archive.yielded) ++ filter test (entry ∷ []) ≡ filter test
    (map lent_entry (c.loop-archive.yielded ++ ((c.in-Some.archive, c.in-Some.original), c.in-Some.entry) ∷ [])) =
    sym (filter-append test (map lent_entry c.loop-archive.yielded) (entry ∷ []))
    ∙ ap (λ (es : List (Key × Kept)). filter test es) (sym (map_push lent_entry c.loop-archive.yielded ((c.in-Some.archive, c.in-Some.original), c.in-Some.entry))) in
    subst (λ (es : List (Key × Kept)). HasWritten IsEntry entry_text c.args.out.now.items c.write_if_above.new.out.items es) pushed
    (more_some IsEntry entry_text c.args.out.now.items c.loop-archive.out.items c.write_if_above.new.out.items (filter test (map lent_entry c.loop-archive.yielded))
    (filter test (entry ∷ [])) c.loop-archive.invariant c.in_ok-write_if_above.ensures.written c.in_ok-write_if_above.ensures.fits)

pub returns-clause-written : goal.returns-clause-written
returns-clause-written c =
    let rows = c.rows-archive-items.ensures ∙ (λ i. fmap.entries ((c.state.ensures ∙ c.index.ensures) i)) in
    let whole = iter_end lent_entry _ c.loop-archive.yielded _ _ _ _ (c.into_iter-archive-iterator.ensures.into_iter_gives ∙ rows) c.loop-archive.yielded_by c.in-None.is c.next.ensures.steps in
    let test = above c.args.stamped.now c.args.start in
    c.loop-archive.invariant.text ∙ ap (λ (es : List (Key × Kept)). c.args.out.now.items ++ flat_map entry_text es)
    (ap (λ (es : List (Key × Kept)). filter test es) whole.0 ∙ sym (entries_filtered c.args.stamped.now c.args.start))

pub returns-clause-fits : goal.returns-clause-fits
returns-clause-fits c =
    let rows = c.rows-archive-items.ensures ∙ (λ i. fmap.entries ((c.state.ensures ∙ c.index.ensures) i)) in
    let whole = iter_end lent_entry _ c.loop-archive.yielded _ _ _ _ (c.into_iter-archive-iterator.ensures.into_iter_gives ∙ rows) c.loop-archive.yielded_by c.in-None.is c.next.ensures.steps in
    let test = above c.args.stamped.now c.args.start in
    subst (All IsEntry) (ap (λ (es : List (Key × Kept)). filter test es) whole.0 ∙ sym (entries_filtered c.args.stamped.now c.args.start)) c.loop-archive.invariant.fits
