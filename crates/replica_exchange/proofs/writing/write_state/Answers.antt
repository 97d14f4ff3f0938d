use Rattle.std.proofs.Common.{ℕ, ◌<◌, ◌^◌, ◌++◌, List, ap, subst, ◌∙◌}
use Rattle.std.specs.Prelude.{codes}
use Rattle.std.specs.FinMap as fmap
use Rattle.replica_exchange.proofs.WritingLemmas.{state_written}
use Rattle.replica_exchange.proofs.writing.write_state.Goals as goal

pub returns-clause-written : goal.returns-clause-written
returns-clause-written c =
    let first = c.in_ok-extend_from_slice.ensures.items ∙ ap (λ (u : List ℕ). u ++ codes "memento-state 2\nentries ") c.new-out.ensures.items in
    state_written c.args.state.now c.extend_from_slice.new.self.items c.write_number.new.out.items c.write_entries.new.out.items c.extend_from_slice-2.new.self.items c.len.result first c.len.ensures
    c.in_ok-write_number.ensures.written c.in_ok-write_entries.ensures.written c.in_ok-extend_from_slice-2.ensures.items

pub returns-clause-fits : goal.returns-clause-fits
returns-clause-fits c = record {
  each = c.in_ok-write_entries.ensures.fits;
  count = subst (λ n. n < 2 ^ 64) (c.len.ensures ∙ fmap.len-entries c.args.state.now) c.write_number.ensures.fits;
}
