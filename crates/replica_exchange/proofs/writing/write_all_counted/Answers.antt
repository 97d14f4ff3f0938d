use Rattle.std.proofs.Common.{ℕ, ◌<◌, ◌^◌, subst, ◌∙◌}
use Rattle.std.specs.FinMap as fmap
use Rattle.replica_exchange.proofs.WritingLemmas.{counted_written, written_well}
use Rattle.replica_exchange.proofs.writing.write_all_counted.Goals as goal

pub returns-clause-written : goal.returns-clause-written
returns-clause-written c =
    counted_written c.write_entries.result (fmap.entries c.args.state.now) c.args.out.now.items c.write_number.new.out.items c.write_entries.new.out.items c.len.result
    (c.len.ensures ∙ fmap.len-entries c.args.state.now)
    c.in_ok-write_number.ensures.written c.write_entries.ensures.written

pub returns-clause-fits : goal.returns-clause-fits
returns-clause-fits c =
    written_well c.write_entries.result (λ each. record {
      each = each;
      count = subst (λ (n : ℕ). n < 2 ^ 64) (c.len.ensures ∙ fmap.len-entries c.args.state.now) c.write_number.ensures.fits;
    }) c.write_entries.ensures.fits
