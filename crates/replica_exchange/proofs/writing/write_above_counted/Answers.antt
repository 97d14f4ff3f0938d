use Rattle.std.proofs.Common.{ℕ, ◌<◌, ◌^◌, subst}
use Rattle.std.specs.FinMap as fmap
use Rattle.replica_exchange.specs.Stamps.{entries_above}
use Rattle.replica_exchange.proofs.WritingLemmas.{counted_written, written_well}
use Rattle.replica_exchange.proofs.writing.write_above_counted.Goals as goal

pub returns-clause-written : goal.returns-clause-written
returns-clause-written c =
    counted_written c.write_entries_above.result (fmap.entries (entries_above c.args.stamped.now c.args.start)) c.args.out.now.items c.write_number.new.out.items
    c.write_entries_above.new.out.items c.count_above.result c.count_above.ensures
    c.in_ok-write_number.ensures.written c.write_entries_above.ensures.written

pub returns-clause-fits : goal.returns-clause-fits
returns-clause-fits c =
    written_well c.write_entries_above.result (λ each. record {
      each = each;
      count = subst (λ (n : ℕ). n < 2 ^ 64) c.count_above.ensures c.write_number.ensures.fits;
    }) c.write_entries_above.ensures.fits
