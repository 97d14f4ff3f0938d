use Rattle.std.proofs.Common.{◌≡◌, ℕ, ◌<◌, ◌≤◌, ◌^◌, ◌++◌, List, ap, subst, ◌∙◌}
use Rattle.std.specs.Prelude.{codes}
use Rattle.std.specs.FinMap as fmap
use Rattle.replica_exchange.specs.StateText.{counted_text, AreEntries}
use Rattle.replica_exchange.specs.Stamps.{entries_above}
use Rattle.replica_exchange.specs.DeltaText.{from_line}
use Rattle.replica_exchange.specs.CursorRule.{delta_from, start_from}
use Rattle.replica_exchange.proofs.WritingLemmas.{delta_counted}
use Rattle.replica_exchange.proofs.writing.write_delta.Goals as goal

pub returns-clause-written : goal.returns-clause-written
returns-clause-written c =
    let s = c.args.stamped.now in
    let start : c.start_from-start.result ≡ start_from s c.args.cursor = c.start_from-start.ensures.start in
    let first = c.in_ok-extend_from_slice.ensures.items ∙ ap (λ (u : List ℕ). u ++ codes "memento-delta 2\n") c.new-out.ensures.items in
    let spanned = c.in_ok-write_span.ensures.written ∙ (λ i. c.extend_from_slice.new.self.items ++ from_line (c.incarnation.ensures i) (start i) (c.number.ensures i)) in
    let listed = c.in_ok-write_counted.ensures.written ∙ (λ i. c.extend_from_slice-2.new.self.items ++ counted_text (fmap.entries (entries_above s (start i)))) in
    delta_counted (delta_from s c.args.cursor) c.extend_from_slice.new.self.items c.write_span.new.out.items c.extend_from_slice-2.new.self.items c.write_counted.new.out.items
    c.extend_from_slice-3.new.self.items
    first spanned c.in_ok-extend_from_slice-2.ensures.items listed c.in_ok-extend_from_slice-3.ensures.items

pub returns-clause-fits : goal.returns-clause-fits
returns-clause-fits c =
    let s = c.args.stamped.now in
    let start : c.start_from-start.result ≡ start_from s c.args.cursor = c.start_from-start.ensures.start in
    let within : start_from s c.args.cursor ≤ s.number = subst (λ (n : ℕ). n ≤ s.number) start c.start_from-start.ensures.within in
    let incarnation : s.incarnation < 2 ^ 64 = subst (λ (n : ℕ). n < 2 ^ 64) c.incarnation.ensures c.write_span.ensures.fits.0 in
    let end : s.number < 2 ^ 64 = subst (λ (n : ℕ). n < 2 ^ 64) c.number.ensures c.write_span.ensures.fits.1 in
    record {
      incarnation = incarnation;
      order = within;
      end = end;
      state = subst (λ (n : ℕ). AreEntries (fmap.entries (entries_above s n))) start c.in_ok-write_counted.ensures.fits;
    }
