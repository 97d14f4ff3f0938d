use Rattle.std.proofs.Common.{◌≡◌, ℕ, ◌<◌, ◌^◌, ◌++◌, ◌∷◌, [], List, Option, length, sym, ap, subst, ◌∙◌, arith}
use Rattle.std.specs.Prelude.{All, option_copied, codes}
use Rattle.std.specs.FinMap as map
use Rattle.harvest_lattice.specs.Lattice.{Key, Kept}
use Rattle.replica_exchange.specs.StateText.{counted_text, IsEntry}
use Rattle.replica_exchange.specs.DeltaText.{from_line}
use Rattle.delta_parts.specs.declared.place.Place.{Place}
use Rattle.delta_parts.specs.Filling.{IsFilled, rows_above}
use Rattle.delta_parts.specs.PartRule.{delta_within, entries_within}
use Rattle.delta_parts.specs.PartText.{head, IsPlace}
use Rattle.delta_parts.proofs.FillLemmas.{cut_is_further, filled_is_part, listed}
use Rattle.delta_parts.proofs.TextLemmas.{part_written}
use Rattle.delta_parts.proofs.writing.write_part_of.Goals as goal

pub returns : goal.returns
returns c =
    let s = c.args.stamped.now in
    let n : ℕ = c.args.start in
    let behind : Option Place = option_copied c.args.behind in
    let until : Option Place = c.in_ok-until.until in
    let es : List (Key × Kept) = map.entries c.args.state.now in
    let text : List ℕ = c.fill.new.self.text.items in
    let count : ℕ = c.fill.new.self.count in
    let sorted = map.entries_sorted c.args.state.now in
    let filled = subst (λ (rows : List (Key × Kept)). IsFilled s n rows until text count) c.rows_from.ensures c.in_ok-until.ensures in
    let front : List (Key × Kept) = rows_above s n filled.front in
    let its : map.entries (entries_within s n behind until) ≡ front = filled_is_part s n behind es sorted until text count c.requires.entries filled in
    let lent : option_copied c.as_ref.result ≡ until = c.as_ref.ensures.value in
    let counts : count ≡ length front = let k = filled.lines.counted in omega (arith, k) in
    let headed : c.write_head.new.out.items ≡ head.spelled (behind, until) =
    c.in_ok-write_head.ensures.written ∙ (λ i. c.new-out.ensures.items i ++ head.spelled (behind, lent i)) in
    let spanned = c.in_ok-write_span.ensures.written ∙ (λ i. c.extend_from_slice.new.self.items ++ from_line (c.incarnation.ensures i) n (c.number.ensures i)) in
    let entries = listed c.extend_from_slice-2.new.self.items c.write_decimal.new.out.items c.push.new.self.items c.extend_from_slice-3.new.self.items text count front
    c.in_ok-write_decimal.ensures.ok c.in_ok-push.ensures.items (c.in_ok-extend_from_slice-3.ensures.items ∙ ap (λ (u : List ℕ). c.push.new.self.items ++ u) c.as_slice.ensures.value) filled.lines.text counts in
    record {
      until = until;
      text =
          part_written (delta_within s n behind until) (head.spelled (behind, until)) c.write_head.new.out.items c.extend_from_slice.new.self.items c.write_span.new.out.items
          c.extend_from_slice-2.new.self.items c.extend_from_slice-3.new.self.items c.extend_from_slice-4.new.self.items
          headed c.in_ok-extend_from_slice.ensures.items spanned c.in_ok-extend_from_slice-2.ensures.items
          (entries ∙ (λ i. c.extend_from_slice-2.new.self.items ++ counted_text (sym its i))) c.in_ok-extend_from_slice-4.ensures.items;
      fits = record {
        behind = c.in_ok-write_head.ensures.behind;
        until = subst IsPlace lent c.in_ok-write_head.ensures.until;
        delta = record {
          incarnation = subst (λ (m : ℕ). m < 2 ^ 64) c.incarnation.ensures c.in_ok-write_span.ensures.fits.0;
          order = c.requires.within;
          end = subst (λ (m : ℕ). m < 2 ^ 64) c.number.ensures c.in_ok-write_span.ensures.fits.1;
          state = record {
            each = subst (All IsEntry) (sym its) filled.lines.fits;
            count = subst (λ (l : List (Key × Kept)). length l < 2 ^ 64) (sym its) (subst (λ (m : ℕ). m < 2 ^ 64) counts c.in_ok-write_decimal.ensures.fits);
          };
        };
      };
      further = cut_is_further s n behind es sorted until filled.front filled.rest filled.parts filled.cut;
    }
