use Rattle.std.proofs.Common.{◌≡◌, List, length, sym, ap, ◌∙◌, arith}
use Rattle.memento_time.specs.declared.mementos.Memento.{Memento}
use Rattle.memento_index.specs.Holdings.{held_by}
use Rattle.memento_index.specs.Tallies.{Tallied, each_once}
use Rattle.memento_index.proofs.Shared.{without_columns}
use Rattle.memento_index.proofs.listing.Listing.reserve.Goals as goal

pub returns : goal.returns
returns c =
    let own = c.in_ok-new.field-0.value in
    let plain = without_columns c.self.inside.holding c.in_default.not-Columns in
    let view : held_by c.self.inside.holding ≡ c.args.self.now = c.self.view_is in
    let boxed : own.entries ≡ c.reserve-2.new.self.entries = ap (λ (t : Tallied). t.entries) c.in_ok-new.ensures.ok in
    let entries : own.entries ≡ c.args.self.now.entries = boxed ∙ (c.reserve-2.ensures.entries
    ∙ (c.in_ok-own.ensures ∙ (ap (λ (ms : List Memento). each_once ms) c.mementos.ensures
    ∙ (plain.0 ∙ ap (λ (t : Tallied). t.entries) view)))) in
    let lengths = ap (λ es. length es) boxed in
    record {
      entries = entries;
      room = omega (arith, sym (ap (λ (t : Tallied). t.room) view) ∙ plain.1);
      made = (omega (arith, lengths, c.in_ok-most.ensures.made.0), omega (arith, ap (λ (t : Tallied). t.room) c.in_ok-new.ensures.ok, c.in_ok-most.ensures.made.1));
    }
