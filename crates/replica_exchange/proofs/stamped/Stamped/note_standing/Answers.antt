use Rattle.std.proofs.Common.{◌≡◌, ℕ, map, Some, None, sym, ap, ◌∙◌}
use Rattle.std.specs.Option.{option_copied}
use Rattle.std.specs.FinMap as fmap
use Rattle.std.proofs.lemmas.List.{map_push}
use Rattle.harvest_lattice.specs.declared.row.Row.{Row}
use Rattle.harvest_lattice.specs.Lattice.{Key, Entries}
use Rattle.harvest_lattice.specs.Rows.{row_entry}
use Rattle.replica_exchange.specs.Stamps.{StampedState}
use Rattle.replica_exchange.proofs.OrderLemmas.{nothing_added, other_stamp, no_entry, entry_added}
use Rattle.replica_exchange.proofs.stamped.Stamped.note_standing.Goals as goal

pub returns-then-not-has_stamp : goal.returns-then-not-has_stamp
returns-then-not-has_stamp c =
    let row : ℕ × Key = (c.args.stamp, (c.args.archive, c.args.original.now)) in
    nothing_added c.args.self.now row (map row_entry c.args.rows.now.items) (other_stamp c.args.self.now row (sym c.has_stamp.ensures ∙ c.if-not-has_stamp.true))

pub returns-in_default : goal.returns-in_default
returns-in_default c =
    let s = c.args.self.now in
    let k : Key = (c.args.archive, c.args.original.now) in
    let state : c.state.result.now ≡ s.entries = c.state.ensures ∙ ap (λ (t : StampedState). t.entries) c.self.view_is in
    let none : fmap.get s.entries k ≡ None = ap (λ (e : Entries). fmap.get e k) (sym state) ∙ (sym c.entry.ensures ∙ ap option_copied c.in_default.is) in
    nothing_added s (c.args.stamp, k) (map row_entry c.args.rows.now.items) (no_entry s (c.args.stamp, k) (sym c.has_stamp.ensures ∙ c.if-not-has_stamp.false) none)

pub returns : goal.returns
returns c =
    let s = c.args.self.now in
    let k : Key = (c.args.archive, c.args.original.now) in
    let state : c.state.result.now ≡ s.entries = c.state.ensures ∙ ap (λ (t : StampedState). t.entries) c.self.view_is in
    let there : fmap.get s.entries k ≡ Some c.in-Some.entry.now = ap (λ (e : Entries). fmap.get e k) (sym state) ∙ (sym c.entry.ensures ∙ ap option_copied c.in-Some.is) in
    let row : Row = record { archive = c.args.archive; original = c.in_ok-copy.copy; entry = c.in_ok-kept.kept } in
    entry_added s (c.args.stamp, k) c.in-Some.entry.now (row_entry row) (map row_entry c.args.rows.now.items) (map row_entry c.push.new.self.items)
    (sym c.has_stamp.ensures ∙ c.if-not-has_stamp.false) there
    (ap (map row_entry) c.in_ok-push.ensures.items ∙ map_push row_entry c.args.rows.now.items row) (λ i. ((c.args.archive, c.in_ok-copy.ensures i), c.in_ok-kept.ensures i))
