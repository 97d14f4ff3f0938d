use Rattle.std.proofs.Common.{◌≡◌, ◌+◌, ◌++◌, List, ℕ, length, rules, arith, ap, ◌∙◌}
use Rattle.harvest_lattice.specs.Lattice.{Key, Kept}
use Rattle.replica_exchange.specs.StateText.{entry_text}
use Rattle.snapshot_sections.proofs.Appending.{on_err}
use Rattle.snapshots.proofs.Sectioning.{added_step}
use Rattle.snapshots.proofs.Beginning.{standing, standing_then}
use Rattle.snapshots.proofs.writing.Sections.add.Goals as goal

pub returns-clause-added : goal.returns-clause-added
returns-clause-added g c =
    let lent : c.deref.result.now ≡ c.make_room.new.self.entry.items = search rules in
    let more : c.in-Some.more ≡ c.make_room.new.self.entries + 1 = search rules in
    let size : length c.deref.result.now ≡ length c.make_room.new.self.entry.items = ap length lent in
    let fits = c.in_ok-make_room.ensures.fits in
    let e : Key × Kept = ((c.args.archive, c.args.original.now), c.args.entry.now) in
    λ start done stands. added_step start _ _ _ _ _ _ _ done e (c.in_ok-make_room.ensures.ended start done stands) c.in_ok-extend_from_slice.ensures.items
    (lent ∙ (c.in_ok-make_room.ensures.entry ∙ (c.in_ok-write_entry.ensures.written ∙ ap (λ (u : List ℕ). u ++ entry_text e) c.clear.ensures.items)))
    more c.in_ok-write_entry.ensures.fits (omega (arith, size, fits))

pub returns-in_err-write_entry-clause-begun : goal.returns-in_err-write_entry-clause-begun
returns-in_err-write_entry-clause-begun g c = on_err _ (standing _ _ _ c.args.self.now.written)

pub returns-then-len-gt-LONGEST_BODY-clause-begun : goal.returns-then-len-gt-LONGEST_BODY-clause-begun
returns-then-len-gt-LONGEST_BODY-clause-begun g c = standing _ _ _ c.args.self.now.written

pub returns-in_default-clause-begun : goal.returns-in_default-clause-begun
returns-in_default-clause-begun g c = standing_then _ _ _ _ _ _ _ c.make_room.new.self.written c.in_ok-make_room.ensures.ended

pub returns-in_err-extend_from_slice-clause-begun : goal.returns-in_err-extend_from_slice-clause-begun
returns-in_err-extend_from_slice-clause-begun g c =
    on_err _ (standing_then _ _ _ _ _ _ _ c.make_room.new.self.written c.in_ok-make_room.ensures.ended)
