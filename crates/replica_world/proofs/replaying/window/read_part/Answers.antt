use Rattle.std.proofs.Common.{refl, rules}
use Rattle.std.proofs.KnownBytes.{Keeps-refl, Keeps-trans}
use Rattle.replica_world.proofs.Ends.{none_behind}
use Rattle.replica_world.proofs.Windows.{same_on, skips_on, fills_on, reads_on_on}
use Rattle.replica_world.proofs.replaying.window.read_part.Goals as goal

pub pieces-init : goal.pieces-init
pieces-init g c = record { on = same_on _ _; front = c.requires; kept = Keeps-refl _; failures = refl }

pub pieces-preserved : goal.pieces-preserved
pieces-preserved g c = record {
  on = reads_on_on _ _ _ _ _ _ (reads_on_on _ _ _ _ _ _ c.pieces.invariant.on (fills_on _ _ _ _ c.in_ok-fill.ensures.ok))
      (skips_on _ _ _ c.skip_empty_lines.ensures.drops c.skip_empty_lines.ensures.bytes);
  front = none_behind _ _ c.skip_empty_lines.ensures.bytes;
  kept = Keeps-trans _ _ _ c.pieces.invariant.kept c.flush.ensures.bytes;
  failures = search rules;
}
