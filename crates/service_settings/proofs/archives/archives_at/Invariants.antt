use Rattle.std.proofs.Common.{◌≡◌, ◌≤◌, length}
use Rattle.std.specs.Prelude.{All, IfSome}
use Rattle.service_settings.proofs.archives.archives_at.Given as goal

abbrev pub invariant-loop-value : goal.invariant-loop-value
invariant-loop-value l = record {
  count : length l.archives.items ≡ l.value-index;
  few : All (λ archive. IfSome archive.at_once (λ own. own ≤ l.most_at_once)) l.archives.items;
}
