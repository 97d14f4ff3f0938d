use Rattle.std.proofs.Common.{◌≡◌, length, ◌++◌}
use Rattle.link_format.specs.Writing.{Extends, escape}
use Rattle.link_format.proofs.writing.append_escaped.Given as goal

abbrev pub invariant-runs : goal.invariant-runs
invariant-runs l = record {
  same : l.out.items ++ escape l.rest ≡ l.fn.out.items ++ escape l.value;
  extends : Extends l.fn.out.items l.out.items;
}

abbrev pub decreases-runs : goal.decreases-runs
decreases-runs l = length l.rest
