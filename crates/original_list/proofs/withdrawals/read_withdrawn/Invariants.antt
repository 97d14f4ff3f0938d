use Rattle.std.proofs.Common.{◌≤◌, length}
use Rattle.original_list.proofs.withdrawals.read_withdrawn.Given as goal

abbrev pub invariant-loop-place : goal.invariant-loop-place
invariant-loop-place l = (length l.withdrawals.archives.items ≤ 1000) × (length l.withdrawals.prefixes.items ≤ 1000)
