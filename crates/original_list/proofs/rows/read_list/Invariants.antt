use Rattle.std.proofs.Common.{map, take}
use Rattle.original_list.specs.Rows.{row_of}
use Rattle.original_list.proofs.RowLemmas.{IsRead}
use Rattle.original_list.proofs.rows.read_list.Given as goal

abbrev pub invariant-loop-place : goal.invariant-loop-place
invariant-loop-place l = IsRead (map row_of (map (λ line. line.now) (take l.place l.line-items))) l.listed
