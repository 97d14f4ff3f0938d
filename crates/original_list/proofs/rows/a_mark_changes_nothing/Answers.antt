use Rattle.std.proofs.Common.{◌≡◌, ℕ, List, Bool, cond, drop, length, map, sym, ap}
use Rattle.original_list.specs.Rows.{lines_of, mark, row_of}
use Rattle.original_list.proofs.rows.a_mark_changes_nothing.Goals as goal

pub returns : goal.returns
returns c = λ text without.
    sym (ap (λ (b : Bool). map row_of (lines_of (cond b (drop (length mark) text) text))) without)
