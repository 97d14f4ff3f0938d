use Rattle.std.proofs.Common.{◌≡◌, ℕ, ◌<◌, ◌++◌, [], drop, slice_index_or}
use Rattle.httpdate.specs.Date.{date_text}
use Rattle.httpdate.specs.declared.date.HttpDate.{HttpDate}
use Rattle.memento_time.specs.Names.{day_names}
use Rattle.memento_time.proofs.moments.date_under_any_name.Given as goal

abbrev pub invariant-loop-name : goal.invariant-loop-name
invariant-loop-name l = (k : ℕ) → k < l.name-index → (date : HttpDate) → ¬ (slice_index_or day_names k [] ++ drop 3 l.bytes ≡ date_text date)
