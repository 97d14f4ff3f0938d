-- What a gate has answered from and was told: its pass.
use Rattle.std.specs.Prelude.{◌≡◌, ◌⊎◌, List, [], false, Option, Some, None}
use mathlib.Core.List.{IsPrefix}
use Rattle.logbook.specs.Pages.{Book}
use Rattle.published_index.specs.declared.views.Opening.{Opening}
use Rattle.published_index.specs.declared.views.ReaderView.{ReaderView}
use Rattle.published_index.specs.declared.faults.GateFault.{GateFault}
use Rattle.published_index.specs.declared.faults.GateFault.TheVariants.{NoMemory, Closed}
use Rattle.published_index.specs.declared.marks.Mark.{Mark}
use Rattle.published_index.specs.Batches.{Batch}
use Rattle.published_index.specs.Marks.{successes}

-- the front of the last reply, and the longest list that was told since: each other one begins it
pub record Pass : Type 0 where
  pub front : List Batch
  pub told : List Batch

-- the pass of a gate that has answered nothing and was told nothing
abbrev pub empty_pass : Pass
empty_pass = record { front = []; told = [] }

-- after an entry the new front begins with the old one and with what was told, and nothing told is left
pub record Advances (old new : Pass) : Type 0 where
  pub seen : IsPrefix old.front new.front
  pub told : IsPrefix old.told new.front
  pub settled : new.told ≡ []

-- after a receipt of this list: the front stays, and the longest told list is the longer of that before and this one
pub record Learns (old : Pass) (list : List Batch) (new : Pass) : Type 0 where
  pub front : new.front ≡ old.front
  pub before : IsPrefix old.told new.told
  pub told : IsPrefix list new.told
  pub one : (new.told ≡ old.told) ⊎ (new.told ≡ list)

-- without memory for the reply the gate has advanced, and if nothing can be entered its pass is as it was
abbrev pub AfterFault : GateFault → Pass → Pass → Type 0
AfterFault NoMemory old new = Advances old new
AfterFault Closed old new = new ≡ old

-- the longest list that was told, if any was
abbrev pub told_list : Option Mark → List Batch
told_list None = []
told_list (Some mark) = successes mark.seen.log

-- the opening that has this log
abbrev pub opening_of : Book → Opening
opening_of b = record { number = b.number; log_name = b.log_name; cells_name = b.cells_name }

abbrev pub no_opening : Opening
no_opening = record { number = 0; log_name = 0; cells_name = 0 }

-- the view of a reader that has seen no copy
abbrev pub no_view : ReaderView
no_view = record { named = false; opening = no_opening; incarnation = 0; front = [] }
