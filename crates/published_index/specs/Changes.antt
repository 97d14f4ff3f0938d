-- What the merger's log of changes holds, and what it does to a copy.
use Rattle.std.specs.Prelude.{List, [], ◌∷◌, box_value}
use Rattle.logbook.specs.Pages.{Book}
use Rattle.memento_index.specs.declared.merge.Merge.{Merge}
use Rattle.replica_exchange.specs.Stamps.{IsStamped}
use Rattle.published_index.specs.declared.editions.Edition.{Edition}
use Rattle.published_index.specs.declared.editions.Change.{Change}
use Rattle.published_index.specs.declared.editions.Change.TheVariants.{Reach, Add}
use Rattle.published_index.specs.Batches.{Batch, merges_of}
use Rattle.published_index.specs.Marks.{successes_with_last}
use Rattle.published_index.specs.Stamping.{stamped_with}

-- the copy after a change: a merge is absorbed, and a mark is put in place
abbrev pub after_change : Edition → Change → Edition
after_change x (Add m) = record { stamped = stamped_with x.stamped (box_value m); mark = x.mark }
after_change x (Reach mark) = record { stamped = x.stamped; mark = mark }

-- the merges that changes add
abbrev pub merges_in : List Change → List Merge
merges_in [] = []
merges_in (Reach mark ∷ cs) = merges_in cs
merges_in (Add m ∷ cs) = box_value m ∷ merges_in cs

-- the batches of a copy that is shown: its last attempt succeeded
abbrev pub batches_of : Edition → List Batch
batches_of x = successes_with_last x.mark.seen.log

-- the state with its stamps is what the merges of the copy's batches made
abbrev pub IsWhole : Edition → Type 0
IsWhole x = IsStamped (merges_of (batches_of x)) x.stamped

-- the log that the copy's mark is of
abbrev pub book_of : Edition → Book
book_of x = x.mark.seen.book
