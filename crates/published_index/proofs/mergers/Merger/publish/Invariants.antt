use Rattle.std.proofs.Common.{drop}
use Rattle.published_index.specs.declared.marks.LogEntry.TheVariants.{Attempt}
use Rattle.published_index.specs.Changes.{merges_in}
use Rattle.published_index.proofs.mergers.Merger.publish.Given as goal

-- the batch that is pending
abbrev pub ghosts-offer : goal.ghosts-offer
ghosts-offer g a = record { entry = Attempt (merges_in (drop a.writer.now.behind a.writer.now.log.items)) }
