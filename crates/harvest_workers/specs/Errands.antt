-- Which archive is asked.
use Rattle.std.specs.Prelude.{ℕ}
use Rattle.harvest_workers.specs.declared.errands.Errand.{Errand}
use Rattle.harvest_workers.specs.declared.errands.Errand.TheVariants.{Round, Wish}

-- the archive of a turn, or the one that a wish is for
abbrev pub archive_of : Errand → ℕ
archive_of (Round turn) = turn.archive
archive_of (Wish archive) = archive
