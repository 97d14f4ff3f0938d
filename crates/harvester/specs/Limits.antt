-- How much a job may take.
use Rattle.std.specs.Prelude.{ℕ}
use Rattle.harvest_lattice.specs.declared.harvest.TheConstants.Harvest.{MAX_MEMENTOS}

-- the most URLs of a job that are known
abbrev pub max_pages : ℕ
max_pages = 128

-- the most distinct mementos of a job's pages: those that a harvest may have
abbrev pub max_mementos : ℕ
max_mementos = MAX_MEMENTOS
