-- How many walks of an archive ended in which way.
use Rattle.std.specs.Prelude.{ℕ, List, ◌++◌, codes, if◌then◌else◌, Result, Ok, Err}
use Rattle.std.specs.Fmt.{decimal}
use Rattle.harvest_lattice.specs.Knowledge.{Harvested}
use Rattle.harvester.specs.declared.faults.WalkFault.{WalkFault}
use Rattle.service_log.specs.declared.counts.Counts.{Counts}
use Rattle.service_status.specs.Counts.{one_more}

-- the counts with one walk more: one that failed, or that gave a part harvest or a whole one
abbrev pub counts_after : Counts → Result Harvested WalkFault → Counts
counts_after counts (Ok harvest) =
    if harvest.is_whole then record counts { walks = one_more counts.walks }
    else record counts { walks = one_more counts.walks; parts = one_more counts.parts }
counts_after counts (Err fault) = record counts { walks = one_more counts.walks; failed = one_more counts.failed }

-- how many walks failed of how many
abbrev pub counts_words : Counts → List ℕ
counts_words counts = decimal counts.failed ++ codes " of " ++ decimal counts.walks ++ codes " walks failed"
