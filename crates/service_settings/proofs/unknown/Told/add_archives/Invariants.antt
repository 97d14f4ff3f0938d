use Rattle.std.proofs.Common.{◌≡◌, ℕ, List, ◌++◌, drop}
use Rattle.toml.specs.View.{items_view}
use Rattle.service_settings.specs.Told.{IsTold}
use Rattle.service_settings.specs.Unknown.{archives_lines}
use Rattle.service_settings.proofs.unknown.Told.add_archives.Given as goal

abbrev pub invariant-loop-archive : goal.invariant-loop-archive
invariant-loop-archive l = (all : List (List ℕ)) → IsTold l.fn.self all
    → (done : List (List ℕ)) × IsTold l.self done
    × (done ++ archives_lines (items_view (drop l.archive-index l.archives)) ≡ all ++ archives_lines (items_view l.archives))
