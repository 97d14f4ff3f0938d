use Rattle.std.proofs.Common.{◌≡◌, ℕ, List, ◌++◌}
use Rattle.toml.specs.View.{members_view}
use Rattle.service_settings.specs.Told.{IsTold}
use Rattle.service_settings.specs.Unknown.{table_lines}
use Rattle.service_settings.proofs.unknown.Told.add_table.Given as goal

abbrev pub invariant-loop-key : goal.invariant-loop-key
invariant-loop-key l = (all : List (List ℕ)) → IsTold l.fn.self all
    → (done : List (List ℕ)) × IsTold l.self done
    × (done ++ table_lines l.place (members_view l.key-iterator) ≡ all ++ table_lines l.place (members_view l.table.entries))
