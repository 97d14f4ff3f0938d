use Rattle.std.proofs.Common.{◌≡◌, ◌≤◌, ◌++◌, drop}
use Rattle.std.specs.Option.{option_map}
use Rattle.timemap_formats.specs.Listing.{rows_of}
use Rattle.timemap_formats.proofs.reading.rows_of.Given as goal

-- the rows that were read, and those of the links that are left, are those of all
abbrev pub invariant-loop-k : goal.invariant-loop-k
invariant-loop-k l =
    (3 ≤ l.k) × (option_map (λ more. l.rows.items ++ more) (rows_of l.front (drop l.k l.links)) ≡ rows_of l.front (drop 3 l.links))
