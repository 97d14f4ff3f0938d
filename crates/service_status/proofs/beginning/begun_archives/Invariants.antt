use Rattle.std.proofs.Common.{◌≡◌, take}
use Rattle.std.specs.Prelude.{map}
use Rattle.service_status.proofs.beginning.begun_archives.Given as goal

-- so far the archives have the names in order
abbrev pub invariant-loop-name : goal.invariant-loop-name
invariant-loop-name l = map (λ archive. archive.name) l.archives.items ≡ take l.name-index l.names
