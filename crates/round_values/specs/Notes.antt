-- What a round notes of an archive's walks.
use Rattle.std.specs.Prelude.{ℕ, List, ◌≡◌}
use Rattle.harvester.specs.declared.faults.WalkFault.{WalkFault}
use Rattle.round_values.specs.declared.notes.First.{First}

-- it says of the walk from this URL that it failed so
pub record IsFirst (url : List ℕ) (fault : WalkFault) (first : First) : Type 0 where
  pub url_is : first.url ≡ url
  pub fault_is : first.fault ≡ fault
