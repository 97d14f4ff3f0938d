use Rattle.std.proofs.Common.{refl}
use Rattle.retention.proofs.ExampleLemmas.{newest_twice, newest_once, young_known}
use Rattle.retention.proofs.laws.ages_by_example.Goals as goal

pub returns : goal.returns
returns c = record {
  newest_of_two = newest_twice;
  newest_of_one = newest_once;
  before = refl;
  at = refl;
  after = refl;
  never = refl;
  young = young_known _ _;
  old = young_known _ _;
  young_in_vain = young_known _ _;
  old_in_vain = young_known _ _;
  unknown = young_known _ _;
  an_archive = young_known _ _;
}
