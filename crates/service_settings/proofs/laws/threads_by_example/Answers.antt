use Rattle.std.proofs.Common.{refl}
use Rattle.service_settings.proofs.laws.threads_by_example.Goals as goal

pub returns : goal.returns
returns c = record {
  workers_alone = refl;
  walks_beside = refl;
  few_beside = refl;
  whole = refl;
  small = refl;
  most_whole = refl;
  most_small = refl;
}
