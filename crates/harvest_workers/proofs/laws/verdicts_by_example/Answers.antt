use Rattle.std.proofs.Common.{refl}
use Rattle.harvest_workers.proofs.laws.verdicts_by_example.Goals as goal

pub returns : goal.returns
returns c = record {
  excluded = refl;
  moved = refl;
  slow = refl;
  too_many = refl;
  forbidden_by_law = refl;
  last_of_its_kind = refl;
  broken = refl;
  overloaded = refl;
  silent = refl;
  broken_off = refl;
  endless = refl;
  encoded = refl;
  many_pages = refl;
  busy_for_two_seconds = refl;
  busy_for_none = refl;
  wish_overloaded = refl;
  wish_too_many = refl;
  wish_silent = refl;
  wish_broken_off = refl;
  wish_busy = refl;
  wish_without_memory = refl;
}
