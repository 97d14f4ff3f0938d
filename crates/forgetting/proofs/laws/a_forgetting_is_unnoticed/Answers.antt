use Rattle.forgetting.proofs.RenewingLemmas.{cursors_stay, forgotten_known, unnoticed}
use Rattle.forgetting.proofs.laws.a_forgetting_is_unnoticed.Goals as goal

pub returns : goal.returns
returns c = record {
  known = forgotten_known;
  unnoticed = unnoticed;
  cursors = cursors_stay;
}
