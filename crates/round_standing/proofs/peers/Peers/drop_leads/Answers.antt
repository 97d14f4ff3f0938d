use Rattle.std.proofs.Common.{arith}
use Rattle.std.proofs.lemmas.Grind.{common_steps}
use Rattle.std.proofs.lemmas.List.Edits.{map_over_more}
use Rattle.round_standing.specs.Peers.{without_lead}
use Rattle.round_standing.proofs.peers.Peers.drop_leads.Goals as goal

pub loop-notes-preserved : goal.loop-notes-preserved
loop-notes-preserved c = grind (arith, common_steps, map_over_more without_lead)
