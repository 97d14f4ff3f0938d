use Rattle.std.proofs.Common.{◌≡◌, ◌++◌, map, take, drop}
use Rattle.round_standing.specs.Peers.{without_lead}
use Rattle.round_standing.proofs.peers.Peers.drop_leads.Given as goal

-- those that were gone over have no lead
abbrev pub invariant-loop-notes : goal.invariant-loop-notes
invariant-loop-notes l = l.notes-items ≡ map without_lead (take l.notes-index l.initial.notes-items) ++ drop l.notes-index l.initial.notes-items
