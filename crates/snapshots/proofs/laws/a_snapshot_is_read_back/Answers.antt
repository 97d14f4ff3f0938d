use Rattle.snapshots.proofs.ReadingBack.{read_back, cut_short, more_behind}
use Rattle.snapshots.proofs.laws.a_snapshot_is_read_back.Goals as goal

pub returns-clause-same : goal.returns-clause-same
returns-clause-same c = read_back

pub returns-clause-cut : goal.returns-clause-cut
returns-clause-cut c = cut_short

pub returns-clause-behind : goal.returns-clause-behind
returns-clause-behind c = more_behind
