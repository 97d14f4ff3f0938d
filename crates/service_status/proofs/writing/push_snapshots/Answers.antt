use Rattle.service_status.proofs.writing.push_snapshots.Goals as goal

pub returns : goal.returns
returns c = rw c.in-Some.is c.push_rows.ensures
