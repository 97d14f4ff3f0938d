use Rattle.service_status.proofs.SeriesLemmas.{told_once}
use Rattle.service_status.proofs.laws.series_are_told_once.Goals as goal

pub returns : goal.returns
returns c = told_once
