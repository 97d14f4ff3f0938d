use Rattle.std.proofs.Common.{true}
use Rattle.timemap_formats.proofs.ListedLemmas.{timemap_listed, mementos_listed}
use Rattle.timemap_formats.proofs.laws.timemaps_are_listed.Goals as goal

pub returns-clause-listing : goal.returns-clause-listing
returns-clause-listing c = timemap_listed

pub returns-clause-mementos : goal.returns-clause-mementos
returns-clause-mementos c = mementos_listed true
