use Rattle.link_format.proofs.Begins.{link_of_reading, one_link}
use Rattle.link_format.proofs.laws.one_link_at_each_place.Goals as goal

pub returns-clause-one : goal.returns-clause-one
returns-clause-one c = one_link

pub returns-clause-reading : goal.returns-clause-reading
returns-clause-reading c = link_of_reading
