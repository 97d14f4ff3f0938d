use Rattle.timemap_writer.proofs.Stretches.{whole_list}
use Rattle.replica_world.proofs.ReadBack.{index_named, index_back, page_back}
use Rattle.replica_world.proofs.read_back.paged_timemaps_are_pages.Goals as goal

pub returns-clause-index : goal.returns-clause-index
returns-clause-index c = index_named

pub returns-clause-answer : goal.returns-clause-answer
returns-clause-answer c = index_back

pub returns-clause-page : goal.returns-clause-page
returns-clause-page c = page_back

pub returns-clause-union : goal.returns-clause-union
returns-clause-union c = whole_list
