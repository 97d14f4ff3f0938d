use Rattle.published_index.proofs.Walking.{walked_with_part, reached_with_last, reached_with_known_last, walked_with_merge, walked_with_publish}
use Rattle.published_index.proofs.laws.walks_are_reached.Goals as goal

pub returns-clause-part : goal.returns-clause-part
returns-clause-part c = walked_with_part

pub returns-clause-last : goal.returns-clause-last
returns-clause-last c = reached_with_last

pub returns-clause-known : goal.returns-clause-known
returns-clause-known c = reached_with_known_last

pub returns-clause-merge : goal.returns-clause-merge
returns-clause-merge c = walked_with_merge

pub returns-clause-publish : goal.returns-clause-publish
returns-clause-publish c = walked_with_publish
