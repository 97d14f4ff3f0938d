use Rattle.published_index.proofs.Reaching.{reached_by_none, reached_with_cursor, reached_with_delta, reached_with_merge, reached_with_publish}
use Rattle.published_index.proofs.laws.held_cursors_are_reached.Goals as goal

pub returns-clause-first : goal.returns-clause-first
returns-clause-first c = reached_by_none

pub returns-clause-delta : goal.returns-clause-delta
returns-clause-delta c histories m peer d reached of fit = reached_with_delta histories m peer d of reached fit

pub returns-clause-known : goal.returns-clause-known
returns-clause-known c histories m peer d reached of fit known = reached_with_cursor histories m peer d of reached fit known

pub returns-clause-merge : goal.returns-clause-merge
returns-clause-merge c = reached_with_merge

pub returns-clause-publish : goal.returns-clause-publish
returns-clause-publish c = reached_with_publish
