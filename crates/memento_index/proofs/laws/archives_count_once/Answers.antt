use Rattle.memento_index.proofs.Archives.{archives_counted, listed_where_shown}
use Rattle.memento_index.proofs.laws.archives_count_once.Goals as goal

pub returns-clause-counted : goal.returns-clause-counted
returns-clause-counted c = archives_counted

pub returns-clause-listed : goal.returns-clause-listed
returns-clause-listed c = listed_where_shown
