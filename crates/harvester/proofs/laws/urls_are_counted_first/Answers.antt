use Rattle.std.proofs.Common.{refl, arith}
use Rattle.harvester.proofs.laws.urls_are_counted_first.Goals as goal

pub returns-clause-pages : goal.returns-clause-pages
returns-clause-pages g c = λ job tries many. (refl, many)

pub returns-clause-mementos : goal.returns-clause-mementos
returns-clause-mementos g c = λ job tries unread many end. let few = end.1.0 in omega (arith, few, many)
