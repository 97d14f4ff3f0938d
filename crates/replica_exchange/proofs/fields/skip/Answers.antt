use Rattle.std.proofs.Common.{refl}
use Rattle.text_fields.proofs.FrontLemmas.{front_found, front_refused}
use Rattle.replica_exchange.proofs.fields.skip.Goals as goal

pub returns-in-Some-clause-found : goal.returns-in-Some-clause-found
returns-in-Some-clause-found c = let found = c.in-Some.ensures.cases in front_found c.args.text.now c.args.front.now _ found.0 found.1

pub returns-in-None-clause-refused : goal.returns-in-None-clause-refused
returns-in-None-clause-refused c = (refl, front_refused c.args.text.now c.args.front.now c.in-None.ensures.cases)
