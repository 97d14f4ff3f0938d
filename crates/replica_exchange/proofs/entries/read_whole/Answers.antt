use Rattle.replica_exchange.proofs.SpellingLemmas.{whole_refused}
use Rattle.replica_exchange.proofs.entries.read_whole.Goals as goal

pub returns-in-None-clause-refused : goal.returns-in-None-clause-refused
returns-in-None-clause-refused c =
    let word = c.in_ok-word.ensures in
    whole_refused c.args.text.now c.in_ok-word.word.now c.in_ok-word.rest.now word.found word.first (λ dash. let no = c.if-is_none.ensures.1 dash in absurd cc) (λ n is. c.in-None.ensures.none n is)
