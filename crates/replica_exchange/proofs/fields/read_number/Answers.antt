use Rattle.std.proofs.Common.{length, ap, arith}
use Rattle.replica_exchange.proofs.SpellingLemmas.{number_refused}
use Rattle.replica_exchange.proofs.fields.read_number.Goals as goal

pub returns-in_default-behind-clause-refused : goal.returns-in_default-behind-clause-refused
returns-in_default-behind-clause-refused c =
    let decimal = c.in-Some in
    number_refused c.args.end c.requires c.args.text.now decimal.number decimal.behind.now decimal.ensures.found
    (λ rest same. let long = ap length same in omega (arith, long, c.in_default-behind.len_below))

pub returns-then-byte-end-clause-refused : goal.returns-then-byte-end-clause-refused
returns-then-byte-end-clause-refused c =
    let decimal = c.in-Some in
    number_refused c.args.end c.requires c.args.text.now decimal.number decimal.behind.now decimal.ensures.found
    (λ rest same. c.if-byte-end.true (cc))
