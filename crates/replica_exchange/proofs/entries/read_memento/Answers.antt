use Rattle.std.proofs.Common.{ap, Err}
use Rattle.std.proofs.lemmas.Result.{err_from_is_err_and}
use Rattle.memento_time.specs.Text.{IsClean}
use Rattle.replica_exchange.specs.Faults.{fault_of}
use Rattle.replica_exchange.specs.Spelling.{field, number}
use Rattle.replica_exchange.specs.Parts.{memento}
use Rattle.replica_exchange.proofs.Sequences.{passed_on, refused_with, malformed}
use Rattle.replica_exchange.proofs.SpellingLemmas.{clean_refused, clean_lacks, ended_none}
use Rattle.replica_exchange.proofs.PartLemmas.{memento_leaves_second, memento_leaves_uri, memento_too_late}
use Rattle.replica_exchange.proofs.entries.read_memento.Goals as goal

pub returns-in_err-second-clause-refused : goal.returns-in_err-second-clause-refused
returns-in_err-second-clause-refused c =
    let text = c.args.text.now in
    passed_on memento text c.from_residual.result c.in_err-second.field-0.0 c.from_residual.ensures.1
    (refused_with (number 32) memento text text (memento_leaves_second text) c.in_err-second.field-0.0 c.in_err-second.ensures.refused)

pub returns-in_default-clause-refused : goal.returns-in_default-clause-refused
returns-in_default-clause-refused c = memento_too_late c.args.text.now _ _ c.in_ok-second.ensures.found (λ second. c.in_default.ensures second)

pub returns-in_err-uri-clause-refused : goal.returns-in_err-uri-clause-refused
returns-in_err-uri-clause-refused c =
    let text = c.args.text.now in
    let mid = c.in_ok-second.rest.now in
    let refused = c.in_err-uri.ensures.refused in
    passed_on memento text c.from_residual-in_err-uri.result c.in_err-uri.field-0.0 c.from_residual-in_err-uri.ensures.1
    (refused_with (field IsClean 10) memento text mid (memento_leaves_uri text _ _ c.in_ok-second.ensures.found) c.in_err-uri.field-0.0
    (malformed (field IsClean 10) mid c.in_err-uri.field-0.0 refused.0 (ended_none IsClean (λ t. t) 10 mid refused.1)))

pub returns-in_err-push-clause-refused : goal.returns-in_err-push-clause-refused
returns-in_err-push-clause-refused c =
    let text = c.args.text.now in
    let out = err_from_is_err_and c.from_residual-in_err-push.result c.from_residual-in_err-push.ensures.1 in
    let line = c.in_ok-uri.ensures in
    let not_clean = c.in_err-push.ensures.not_clean.0 in
    rw (out.1, out.2) (refused_with (field IsClean 10) memento text c.in_ok-second.rest.now (memento_leaves_uri text _ _ c.in_ok-second.ensures.found) (fault_of c.in_err-push.field-0.0)
    (clean_refused IsClean 10 clean_lacks _ _ _ line.found line.first c.in_err-push.field-0.0 (λ is. not_clean (ap Err is))))
