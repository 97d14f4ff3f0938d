use Rattle.std.proofs.Common.{ap, Err}
use Rattle.std.proofs.lemmas.Result.{err_from_is_err_and}
use Rattle.memento_time.specs.Text.{IsOriginal}
use Rattle.replica_exchange.proofs.SpellingLemmas.{clean_refused, original_lacks}
use Rattle.replica_exchange.proofs.fields.read_original.Goals as goal

pub returns-in_err-original-clause-refused : goal.returns-in_err-original-clause-refused
returns-in_err-original-clause-refused c =
    let out = err_from_is_err_and c.from_residual-in_err-original.result c.from_residual-in_err-original.ensures.1 in
    let line = c.in_ok-line.ensures in
    let not_clean = c.in_err-original.ensures.not_clean.0 in
    rw (out.1, out.2) (clean_refused IsOriginal 10 original_lacks _ _ _ line.found line.first c.in_err-original.field-0.0 (λ is. not_clean (ap Err is)))
