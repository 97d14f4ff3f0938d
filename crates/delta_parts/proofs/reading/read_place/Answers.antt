use Rattle.std.proofs.Common.{sym, subst}
use Rattle.memento_time.specs.Text.{IsArchiveName, IsOriginal}
use Rattle.replica_exchange.specs.Spelling.{field}
use Rattle.replica_exchange.proofs.SpellingLemmas.{ended_found, field_refused, name_lacks}
use Rattle.replica_exchange.proofs.Sequences.{passed_on, refused_with}
use Rattle.delta_parts.specs.PartText.{place}
use Rattle.delta_parts.proofs.TextLemmas.{place_leaves_original, place_without_archive}
use Rattle.delta_parts.proofs.reading.read_place.Goals as goal

pub returns-in_default-new-clause-refused : goal.returns-in_default-new-clause-refused
returns-in_default-new-clause-refused c =
    let text = c.args.text.now in
    place_without_archive text c.in_default.ensures.refused.1
    (field_refused IsArchiveName 32 name_lacks text c.in_ok-name.name.now c.in_ok-name.line.now c.in_ok-name.ensures.found c.in_ok-name.ensures.first (λ is. c.in_default-new.ensures is))

pub returns-in_err-original-clause-refused : goal.returns-in_err-original-clause-refused
returns-in_err-original-clause-refused c =
    let text = c.args.text.now in
    let archive = ended_found IsArchiveName (λ text. text) 32 text c.in_ok-name.name.now c.in_ok-name.line.now c.in-Some.archive c.in_ok-name.ensures.found
    (sym c.in-Some.ensures.1) (subst IsArchiveName (sym c.in-Some.ensures.1) c.in-Some.ensures.0) in
    passed_on place text c.from_residual-in_err-original.result c.in_err-original.field-0.0 c.from_residual-in_err-original.ensures.1
    (refused_with (field IsOriginal 10) place text _ (place_leaves_original text c.in_default.ensures.refused.1 _ _ archive)
    c.in_err-original.field-0.0 c.in_err-original.ensures.refused)
