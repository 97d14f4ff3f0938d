use Rattle.std.proofs.Common.{sym, subst}
use Rattle.replica_exchange.specs.StateText.{whole_field}
use Rattle.memento_time.specs.Text.{IsArchiveName, IsOriginal}
use Rattle.replica_exchange.specs.Spelling.{value_and_end, field, number}
use Rattle.replica_exchange.specs.Parts.{IsWholeField, head}
use Rattle.replica_exchange.proofs.SpellingLemmas.{ended_found, ended_none, field_refused, name_lacks, whole_once}
use Rattle.replica_exchange.proofs.Sequences.{passed_on, refused_with, malformed}
use Rattle.replica_exchange.proofs.PartLemmas.{line_has_front, line_without_archive, line_leaves_field, line_leaves_number, line_leaves_original, line_found}
use Rattle.replica_exchange.proofs.entries.read_head.Goals as goal

pub returns-in_err-rest-clause-refused : goal.returns-in_err-rest-clause-refused
returns-in_err-rest-clause-refused c =
    let text = c.args.text.now in
    passed_on head text c.from_residual.result c.in_err-rest.field-0.0 c.from_residual.ensures.1
    (malformed head text c.in_err-rest.field-0.0 c.in_err-rest.ensures.refused.0 (line_has_front IsWholeField whole_field text c.in_err-rest.ensures.refused.1))

pub returns-in_err-name-clause-refused : goal.returns-in_err-name-clause-refused
returns-in_err-name-clause-refused c =
    let text = c.args.text.now in
    let cut = c.in_err-name.ensures.refused in
    passed_on head text c.from_residual-in_err-name.result c.in_err-name.field-0.0 c.from_residual-in_err-name.ensures.1
    (malformed head text c.in_err-name.field-0.0 cut.0 (line_without_archive IsWholeField whole_field text c.in_ok-rest.rest.now c.in_ok-rest.ensures.found
    (ended_none IsArchiveName (λ text. text) 32 c.in_ok-rest.rest.now cut.1)))

pub returns-in_default-clause-refused : goal.returns-in_default-clause-refused
returns-in_default-clause-refused c =
    let name = c.in_ok-name.ensures in
    line_without_archive IsWholeField whole_field c.args.text.now c.in_ok-rest.rest.now c.in_ok-rest.ensures.found
    (field_refused IsArchiveName 32 name_lacks _ _ _ name.found name.first (λ is. c.in_default.ensures is))

pub returns-in_err-whole-clause-refused : goal.returns-in_err-whole-clause-refused
returns-in_err-whole-clause-refused c =
    let text = c.args.text.now in
    let archive = ended_found IsArchiveName (λ text. text) 32 c.in_ok-rest.rest.now c.in_ok-name.name.now c.in_ok-name.rest.now c.in-Some.archive c.in_ok-name.ensures.found
    (sym c.in-Some.ensures.1) (subst IsArchiveName (sym c.in-Some.ensures.1) c.in-Some.ensures.0) in
    passed_on head text c.from_residual-in_err-whole.result c.in_err-whole.field-0.0 c.from_residual-in_err-whole.ensures.1
    (refused_with (value_and_end IsWholeField whole_field 32) head text _ (line_leaves_field IsWholeField whole_field text _ c.in_ok-rest.ensures.found _ _ archive)
    c.in_err-whole.field-0.0 c.in_err-whole.ensures.refused)

pub returns-in_err-revisions-clause-refused : goal.returns-in_err-revisions-clause-refused
returns-in_err-revisions-clause-refused c =
    let text = c.args.text.now in
    let archive = ended_found IsArchiveName (λ text. text) 32 c.in_ok-rest.rest.now c.in_ok-name.name.now c.in_ok-name.rest.now c.in-Some.archive c.in_ok-name.ensures.found
    (sym c.in-Some.ensures.1) (subst IsArchiveName (sym c.in-Some.ensures.1) c.in-Some.ensures.0) in
    passed_on head text c.from_residual-in_err-revisions.result c.in_err-revisions.field-0.0 c.from_residual-in_err-revisions.ensures.1
    (refused_with (number 32) head text _ (line_leaves_number IsWholeField whole_field text _ c.in_ok-rest.ensures.found _ _ archive whole_once _ _ c.in_ok-whole.ensures.found)
    c.in_err-revisions.field-0.0 c.in_err-revisions.ensures.refused)

pub returns-in_err-original-clause-refused : goal.returns-in_err-original-clause-refused
returns-in_err-original-clause-refused c =
    let text = c.args.text.now in
    let archive = ended_found IsArchiveName (λ text. text) 32 c.in_ok-rest.rest.now c.in_ok-name.name.now c.in_ok-name.rest.now c.in-Some.archive c.in_ok-name.ensures.found
    (sym c.in-Some.ensures.1) (subst IsArchiveName (sym c.in-Some.ensures.1) c.in-Some.ensures.0) in
    passed_on head text c.from_residual-in_err-original.result c.in_err-original.field-0.0 c.from_residual-in_err-original.ensures.1
    (refused_with (field IsOriginal 10) head text _ (line_leaves_original IsWholeField whole_field text _ c.in_ok-rest.ensures.found _ _ archive whole_once _ _
    c.in_ok-whole.ensures.found _ _ c.in_ok-revisions.ensures.found) c.in_err-original.field-0.0 c.in_err-original.ensures.refused)

pub returns-clause-found : goal.returns-clause-found
returns-clause-found c =
    let archive = ended_found IsArchiveName (λ text. text) 32 c.in_ok-rest.rest.now c.in_ok-name.name.now c.in_ok-name.rest.now c.in-Some.archive c.in_ok-name.ensures.found
    (sym c.in-Some.ensures.1) (subst IsArchiveName (sym c.in-Some.ensures.1) c.in-Some.ensures.0) in
    line_found IsWholeField whole_field c.args.text.now _ c.in_ok-rest.ensures.found _ _ archive whole_once _ _ c.in_ok-whole.ensures.found _ _ c.in_ok-revisions.ensures.found _ _
    c.in_ok-original.ensures.found
