use Rattle.std.proofs.Common.{ℕ, ◌<◌, ◌^◌, sym, subst, arith}
use Rattle.std.specs.Fmt.{decimal}
use Rattle.memento_time.specs.Text.{IsArchiveName, IsOriginal}
use Rattle.replica_exchange.specs.Spelling.{value_and_end, field, number}
use Rattle.replica_exchange.specs.Parts.{old_head}
use Rattle.replica_exchange.proofs.SpellingLemmas.{ended_found, ended_none, field_refused, name_lacks, number_once}
use Rattle.replica_exchange.proofs.Sequences.{passed_on, refused_with, malformed}
use Rattle.replica_exchange.proofs.PartLemmas.{line_has_front, line_without_archive, line_leaves_field, line_leaves_number, line_leaves_original, line_found}
use Rattle.replica_exchange.proofs.entries.read_old_head.Goals as goal

pub returns-in_err-rest-clause-refused : goal.returns-in_err-rest-clause-refused
returns-in_err-rest-clause-refused c =
    let text = c.args.text.now in
    passed_on old_head text c.from_residual.result c.in_err-rest.field-0.0 c.from_residual.ensures.1
    (malformed old_head text c.in_err-rest.field-0.0 c.in_err-rest.ensures.refused.0 (line_has_front (λ (n : ℕ). n < 2 ^ 64) decimal text c.in_err-rest.ensures.refused.1))

pub returns-in_err-name-clause-refused : goal.returns-in_err-name-clause-refused
returns-in_err-name-clause-refused c =
    let text = c.args.text.now in
    let cut = c.in_err-name.ensures.refused in
    passed_on old_head text c.from_residual-in_err-name.result c.in_err-name.field-0.0 c.from_residual-in_err-name.ensures.1
    (malformed old_head text c.in_err-name.field-0.0 cut.0 (line_without_archive (λ (n : ℕ). n < 2 ^ 64) decimal text c.in_ok-rest.rest.now c.in_ok-rest.ensures.found
    (ended_none IsArchiveName (λ text. text) 32 c.in_ok-rest.rest.now cut.1)))

pub returns-in_default-clause-refused : goal.returns-in_default-clause-refused
returns-in_default-clause-refused c =
    let name = c.in_ok-name.ensures in
    line_without_archive (λ (n : ℕ). n < 2 ^ 64) decimal c.args.text.now c.in_ok-rest.rest.now c.in_ok-rest.ensures.found
    (field_refused IsArchiveName 32 name_lacks _ _ _ name.found name.first (λ is. c.in_default.ensures is))

pub returns-in_err-revision-clause-refused : goal.returns-in_err-revision-clause-refused
returns-in_err-revision-clause-refused c =
    let text = c.args.text.now in
    let archive = ended_found IsArchiveName (λ text. text) 32 c.in_ok-rest.rest.now c.in_ok-name.name.now c.in_ok-name.rest.now c.in-Some.archive c.in_ok-name.ensures.found
    (sym c.in-Some.ensures.1) (subst IsArchiveName (sym c.in-Some.ensures.1) c.in-Some.ensures.0) in
    passed_on old_head text c.from_residual-in_err-revision.result c.in_err-revision.field-0.0 c.from_residual-in_err-revision.ensures.1
    (refused_with (value_and_end (λ (n : ℕ). n < 2 ^ 64) decimal 32) old_head text _ (line_leaves_field (λ (n : ℕ). n < 2 ^ 64) decimal text _ c.in_ok-rest.ensures.found _ _ archive)
    c.in_err-revision.field-0.0 c.in_err-revision.ensures.refused)

pub returns-in_err-count-clause-refused : goal.returns-in_err-count-clause-refused
returns-in_err-count-clause-refused c =
    let text = c.args.text.now in
    let archive = ended_found IsArchiveName (λ text. text) 32 c.in_ok-rest.rest.now c.in_ok-name.name.now c.in_ok-name.rest.now c.in-Some.archive c.in_ok-name.ensures.found
    (sym c.in-Some.ensures.1) (subst IsArchiveName (sym c.in-Some.ensures.1) c.in-Some.ensures.0) in
    passed_on old_head text c.from_residual-in_err-count.result c.in_err-count.field-0.0 c.from_residual-in_err-count.ensures.1
    (refused_with (number 32) old_head text _ (line_leaves_number (λ (n : ℕ). n < 2 ^ 64) decimal text _ c.in_ok-rest.ensures.found _ _ archive (number_once 32 (omega arith)) _ _
    c.in_ok-revision.ensures.found) c.in_err-count.field-0.0 c.in_err-count.ensures.refused)

pub returns-in_err-original-clause-refused : goal.returns-in_err-original-clause-refused
returns-in_err-original-clause-refused c =
    let text = c.args.text.now in
    let archive = ended_found IsArchiveName (λ text. text) 32 c.in_ok-rest.rest.now c.in_ok-name.name.now c.in_ok-name.rest.now c.in-Some.archive c.in_ok-name.ensures.found
    (sym c.in-Some.ensures.1) (subst IsArchiveName (sym c.in-Some.ensures.1) c.in-Some.ensures.0) in
    passed_on old_head text c.from_residual-in_err-original.result c.in_err-original.field-0.0 c.from_residual-in_err-original.ensures.1
    (refused_with (field IsOriginal 10) old_head text _ (line_leaves_original (λ (n : ℕ). n < 2 ^ 64) decimal text _ c.in_ok-rest.ensures.found _ _ archive
    (number_once 32 (omega arith)) _ _ c.in_ok-revision.ensures.found _ _ c.in_ok-count.ensures.found) c.in_err-original.field-0.0 c.in_err-original.ensures.refused)

pub returns-clause-found : goal.returns-clause-found
returns-clause-found c =
    let archive = ended_found IsArchiveName (λ text. text) 32 c.in_ok-rest.rest.now c.in_ok-name.name.now c.in_ok-name.rest.now c.in-Some.archive c.in_ok-name.ensures.found
    (sym c.in-Some.ensures.1) (subst IsArchiveName (sym c.in-Some.ensures.1) c.in-Some.ensures.0) in
    line_found (λ (n : ℕ). n < 2 ^ 64) decimal c.args.text.now _ c.in_ok-rest.ensures.found _ _ archive (number_once 32 (omega arith)) _ _ c.in_ok-revision.ensures.found _ _
    c.in_ok-count.ensures.found _ _ c.in_ok-original.ensures.found
