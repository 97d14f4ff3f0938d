use Rattle.std.proofs.Common.{sym, ◌∙◌}
use Rattle.replica_exchange.specs.Parts.{head, part, new_entry, many}
use Rattle.replica_exchange.proofs.Sequences.{passed_on, refused_with}
use Rattle.replica_exchange.proofs.EntryLemmas.{new_unordered, new_found}
use Rattle.replica_exchange.proofs.EntryLemmas.{new_leaves_head, new_leaves_parts}
use Rattle.replica_exchange.proofs.entries.read_new_entry.Goals as goal

pub returns-in_err-head-clause-refused : goal.returns-in_err-head-clause-refused
returns-in_err-head-clause-refused c =
    let text = c.args.text.now in
    passed_on new_entry text c.from_residual.result c.in_err-head.field-0.0 c.from_residual.ensures.1
    (refused_with head new_entry text text (new_leaves_head text) c.in_err-head.field-0.0 c.in_err-head.ensures.refused)

pub returns-in_err-entry-clause-refused : goal.returns-in_err-entry-clause-refused
returns-in_err-entry-clause-refused c =
    let text = c.args.text.now in
    passed_on new_entry text c.from_residual-in_err-entry.result c.in_err-entry.field-0.0 c.from_residual-in_err-entry.ensures.1
    (refused_with (many c.in_ok-head.head.revisions part) new_entry text _ (new_leaves_parts text _ _ c.in_ok-head.ensures.found) c.in_err-entry.field-0.0 c.in_err-entry.ensures.refused)

pub returns-in_default-clause-refused : goal.returns-in_default-clause-refused
returns-in_default-clause-refused c =
    let kept = c.in_ok-entry.ensures.found in
    new_unordered c.args.text.now _ _ c.in_ok-head.ensures.found kept.parts _ kept.begins (sym kept.makes ∙ c.in_default.is)

pub returns-clause-found : goal.returns-clause-found
returns-clause-found c =
    let kept = c.in_ok-entry.ensures.found in
    new_found c.args.text.now _ _ c.in_ok-head.ensures.found kept.parts _ kept.begins c.in-Some.entry (sym kept.makes ∙ c.in-Some.is)
