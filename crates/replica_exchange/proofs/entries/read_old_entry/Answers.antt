use Rattle.std.proofs.Common.{[], Some, true, sym, ap, ◌∙◌}
use Rattle.harvest_lattice.specs.Lattice.{Kept}
use Rattle.harvest_lattice.specs.Parts.{kept_in}
use Rattle.replica_exchange.specs.Parts.{old_head, old_entry, set_of}
use Rattle.replica_exchange.proofs.Sequences.{passed_on, refused_with}
use Rattle.replica_exchange.proofs.EntryLemmas.{old_found}
use Rattle.replica_exchange.proofs.EntryLemmas.{old_leaves_head, old_leaves_set, one_made}
use Rattle.replica_exchange.proofs.entries.read_old_entry.Goals as goal

pub returns-in_err-head-clause-refused : goal.returns-in_err-head-clause-refused
returns-in_err-head-clause-refused c =
    let text = c.args.text.now in
    passed_on old_entry text c.from_residual.result c.in_err-head.field-0.0 c.from_residual.ensures.1
    (refused_with old_head old_entry text text (old_leaves_head text) c.in_err-head.field-0.0 c.in_err-head.ensures.refused)

pub returns-in_err-set-clause-refused : goal.returns-in_err-set-clause-refused
returns-in_err-set-clause-refused c =
    let text = c.args.text.now in
    passed_on old_entry text c.from_residual-in_err-set.result c.in_err-set.field-0.0 c.from_residual-in_err-set.ensures.1
    (refused_with (set_of c.in_ok-head.head.count) old_entry text _ (old_leaves_set text _ _ c.in_ok-head.ensures.found) c.in_err-set.field-0.0 c.in_err-set.ensures.refused)

pub returns-clause-found : goal.returns-clause-found
returns-clause-found c =
    let r = c.in_ok-head.head.revision in
    let s = c.in_ok-set.set in
    old_found c.args.text.now _ _ c.in_ok-head.ensures.found s _ c.in_ok-set.ensures.found c.of_part-entry.result
    (one_made true (r, s) ∙ ap (λ (k : Kept). Some k) (sym (c.of_part-entry.ensures ∙ (λ i. kept_in true (c.in_ok-new.ensures i) []))))
