use Rattle.std.proofs.Common.{◌∙◌, sym}
use Rattle.replica_exchange.specs.Parts.{memento, set_of, many}
use Rattle.replica_exchange.proofs.Sequences.{passed_on, refused_with}
use Rattle.replica_exchange.proofs.PartLemmas.{set_leaves_mementos, set_found, set_unordered}
use Rattle.replica_exchange.proofs.entries.read_set.Goals as goal

pub returns-in_err-mementos-clause-refused : goal.returns-in_err-mementos-clause-refused
returns-in_err-mementos-clause-refused c =
    let text = c.args.text.now in
    passed_on (set_of c.args.count) text c.from_residual.result c.in_err-mementos.field-0.0 c.from_residual.ensures.1
    (refused_with (many c.args.count memento) (set_of c.args.count) text text (set_leaves_mementos c.args.count text) c.in_err-mementos.field-0.0 c.in_err-mementos.ensures.refused)

pub returns-in-Some-clause-found : goal.returns-in-Some-clause-found
returns-in-Some-clause-found c = set_found c.args.count c.args.text.now _ c.in_ok-mementos.mementos.items c.in_ok-mementos.ensures.found _
    (sym c.of_sorted.ensures ∙ c.in-Some.is)

pub returns-in-None-clause-refused : goal.returns-in-None-clause-refused
returns-in-None-clause-refused c = set_unordered c.args.count c.args.text.now _ c.in_ok-mementos.mementos.items c.in_ok-mementos.ensures.found (sym c.of_sorted.ensures ∙ c.in-None.is)
