use Rattle.std.proofs.Common.{ℕ, ◌∷◌, [], sym, subst}
use Rattle.replica_exchange.specs.Spelling.{Begins}
use Rattle.replica_exchange.specs.Parts.{part, many}
use Rattle.replica_exchange.proofs.Sequences.{Leaves, passed_on, refused_with}
use Rattle.replica_exchange.proofs.EntryLemmas.{one_begins, one_leaves}
use Rattle.replica_exchange.proofs.entries.read_kept.Goals as goal

pub returns-in_err-part-clause-refused : goal.returns-in_err-part-clause-refused
returns-in_err-part-clause-refused c =
    let text = c.args.text.now in
    passed_on (many c.args.count part) text c.from_residual.result c.in_err-part.field-0.0 c.from_residual.ensures.1
    (refused_with part (many c.args.count part) text text (subst (λ (n : ℕ). Leaves part (many n part) text text) (sym c.if-count-eq1.true) (one_leaves text))
    c.in_err-part.field-0.0 c.in_err-part.ensures.refused)

pub returns-then-count-eq1-clause-found : goal.returns-then-count-eq1-clause-found
returns-then-count-eq1-clause-found c =
    let text = c.args.text.now in
    record {
      parts = c.in_ok-part.part ∷ [];
      begins = subst (λ (n : ℕ). Begins (many n part) text (c.in_ok-part.part ∷ []) c.in_ok-part.rest.now) (sym c.if-count-eq1.true)
          (one_begins text c.in_ok-part.rest.now c.in_ok-part.part c.in_ok-part.ensures.found);
      makes = c.entry_of_one.ensures;
    }

pub returns-clause-found : goal.returns-clause-found
returns-clause-found c = record { parts = c.in_ok-parts.parts.items; begins = c.in_ok-parts.ensures.found; makes = c.in_ok-entry.ensures }
