use Rattle.std.proofs.Common.{◌≡◌, ℕ, ◌≤◌, ◌++◌, List, length, take_all, append-nil, sym, ap, subst, ◌∙◌, arith}
use Rattle.std.specs.Prelude.{All}
use Rattle.std.specs.List.{flat_map}
use Rattle.std.specs.FinMap as map
use Rattle.std.proofs.lemmas.List.Elements.{All-nil}
use Rattle.memento_sets.specs.MementoSets.{Mementos}
use Rattle.replica_exchange.specs.StateText.{part_text, IsPart}
use Rattle.replica_exchange.proofs.WritingLemmas.{more_parts}
use Rattle.replica_exchange.proofs.writing.write_parts.Goals as goal

pub loop-k-init : goal.loop-k-init
loop-k-init c = record { text = sym (append-nil c.args.out.now.items); fits = All-nil IsPart }

pub loop-k-preserved : goal.loop-k-preserved
loop-k-preserved c =
    let part = c.in_ok-write_part.ensures in
    more_parts (map.entries c.args.entry.now.revisions) c.args.out.now.items c.loop-k.out.items c.write_part.new.out.items c.loop-k.k c.revision.result c.mementos.result.now
    c.revision.ensures c.mementos.ensures
    c.loop-k.invariant part.written part.fits.0 part.fits.1

pub returns-clause-written : goal.returns-clause-written
returns-clause-written c =
    let es : List (ℕ × Mementos) = map.entries c.args.entry.now.revisions in
    let all : c.revisions-k-end.result ≡ length es = c.revisions-k-end.ensures ∙ map.len-entries c.args.entry.now.revisions in
    let test = c.loop-k-test.false in
    let past : length es ≤ c.loop-k.k = omega (arith, all, test) in
    c.loop-k.invariant.text ∙ ap (λ (ps : List (ℕ × Mementos)). c.args.out.now.items ++ flat_map part_text ps) (take_all c.loop-k.k es past)

pub returns-clause-fits : goal.returns-clause-fits
returns-clause-fits c =
    let es : List (ℕ × Mementos) = map.entries c.args.entry.now.revisions in
    let all : c.revisions-k-end.result ≡ length es = c.revisions-k-end.ensures ∙ map.len-entries c.args.entry.now.revisions in
    let test = c.loop-k-test.false in
    let past : length es ≤ c.loop-k.k = omega (arith, all, test) in
    subst (All IsPart) (take_all c.loop-k.k es past) c.loop-k.invariant.fits
