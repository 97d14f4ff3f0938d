use Rattle.std.proofs.Common.{ℕ, ◌∷◌, ◌++◌, [], List, sym, ap, ◌∙◌, arith}
use Rattle.std.specs.FinMap as map
use Rattle.memento_sets.specs.MementoSets.{Mementos}
use Rattle.harvest_lattice.specs.Parts.{current}
use Rattle.harvest_lattice.proofs.WaitingParts.{one_more_current, taken_all}
use Rattle.harvest_lattice.proofs.reading.Reading.current.Goals as goal

pub loop-k-preserved : goal.loop-k-preserved
loop-k-preserved c =
    let w = c.args.whole in
    let p : ℕ × Mementos = c.part.result.now in
    c.in_ok-push_current.ensures ∙ (ap (λ (es : List (ℕ × Mementos)). es ++ current w (p ∷ [])) c.loop-k.invariant
    ∙ sym (one_more_current w (map.entries c.args.self.now.revisions) c.loop-k.k p c.part.ensures))

pub returns : goal.returns
returns c =
    c.loop-k.invariant ∙ ap (current c.args.whole) (taken_all (map.entries c.args.self.now.revisions) c.loop-k.k
    (omega (arith, c.loop-k-test.false, c.revisions-k-end.ensures, map.len-entries c.args.self.now.revisions)))
