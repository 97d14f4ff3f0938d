use Rattle.std.proofs.Common.{◌≡◌, ℕ, ◌<◌, sym, subst, ◌∙◌}
use Rattle.std.specs.List.{All}
use Rattle.std.specs.Cmp.{ranked}
use Rattle.std.specs.declared.cmp.Ordering.TheVariants.{Less, Equal, Greater}
use Rattle.std.proofs.lemmas.List.Elements.{All-push}
use Rattle.memento_sets.specs.MementoSets.{Mementos}
use Rattle.harvest_lattice.proofs.WaitingParts.{moved, parted_here, parted_greater}
use Rattle.harvest_lattice.proofs.ordered.pass.Goals as goal

pub loop-next-preserved : goal.loop-next-preserved
loop-next-preserved c =
    let next : ℕ × Mementos = c.in-Some.next in
    let both = c.loop-next.both.items in
    let lt : next.0 < c.args.revision =
    subst (λ n. n < c.args.revision) c.revision.ensures
    (ranked c.revision.result c.args.revision Less (sym (sym c.cmp.ensures ∙ c.in-Less.is))) in
    record {
      whole = moved both c.loop-next.waiting.items c.pop.new.self.items c.push.new.self.items _ next
          c.in-Some.ensures.items c.in_ok-push-in-Less.ensures.items c.loop-next.invariant.whole;
      below = subst (All (λ (p : ℕ × Mementos). p.0 < c.args.revision)) (sym c.in_ok-push-in-Less.ensures.items)
          (All-push (λ (p : ℕ × Mementos). p.0 < c.args.revision) both next c.loop-next.invariant.below lt);
    }

pub returns-in-Equal : goal.returns-in-Equal
returns-in-Equal c =
    let next : ℕ × Mementos = c.in-Some.next in
    let same : next.0 ≡ c.args.revision = sym c.revision.ensures ∙ ranked c.revision.result c.args.revision Equal (sym (sym c.cmp.ensures ∙ c.in-Equal.is)) in
    parted_here c.args.revision c.loop-next.both.items c.loop-next.waiting.items c.pop.new.self.items _ next
    c.in-Some.ensures.items c.loop-next.invariant.whole c.loop-next.invariant.below same

pub returns-in-Greater : goal.returns-in-Greater
returns-in-Greater c =
    let next : ℕ × Mementos = c.in-Some.next in
    let lt : c.args.revision < next.0 =
    subst (λ n. c.args.revision < n) c.revision.ensures
    (ranked c.revision.result c.args.revision Greater (sym (sym c.cmp.ensures ∙ c.in-Greater.is))) in
    parted_greater c.args.revision c.loop-next.both.items c.loop-next.waiting.items c.pop.new.self.items
    c.push-in-Greater.new.self.items _ next c.in-Some.ensures.items c.in_ok-push-in-Greater.ensures.items
    c.loop-next.invariant.whole c.loop-next.invariant.below lt
