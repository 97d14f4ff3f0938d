use Rattle.std.proofs.Common.{◌≡◌, [], ◌∷◌, ◌++◌, List, reverse, sym, subst, ◌∙◌, arith}
use Rattle.std.proofs.lemmas.Grind.{common_steps}
use Rattle.std.specs.declared.cmp.Ordering.TheVariants.{Equal, Greater}
use Rattle.memento_time.specs.Mementos.{memento_cmp}
use Rattle.memento_index.specs.Counts.{AreAbove, IsTally}
use Rattle.memento_index.specs.declared.counted.Counted.{Counted}
use Rattle.memento_index.proofs.Tallies.{above_top, above_all, same_memento}
use Rattle.memento_index.proofs.counts.take_out.Goals as goal

pub returns-in-Equal-clause-found : goal.returns-in-Equal-clause-found
returns-in-Equal-clause-found c =
    let tie : memento_cmp c.in-Some.counted.memento c.args.memento.now ≡ Equal = sym c.cmp.ensures ∙ c.in-Equal.is in
    same_memento _ _ tie

pub returns-in-Equal-clause-above : goal.returns-in-Equal-clause-above
returns-in-Equal-clause-above c =
    let e = c.in-Some.counted in
    let rest = c.pop.new.self.entries in
    let was : c.loop-counted.lifted.entries ≡ rest ++ e ∷ [] = grind (arith, common_steps) in
    let tie : memento_cmp e.memento c.args.memento.now ≡ Equal = sym c.cmp.ensures ∙ c.in-Equal.is in
    subst (λ m. AreAbove m (reverse rest)) (same_memento _ _ tie)
    (above_top c.loop-counted.list.entries c.loop-counted.lifted.entries rest e was
    (subst IsTally (sym c.loop-counted.invariant.whole) c.requires.tally))

pub returns-in-Greater-clause-above : goal.returns-in-Greater-clause-above
returns-in-Greater-clause-above c =
    let e = c.in-Some.counted in
    let rest = c.pop.new.self.entries in
    let was : c.loop-counted.lifted.entries ≡ rest ++ e ∷ [] = grind (arith, common_steps) in
    let put : c.push-in-Greater.new.self.entries ≡ rest ++ e ∷ [] = grind (arith, common_steps) in
    let gt : memento_cmp e.memento c.args.memento.now ≡ Greater = sym c.cmp.ensures ∙ c.in-Greater.is in
    subst (λ (xs : List Counted). AreAbove c.args.memento.now (reverse xs)) (sym put)
    (above_all _ rest e gt (above_top c.loop-counted.list.entries c.loop-counted.lifted.entries rest e was
    (subst IsTally (sym c.loop-counted.invariant.whole) c.requires.tally)))
