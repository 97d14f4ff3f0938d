use Rattle.std.proofs.Common.{◌≡◌, ◌+◌, ◌-◌, [], ◌∷◌, ◌++◌, List, reverse, sym, ap, subst, ◌∙◌, arith}
use Rattle.std.proofs.lemmas.Grind.{common_steps}
use Rattle.memento_time.specs.declared.mementos.Memento.{Memento}
use Rattle.memento_index.specs.Counts.{whole, once, count_of, IsTally}
use Rattle.memento_index.specs.declared.counted.Counted.{Counted}
use Rattle.memento_index.proofs.Tallies.{IsParted, parted_at, taken, tally_with, tally_without, count_itself, counts_less, counts_last}
use Rattle.memento_index.proofs.counts.count_out.Goals as goal
use Rattle.memento_index.proofs.counts.count_out.Goals.{After-take_out, After-push}

parted : (c : After-take_out) → IsParted c.args.memento.now c.take_out.new.list.entries (reverse c.take_out.new.lifted.entries)
    (whole c.args.list.now.entries c.args.lifted.now.entries) c.take_out.result
parted c = parted_at c.args.memento.now _ _ _ _ c.take_out.result c.take_out.ensures.parts c.take_out.ensures.below
    c.take_out.ensures.above c.take_out.ensures.found c.lift.ensures.whole c.requires.tally

put : (c : After-push) → c.push.new.self.entries
    ≡ c.take_out.new.list.entries ++ record { memento = c.args.memento.now; count = c.in-Some.counted.count - 1 } ∷ []
put c =
    let as_taken : c.push.new.self.entries
    ≡ c.take_out.new.list.entries ++ record { memento = c.in-Some.counted.memento; count = c.in-Some.counted.count - 1 } ∷ [] = grind (arith, common_steps) in
    as_taken ∙ ap (λ (m : Memento). c.take_out.new.list.entries ++ record { memento = m; count = c.in-Some.counted.count - 1 } ∷ []) c.in-Some.ensures.found

pub returns-then-counted-gt1-clause-tally : goal.returns-then-counted-gt1-clause-tally
returns-then-counted-gt1-clause-tally c =
    let at = goal.at.returns-then-counted-gt1-clause-tally c in
    subst (λ (xs : List Counted). IsTally (whole xs c.take_out.new.lifted.entries)) (sym (put at.After-push))
    (tally_with _ _ _ _ _ (c.in-Some.counted.count - 1) (parted at.After-take_out) (omega arith))

pub returns-then-counted-gt1-clause-counts : goal.returns-then-counted-gt1-clause-counts
returns-then-counted-gt1-clause-counts c m =
    let at = goal.at.returns-then-counted-gt1-clause-counts c in
    ap (λ (xs : List Counted). count_of (whole xs c.take_out.new.lifted.entries) m + once m c.args.memento.now) (put at.After-push)
    ∙ counts_less _ _ _ _ _ (c.in-Some.counted.count - 1) (parted at.After-take_out) (omega (arith, ap taken c.in-Some.is)) m

pub returns-else-counted-gt1-clause-tally : goal.returns-else-counted-gt1-clause-tally
returns-else-counted-gt1-clause-tally c = tally_without _ _ _ _ _ (parted (goal.at.returns-else-counted-gt1-clause-tally c).After-take_out)

pub returns-else-counted-gt1-clause-counts : goal.returns-else-counted-gt1-clause-counts
returns-else-counted-gt1-clause-counts c m =
    let apart = parted (goal.at.returns-else-counted-gt1-clause-counts c).After-take_out in
    let is = count_itself _ _ _ _ _ apart in
    counts_last _ _ _ _ _ apart (omega (arith, ap taken c.in-Some.is, is, c.requires.counted)) m

pub returns-in-None-clause-counts : goal.returns-in-None-clause-counts
returns-in-None-clause-counts c m =
    let is = count_itself _ _ _ _ _ (parted (goal.at.returns-in-None-clause-counts c).After-take_out) in
    absurd (omega (arith, ap taken c.in-None.is, is, c.requires.counted))
