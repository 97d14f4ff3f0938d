use Rattle.std.proofs.Common.{◌≡◌, ◌+◌, [], ◌∷◌, ◌++◌, List, reverse, sym, ap, subst, ◌∙◌, arith}
use Rattle.std.proofs.lemmas.Grind.{common_steps}
use Rattle.memento_index.specs.Counts.{whole, count_of, IsTally}
use Rattle.memento_index.specs.declared.counted.Counted.{Counted}
use Rattle.memento_index.proofs.Tallies.{IsParted, parted_at, taken, tally_with, count_itself, counts_more}
use Rattle.memento_index.proofs.counts.count_in.Goals as goal
use Rattle.memento_index.proofs.counts.count_in.Goals.{After-take_out, After-push, in-Some, in-None}

parted : (c : After-take_out) → IsParted c.args.memento c.take_out.new.list.entries (reverse c.take_out.new.lifted.entries)
    (whole c.args.list.now.entries c.args.lifted.now.entries) c.take_out.result
parted c = parted_at c.args.memento _ _ _ _ c.take_out.result c.take_out.ensures.parts c.take_out.ensures.below
    c.take_out.ensures.above c.take_out.ensures.found c.lift.ensures.whole c.requires.tally

count : (c : After-push) → c.match-take_out.count ≡ taken c.take_out.result + 1
count c = elim c.match-take_out.branch [
  | in-Some w ↦ omega (arith, ap taken w.in-Some.is)
  | in-None w ↦ omega (arith, ap taken w.in-None.is)
]

put : (c : After-push) → c.push.new.self.entries ≡ c.take_out.new.list.entries ++ record { memento = c.args.memento; count = c.match-take_out.count } ∷ []
put c = grind (arith, common_steps)

pub overflow_add-count : goal.overflow_add-count
overflow_add-count c =
    let is = count_itself _ _ _ _ _ (parted (goal.at.overflow_add-count c).After-take_out) in
    let here = ap taken c.in-Some.is in
    omega (arith, is, here, c.requires.few)

pub returns-clause-tally : goal.returns-clause-tally
returns-clause-tally c =
    let at = goal.at.returns-clause-tally c in
    subst (λ (xs : List Counted). IsTally (whole xs c.take_out.new.lifted.entries)) (sym (put at.After-push))
    (tally_with _ _ _ _ _ c.match-take_out.count (parted at.After-take_out) (omega (arith, count at.After-push)))

pub returns-clause-counts : goal.returns-clause-counts
returns-clause-counts c m =
    let at = goal.at.returns-clause-counts c in
    ap (λ (xs : List Counted). count_of (whole xs c.take_out.new.lifted.entries) m) (put at.After-push)
    ∙ counts_more _ _ _ _ _ c.match-take_out.count (parted at.After-take_out) (count at.After-push) m
