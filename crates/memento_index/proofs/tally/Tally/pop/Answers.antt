use Rattle.std.proofs.Common.{◌≡◌, length, sym, ap, ◌∙◌, arith}
use Rattle.memento_index.specs.Tallies.{Tallied, beside}
use Rattle.memento_index.proofs.Columns.{beside-append, length-beside}
use Rattle.memento_index.proofs.tally.Tally.pop.Goals as goal
use Rattle.memento_index.proofs.tally.Tally.pop.Goals.{In_ok-count}

-- the columns stay of one length
same : (c : In_ok-count) → length c.pop.new.self.items ≡ length c.pop-2.new.self.items
same c = omega (
  arith,
  c.pop.new.self.ok.0,
  c.pop-2.new.self.ok.0,
  c.self.inside.mementos.ok.0,
  c.self.inside.counts.ok.0,
  c.self.invariant,
  c.in_ok-memento.ensures.cases,
  c.in_ok-count.ensures.cases,
)

pub returns-clause-entries : goal.returns-clause-entries
returns-clause-entries c =
    let alike = same (goal.at.returns-clause-entries c).In_ok-count in
    sym (ap (λ (t : Tallied). t.entries) c.self.view_is)
    ∙ ((λ i. beside (c.in_ok-memento.ensures.items i) (c.in_ok-count.ensures.items i))
    ∙ beside-append c.pop.new.self.items c.pop-2.new.self.items c.in_ok-memento.memento c.in_ok-count.count alike)

pub returns-clause-spare : goal.returns-clause-spare
returns-clause-spare c =
    let alike = same (goal.at.returns-clause-spare c).In_ok-count in
    omega (
      arith,
      length-beside c.pop.new.self.items c.pop-2.new.self.items alike,
      c.pop.new.self.ok.0,
      c.self.inside.mementos.ok.1,
      c.self.inside.counts.ok.1,
      c.pop.ensures.capacity,
      c.pop-2.ensures.capacity,
      c.in_ok-memento.ensures.cases,
      c.in_ok-count.ensures.cases,
      c.self.invariant,
    )
