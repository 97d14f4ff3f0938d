use Rattle.std.proofs.Common.{ℕ, ◌<◌, ◌++◌, reverse, sym, subst}
use Rattle.std.specs.List.{All}
use Rattle.memento_sets.specs.MementoSets.{Mementos}
use Rattle.harvest_lattice.specs.Parts.{IsParted}
use Rattle.harvest_lattice.proofs.PartLists.{placed_is}
use Rattle.harvest_lattice.proofs.WaitingParts.{all_up_to}
use Rattle.harvest_lattice.proofs.ordered.place.Goals as goal

pub pass-requires : goal.pass-requires
pass-requires c = subst (λ r. All (λ (p : ℕ × Mementos). p.0 < r) c.args.both.now.items) (sym c.revision.ensures) c.requires

pub returns-clause-placed : goal.returns-clause-placed
returns-clause-placed c =
    let all = c.args.both.now.items ++ reverse c.args.waiting.now.items in
    let lesser = c.pass.new.both.items in
    let greater = reverse c.pass.new.waiting.items in
    let here = c.in_ok-standing.standing in
    let p = c.args.part.now in
    placed_is all lesser greater c.push.new.self.items here p c.in_ok-placed.placed
    (subst (λ r. IsParted r all lesser here greater) c.revision.ensures c.in_ok-standing.ensures)
    c.in_ok-placed.ensures c.in_ok-push.ensures.items

pub returns-clause-last : goal.returns-clause-last
returns-clause-last c =
    let all = c.args.both.now.items ++ reverse c.args.waiting.now.items in
    all_up_to c.revision.result all c.pass.new.both.items (reverse c.pass.new.waiting.items) c.push.new.self.items
    c.in_ok-standing.standing c.args.part.now c.in_ok-placed.placed
    (sym c.revision.ensures) c.in_ok-standing.ensures c.in_ok-placed.ensures c.in_ok-push.ensures.items
