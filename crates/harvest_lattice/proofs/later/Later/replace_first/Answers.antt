use Rattle.std.proofs.Common.{◌≡◌, ℕ, List, get_or, subst}
use Rattle.memento_sets.specs.MementoSets.{Mementos}
use Rattle.harvest_lattice.proofs.PartLists.{first_left}
use Rattle.harvest_lattice.proofs.later.Later.replace_first.Goals as goal

pub returns-clause-ok : goal.returns-clause-ok
returns-clause-ok c =
    let es = c.args.self.now in
    let k = c.args.place in
    let e : ℕ × Mementos = c.index-as_slice-place.result in
    first_left es k e c.in_ok-first.first c.skip.new.self c.args.part.1 c.requires
    (subst (λ (xs : List (ℕ × Mementos)). e ≡ get_or xs k e) c.as_slice.ensures c.index-as_slice-place.is)
    c.in_ok-first.ensures c.in_ok-skip.ensures.ok
