use Rattle.std.proofs.Common.{refl, sym, subst}
use Rattle.std.specs.FinMap as map
use Rattle.harvest_lattice.specs.Lattice.{Entries}
use Rattle.memento_index.specs.Lists.{IsListed, AreNews}
use Rattle.memento_index.proofs.ListLemmas.{tally_made, can_count, counted_after, fewer_keys_all}
use Rattle.memento_index.proofs.index.Index.put.Goals as goal

pub gather_steps-requires : goal.gather_steps-requires
gather_steps-requires c = subst (λ (x : Entries). AreNews x c.args.changes) (sym c.self.view_is) c.requires

pub recount_all-requires-clause-tally : goal.recount_all-requires-clause-tally
recount_all-requires-clause-tally c =
    tally_made c.self.inside.state c.args.changes c.in_ok-steps.steps c.self.inside.lists
    c.put_with_room-taken.new.lists c.self.invariant c.in_ok-steps.ensures.gathered c.put_with_room-taken.ensures.grow

pub recount_all-requires-clause-can : goal.recount_all-requires-clause-can
recount_all-requires-clause-can c = can_count c.self.inside.state c.args.changes c.in_ok-steps.steps c.self.inside.lists
    c.put_with_room-taken.new.lists c.self.invariant c.in_ok-steps.ensures.gathered c.put_with_room-taken.ensures.grow
    (map.len c.self.inside.state) c.put_with_room-taken.new.lifted.room refl c.in-Ok.ensures.few c.in-Ok.ensures.made

pub recount_all-requires-clause-room : goal.recount_all-requires-clause-room
recount_all-requires-clause-room c =
    fewer_keys_all (map.len c.self.inside.state) c.in_ok-steps.steps c.put_with_room-taken.new.lists
    c.put_with_room-taken.new.lifted.room c.in-Ok.ensures.made

pub recount_all-requires-clause-listed : goal.recount_all-requires-clause-listed
recount_all-requires-clause-listed c o none = subst IsListed (sym (c.put_with_room-taken.ensures.others o none)) (c.self.invariant.listed o)

pub invariant_of-self : goal.invariant_of-self
invariant_of-self c = counted_after c.self.inside.state c.args.changes c.in_ok-steps.steps c.self.inside.lists
    c.put_with_room-taken.new.lists c.self.invariant c.in_ok-steps.ensures.gathered c.put_with_room-taken.ensures.grow
    c.put_with_room-taken.new.state c.recount_all.new.lists c.in-Ok.ensures.ok c.recount_all.ensures.recounted
    c.recount_all.ensures.listed
