use Rattle.std.proofs.Common.{subst, rules}
use Rattle.std.specs.FinMap as map
use Rattle.memento_index.specs.Lists.{HaveRoom}
use Rattle.memento_index.proofs.index.put_with_room.Goals as goal

pub returns-clause-made : goal.returns-clause-made
returns-clause-made c =
    let made : HaveRoom (map.len c.args.state.now) c.args.steps.now c.make_rooms.new.lists
    c.make_rooms.new.lifted.room = subst
    (λ keys. HaveRoom keys c.args.steps.now c.make_rooms.new.lists c.make_rooms.new.lifted.room) c.len-keys.ensures
    c.in_ok-make_rooms.ensures.made in
    search rules
