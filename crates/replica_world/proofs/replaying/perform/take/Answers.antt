use Rattle.std.proofs.Common.{rules, ◌≡◌, Some}
use Rattle.timegate.specs.Route.{original_at}
use Rattle.replica_world.specs.Output.{IsPage}
use Rattle.replica_world.specs.Spelled.{taking_view}
use Rattle.replica_world.proofs.Happenings.{page_taken_if}
use Rattle.replica_world.proofs.replaying.perform.take.Goals as goal

pub returns : goal.returns
returns c =
    let named : original_at c.args.taking.now.original.now ≡ Some c.in-Some.original = search rules in
    let read : IsPage c.args.taking.now.address.now c.args.taking.now.body.now c.in-Some-2.page = search rules in
    page_taken_if c.args.world.now c.take_harvest.new.world (taking_view c.args.taking.now) c.in-Some.original c.in-Some-2.page _ named read c.take_harvest.ensures
