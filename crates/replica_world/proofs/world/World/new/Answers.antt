use Rattle.std.proofs.Common.{rules, ◌≡◌, ℕ, subst}
use Rattle.std.specs.List.{AllZip}
use Rattle.replica_events.specs.World.{new_replicas_after}
use Rattle.replica_world.specs.Stands.{Keeps}
use Rattle.replica_world.proofs.WorldRuns.{fresh_kept, stands_at_first}
use Rattle.replica_world.proofs.world.World.new.Goals as goal

pub loop-place-preserved : goal.loop-place-preserved
loop-place-preserved c = record {
  keeps = fresh_kept c.loop-place.all.items c.push.new.self.items c.loop-place.place c.new.result c.loop-place.invariant.keeps c.new.ensures.stamped
      c.new.ensures.incarnation c.new.ensures.cursors (search rules);
}

pub returns-clause-stands : goal.returns-clause-stands
returns-clause-stands c =
    let done : c.loop-place.place ≡ c.args.replicas = search rules in
    stands_at_first _ c.args.replicas (subst (λ (n : ℕ). AllZip Keeps c.loop-place.all.items (new_replicas_after 0 n)) done c.loop-place.invariant.keeps) (search rules) (search rules)
