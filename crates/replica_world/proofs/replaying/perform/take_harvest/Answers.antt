use Rattle.std.proofs.Common.{rules, ℕ, List, ◌∙◌, refl}
use Rattle.replica_world.specs.Spelled.{taking_view}
use Rattle.replica_world.proofs.Happenings.{harvest_taken_if, harvest_too_large_if}
use Rattle.replica_world.proofs.replaying.perform.take_harvest.Goals as goal

pub returns-in-Ok : goal.returns-in-Ok
returns-in-Ok c =
    harvest_taken_if (λ (text : List ℕ). text) _ _ (taking_view c.args.taking.now) _ c.args.page _ _ _ _ _ c.in-Some.ensures c.requires c.in-Ok.ensures.kept c.into_vec.ensures c.in-Ok.ensures.few
    (c.deref.ensures.value ∙ c.in_ok-accepted.ensures) c.happen.ensures

pub returns-in-Err-TooMany : goal.returns-in-Err-TooMany
returns-in-Err-TooMany c =
    harvest_too_large_if (λ (text : List ℕ). text) c.args.world.now _ (taking_view c.args.taking.now) c.args.original.now c.args.page _ _ c.refusal_text-in-Err-TooMany.result
    c.in-Some.ensures c.requires c.into_vec.ensures (c.in-Err-TooMany.ensures.too_many (search rules)) c.refusal_text-in-Err-TooMany.ensures refl
