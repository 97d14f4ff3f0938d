use Rattle.std.proofs.Common.{sym, ◌∙◌, rules, tests}
use Rattle.std.proofs.lemmas.Iterator.{YieldsList-from_slice}
use Rattle.std.proofs.lemmas.Iterator.Adapters.{option_map_id}
use Rattle.std.proofs.lemmas.Iterator.Consumers.{YieldsList-from_filter_map, min_from_yields_List}
use Rattle.harvest_schedule.specs.Lanes.{time_after}
use Rattle.harvest_schedule.proofs.schedules.first_time.Goals as goal

pub returns : goal.returns
returns c =
    sym (option_map_id _)
    ∙ min_from_yields_List _ _ c.min.ensures.ran
    (YieldsList-from_filter_map _ (time_after c.args.now) (YieldsList-from_slice c.args.lanes.now cc) c.filter_map.ensures.closure (λ x r q k. search (rules, tests)))
