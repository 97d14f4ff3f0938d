use Rattle.std.proofs.Common.{◌≡◌, ◌++◌, map, take, drop}
use Rattle.wish_list.specs.Jobs.{after_skip}
use Rattle.wish_list.proofs.jobs.WishJobs.skip.Given as goal

abbrev pub invariant-loop-granted : goal.invariant-loop-granted
invariant-loop-granted l = l.granted-items ≡ map (after_skip l.archive) (take l.granted-index l.initial.granted-items) ++ drop l.granted-index l.initial.granted-items
