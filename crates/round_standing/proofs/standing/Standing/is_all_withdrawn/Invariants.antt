use Rattle.std.proofs.Common.{◌≡◌, take, true}
use Rattle.std.specs.List.{list_all}
use Rattle.forgetting.specs.Renewing.{is_withdrawn_by}
use Rattle.round_standing.proofs.standing.Standing.is_all_withdrawn.Given as goal

-- those that were gone over are withdrawn
abbrev pub invariant-loop-archive : goal.invariant-loop-archive
invariant-loop-archive l =
    list_all (λ archive. is_withdrawn_by l.self.forgetting.withdrawn (archive.name, l.original)) (take l.archive-index l.archive-items)
    ≡ true
