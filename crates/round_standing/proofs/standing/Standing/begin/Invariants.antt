use Rattle.std.proofs.Common.{◌≡◌}
use Rattle.round_standing.specs.Paces.{LeavesAsked, Passes}
use Rattle.round_standing.proofs.standing.Standing.begin.Given as goal

-- jobs of archives that the round doesn't ask are passed over, and nothing else changed
abbrev pub invariant-loop-archive : goal.invariant-loop-archive
invariant-loop-archive l = Passes 0 l.initial.self.schedule l.self.passed l.self.schedule
    × LeavesAsked l.initial.self.absences l.initial.self.schedule l.self.schedule
    × (l.self ≡ record l.initial.self { schedule = l.self.schedule; passed = l.self.passed })
