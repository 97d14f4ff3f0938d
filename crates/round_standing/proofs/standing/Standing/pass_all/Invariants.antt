use Rattle.std.proofs.Common.{◌≡◌}
use Rattle.round_standing.specs.Paces.{IsAt, Passes}
use Rattle.round_standing.proofs.standing.Standing.pass_all.Given as goal

-- some jobs of the archive were passed over, and nothing else changed
abbrev pub invariant-loop-original : goal.invariant-loop-original
invariant-loop-original l = Passes l.initial.self.passed l.initial.self.schedule l.self.passed l.self.schedule
    × IsAt l.fn.archive l.initial.self.schedule l.self.schedule
    × (l.self ≡ record l.initial.self { schedule = l.self.schedule; passed = l.self.passed })
