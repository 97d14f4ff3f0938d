use Rattle.std.proofs.Common.{ap, subst, arith, List}
use mathlib.Core.List.{IsPrefix}
use Rattle.published_index.specs.declared.marks.LogEntry.{LogEntry}
use Rattle.published_index.proofs.Logs.{successes-shorter}
use Rattle.published_index.proofs.marks.Mark.longer.Goals as goal

pub returns-then-self-other-clause-this : goal.returns-then-self-other-clause-this
returns-then-self-other-clause-this c =
    let both = c.learn.new.self.log in
    let this : IsPrefix c.args.self.seen.log both = subst (λ (l : List LogEntry). IsPrefix l both) (ap (λ s. s.log) c.again-both.ensures) c.learn.ensures.2 in
    successes-shorter _ _ both this c.learn.ensures.3 (omega (arith, c.args.self.counted, c.args.other.counted))

pub returns-else-self-other-clause-that : goal.returns-else-self-other-clause-that
returns-else-self-other-clause-that c =
    let both = c.learn.new.self.log in
    let this : IsPrefix c.args.self.seen.log both = subst (λ (l : List LogEntry). IsPrefix l both) (ap (λ s. s.log) c.again-both.ensures) c.learn.ensures.2 in
    successes-shorter _ _ both c.learn.ensures.3 this (omega (arith, c.args.self.counted, c.args.other.counted))
