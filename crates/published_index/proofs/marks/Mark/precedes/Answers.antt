use Rattle.std.proofs.Common.{ap, subst, arith, List}
use Rattle.std.proofs.lemmas.Bool.Decides.{nat_tests}
use mathlib.Core.List.{IsPrefix}
use Rattle.published_index.specs.declared.marks.LogEntry.{LogEntry}
use Rattle.published_index.proofs.Logs.{successes-next}
use Rattle.published_index.proofs.marks.Mark.precedes.Goals as goal

pub returns : goal.returns
returns c is =
    let both = c.learn.new.self.log in
    let this : IsPrefix c.args.self.now.seen.log both = subst (λ (l : List LogEntry). IsPrefix l both) (ap (λ s. s.log) c.again-both.ensures) c.learn.ensures.2 in
    successes-next _ _ both this c.learn.ensures.3 (let e = c.saturating_add.ensures in let a = c.args.self.now.counted in let b = c.args.other.now.counted in grind (arith, nat_tests))
