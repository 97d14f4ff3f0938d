use Rattle.std.proofs.Common.{◌++◌, codes, string_bytes, rules}
use Rattle.std.proofs.Output.{has_written_append, has_written_of_eq}
use Rattle.aggregator.proofs.TellingLemmas.{one_more}
use Rattle.aggregator.proofs.telling.BehindDisplay.fmt.Goals as goal

pub loop-line-preserved : goal.loop-line-preserved
loop-line-preserved g c = λ plain.
    has_written_of_eq _ _ _ _ _
    (one_more (λ line. codes "\n" ++ string_bytes line) c.args.self.now.0.now c.loop-line.line-index c.line-item.result c.loop-line-test.true c.line-item.is)
    (has_written_append _ _ _ _ _ _ (c.loop-line.invariant plain) (search rules))
