use Rattle.memento_time.proofs.BuilderLemmas.{within, its_address}
use Rattle.memento_time.proofs.builder.MementosBuilder.build.Goals as goal

pub range-requires-clause-within : goal.range-requires-clause-within
range-requires-clause-within c = within _ _ c.loop-at.invariant.builder _ _ _ c.loop-at.invariant.here c.loop-at-item.result c.loop-at-test.true c.loop-at-item.is

pub range-requires-clause-clean : goal.range-requires-clause-clean
range-requires-clause-clean c = its_address _ _ c.loop-at.invariant.builder _ _ _ c.loop-at.invariant.here c.loop-at-item.result c.loop-at-test.true c.loop-at-item.is
