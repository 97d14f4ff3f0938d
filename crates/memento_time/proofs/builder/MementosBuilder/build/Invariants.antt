use Rattle.memento_time.specs.Builder.{IsBuilder}
use Rattle.memento_time.proofs.BuilderLemmas.{IsAt}
use Rattle.memento_time.proofs.builder.MementosBuilder.build.Given as goal

abbrev pub invariant-loop-at : goal.invariant-loop-at
invariant-loop-at l = record {
  builder : IsBuilder l.at-items l.buffer.value.items;
  here : IsAt l.at-items l.buffer.value.items l.at-index l.start l.mementos.items;
}
