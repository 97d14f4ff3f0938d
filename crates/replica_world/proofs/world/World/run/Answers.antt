use Rattle.std.proofs.Common.{rules, ◌≡◌, ◌+◌, ◌++◌, ◌∷◌, [], take, List, sym, ap, subst, ◌∙◌}
use Rattle.std.proofs.lemmas.List.{take_more}
use Rattle.replica_events.specs.declared.event.Event.{Event}
use Rattle.replica_events.specs.World.{EventAnswer}
use Rattle.replica_world.specs.Stands.{Runs}
use Rattle.replica_world.proofs.WorldRuns.{runs_push}
use Rattle.replica_world.proofs.world.World.run.Goals as goal

pub loop-event-preserved : goal.loop-event-preserved
loop-event-preserved c =
    let old = c.args.self.now in
    let before : List Event = take c.loop-event.event-index c.args.events.now in
    let event : Event = c.event-item.result in
    let more : before ++ event ∷ [] ≡ take (c.loop-event.event-index + 1) c.args.events.now =
    ap (λ (e : Event). before ++ e ∷ []) c.event-item.is ∙ sym (take_more c.args.events.now c.loop-event.event-index event c.loop-event-test.true) in
    let runs = runs_push old c.loop-event.self c.step-answer.new.self before c.loop-event.answers.items event c.step-answer.result c.loop-event.invariant.runs c.step-answer.ensures.steps in
    record {
      runs = subst (λ (es : List Event). Runs old es c.push_reserved.new.self.items c.step-answer.new.self) more
          (subst (λ (said : List EventAnswer). Runs old (before ++ event ∷ []) said c.step-answer.new.self) (sym c.push_reserved.ensures.items) runs);
      count = search rules;
      room = search rules;
    }
