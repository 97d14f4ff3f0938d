use Rattle.replica_world.proofs.Questions.{agree_after}
use Rattle.replica_world.proofs.asked.asked_after.Goals as goal

pub returns : goal.returns
returns c =
    agree_after c.args.service c.args.replicas c.args.events.now c.args.question.now.request.now c.args.question.now.first c.args.question.now.second c.in_ok-world.world c.run.new.self _
    c.in_ok-world.ensures.stands c.in_ok-world.ensures.base c.in_ok-answers.ensures.ok c.ask.ensures c.ask-2.ensures
