use Rattle.std.proofs.Common.{◌≡◌, subst}
use Rattle.std.specs.Prelude.{IfOk}
use Rattle.harvest_lattice.specs.Knowledge.{shown_of}
use Rattle.harvest_lattice.proofs.Outcomes.{on_ok_always}
use Rattle.timegate.specs.declared.route.Route.{Route}
use Rattle.timegate.specs.Reply.{reply_of, reply_at}
use Rattle.timegate.specs.Route.{route_of}
use Rattle.timegate.proofs.Promises.{asked_served}
use Rattle.timegate.proofs.Replies.{known_reply, delta_reply}
use Rattle.timegate.proofs.answering.answer.Goals as goal

pub returns-clause-state : goal.returns-clause-state
unfolding reply_of
returns-clause-state c =
    let P : Route → Type 0 = λ route. IfOk c.reply_at.result (λ answer. answer ≡ reply_at c.args.service.now (shown_of c.args.stamped.now.entries) c.args.stamped.now c.args.request.now route) in
    subst P c.in_ok-route.ensures.route c.reply_at.ensures

pub returns-clause-knowledge : goal.returns-clause-knowledge
returns-clause-knowledge c = λ known is taken. known_reply c.args.service.now c.args.stamped.now known c.args.request.now c.reply_at.result is taken (returns-clause-state c)

pub returns-clause-deltas : goal.returns-clause-deltas
returns-clause-deltas c = λ cursor is. delta_reply c.args.service.now c.args.stamped.now c.args.request.now c.reply_at.result cursor is (returns-clause-state c)

pub returns-clause-served : goal.returns-clause-served
returns-clause-served c = on_ok_always c.reply_at.result (asked_served c.args.service.now c.in_ok-route.route (route_of c.args.request.now) c.in_ok-route.ensures.route c.in_ok-route.ensures.kept)
