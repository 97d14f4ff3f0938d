use Rattle.std.proofs.Common.{rules, ◌≡◌, ◌∙◌, ap}
use Rattle.timegate.specs.Reply.{reply_of}
use Rattle.replica_world.specs.declared.replica.KeptReplica.{KeptReplica}
use Rattle.replica_world.specs.Stands.{kept_at}
use Rattle.replica_world.proofs.Worlds.{no_replica, refused_as, ask_ran_out}
use Rattle.replica_world.proofs.WorldRuns.{replied, kept_here}
use Rattle.replica_world.proofs.world.World.ask.Goals as goal

pub returns-in_err-place : goal.returns-in_err-place
returns-in_err-place c = no_replica c.args.self.now _ _ _ _ c.in_err-place.ensures.none (search rules) (search rules)

pub returns-in_err-reply : goal.returns-in_err-reply
returns-in_err-reply c =
    refused_as c.args.self.now _ _ _ _ (ask_ran_out c.args.self.now c.args.number c.in_ok-place.place c.args.request.now c.in_ok-place.ensures.found) (search rules) (search rules)

pub returns : goal.returns
returns c =
    let same : c.index.result.now ≡ kept_at c.args.self.now c.in_ok-place.place = kept_here c.args.self.now c.in_ok-place.place c.index.result.now c.in_ok-place.ensures.found.within (search rules) in
    let own : c.in_ok-reply.reply ≡ reply_of c.args.self.now.base c.index.result.now.stamped c.args.request.now = search rules in
    replied c.args.self.now c.args.number c.in_ok-place.place c.args.request.now c.in_ok-reply.reply c.in_ok-place.ensures.found
    (own ∙ ap (λ (k : KeptReplica). reply_of c.args.self.now.base k.stamped c.args.request.now) same)
