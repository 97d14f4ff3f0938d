use Rattle.std.proofs.Common.{rules, ◌≡◌, ℕ, Option, Some, ap, subst, ◌∙◌}
use Rattle.replica_exchange.specs.declared.cursor.Cursor.{Cursor}
use Rattle.replica_exchange.specs.DeltaText.{IsDelta, delta_text}
use Rattle.replica_exchange.specs.CursorRule.{delta_from}
use Rattle.replica_world.specs.declared.replica.KeptReplica.{KeptReplica}
use Rattle.replica_world.specs.Stands.{kept_at}
use Rattle.replica_world.proofs.Worlds.{no_replica, refused_as, send_from_ran_out}
use Rattle.replica_world.proofs.WorldRuns.{sent_from, kept_here}
use Rattle.replica_world.proofs.world.World.send_from.Goals as goal

-- a cursor at this number of what is kept
abbrev at : KeptReplica → ℕ → Option Cursor
at k n = Some (record { incarnation = k.stamped.incarnation; number = n })

pub returns-in_err-place-clause-steps : goal.returns-in_err-place-clause-steps
returns-in_err-place-clause-steps c = no_replica c.args.self.now _ _ _ _ c.in_err-place.ensures.none (search rules) (search rules)

pub returns-in_err-text-clause-steps : goal.returns-in_err-text-clause-steps
returns-in_err-text-clause-steps c =
    refused_as c.args.self.now _ _ _ _ (send_from_ran_out c.args.self.now c.args.number c.in_ok-place.place c.args.merges c.in_ok-place.ensures.found) (search rules) (search rules)

pub returns-in_err-count-clause-steps : goal.returns-in_err-count-clause-steps
returns-in_err-count-clause-steps c =
    refused_as c.args.self.now _ _ _ _ (send_from_ran_out c.args.self.now c.args.number c.in_ok-place.place c.args.merges c.in_ok-place.ensures.found) (search rules) (search rules)

pub returns-clause-steps : goal.returns-clause-steps
returns-clause-steps c =
    let same : c.index.result.now ≡ kept_at c.args.self.now c.in_ok-place.place = kept_here c.args.self.now c.in_ok-place.place c.index.result.now c.in_ok-place.ensures.found.within (search rules) in
    let written : c.in_ok-text.text.items ≡ delta_text (delta_from c.index.result.now.stamped (at c.index.result.now c.args.merges)) = search rules in
    let fits : IsDelta (delta_from c.index.result.now.stamped (at c.index.result.now c.args.merges)) = search rules in
    sent_from c.args.self.now _ c.args.number c.in_ok-place.place c.in_ok-count.count c.args.merges c.in_ok-text.text.items c.in_ok-place.ensures.found
    (written ∙ ap (λ (k : KeptReplica). delta_text (delta_from k.stamped (at k c.args.merges))) same)
    (subst (λ (k : KeptReplica). IsDelta (delta_from k.stamped (at k c.args.merges))) same fits)
    (record {
      base = c.push_message.ensures.base;
      replicas = c.push_message.ensures.replicas;
      last = c.push_message.ensures.last;
      messages = c.in_ok-count.ensures.messages;
      counted = c.in_ok-count.ensures.count;
    })
