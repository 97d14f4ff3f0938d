-- The steps that send, restart and ask in the worlds that what is kept stands for, runs of steps, and the first world.
use Rattle.std.proofs.Common.{◌≡◌, ℕ, zero, suc, ◌+◌, ◌<◌, List, [], ◌∷◌, ◌++◌, length, get_or, map, Option, Some, None, Ok, Err, refl, sym, ap, subst, ◌∙◌, arith, inl, inr}
use Rattle.std.specs.Prelude.{slice_set, All}
use Rattle.std.specs.List.{AllZip}
use Rattle.std.specs.FinMap as fmap
use Rattle.std.proofs.lemmas.List.{map_push, length_push, length-map, get_or_default}
use Rattle.std.proofs.lemmas.List.Elements.{All-push}
use Rattle.harvest_lattice.specs.Lattice.{Entries}
use Rattle.harvest_lattice.specs.Knowledge.{lat}
use Rattle.replica_exchange.specs.declared.cursor.Cursor.{Cursor}
use Rattle.replica_exchange.specs.Stamps.{StampedState, IsStamped}
use Rattle.replica_exchange.specs.DeltaText.{delta_text, IsDelta}
use Rattle.replica_exchange.specs.CursorRule.{delta_from}
use Rattle.timegate.specs.declared.request.Request.{Request}
use Rattle.timegate.specs.declared.reply.Reply.{Reply}
use Rattle.timegate.specs.Reply.{reply_of}
use Rattle.replica_events.specs.declared.event.Event.{Event}
use Rattle.replica_events.specs.declared.event.Event.TheVariants.{Send, SendFrom, Restart, Ask}
use Rattle.replica_events.specs.declared.event.Said.TheVariants.{Sent, Restarted, Replied}
use Rattle.replica_events.specs.declared.event.Refused.TheVariants.{NumbersSpent}
use Rattle.replica_events.specs.World.{World, Replica, Message, EventAnswer, Step, last_number, replica}
use Rattle.replica_events.specs.World.{with_message, sent_by, own_cursor, new_replica, new_replicas_after, after_restart}
use Rattle.replica_events.specs.World.{start}
use Rattle.replica_events.proofs.Numbers.{messages_stay}
use Rattle.replica_events.proofs.Moments.{run_push, merges_made}
use Rattle.replica_world.specs.Places.{IsPlaceOf}
use Rattle.replica_world.specs.declared.replica.KeptReplica.{KeptReplica}
use Rattle.replica_world.specs.Stands.{Kept, Keeps, IsSent, IsReached, Stands, Steps, Runs, kept_at, kept_message, nothing_kept}
use Rattle.replica_world.proofs.Worlds.{zip_push, stays, replica_at, placed, reached_next}

-- ---- a message is sent

-- the message stands behind the others, and nothing else has changed
pub record PushedMessage (old new : Kept) (sender count : ℕ) (text : List ℕ) : Type 0 where
  pub base : new.base ≡ old.base
  pub replicas : new.replicas ≡ old.replicas
  pub last : new.last ≡ old.last
  pub messages : new.messages ≡ old.messages ++ record { sender = sender; bytes = text } ∷ []
  pub counted : count ≡ length new.messages

-- a delta is sent from what is kept, with the text that was written
sent_one : (old new : Kept) (number place count : ℕ) (event : Event) (cursor : Option Cursor) (text : List ℕ) → IsPlaceOf number (length old.replicas) place
    → text ≡ delta_text (delta_from (kept_at old place).stamped cursor) → IsDelta (delta_from (kept_at old place).stamped cursor) → PushedMessage old new number count text
    → ((w : World) (r : Replica) → replica w number ≡ Some r → Keeps (kept_at old place) r
    → Step old.base w event (Ok (Sent (length w.messages + 1))) (with_message w (sent_by number r (delta_from (kept_at old place).stamped cursor))))
    → Steps old event (Ok (Sent count)) new
sent_one old new number place count event cursor text here text_is written push step = record {
  base = push.base;
  leads = λ w stands.
      let x = replica_at old w number place stands here in
      let m : Message = sent_by number x.found (delta_from (kept_at old place).stamped cursor) in
      let same : new.messages ≡ map kept_message (w.messages ++ m ∷ []) =
      push.messages ∙ ((λ i. stands.messages i ++ record { sender = number; bytes = text_is i } ∷ []) ∙ sym (map_push kept_message w.messages m)) in
      let count_now : length w.messages + 1 ≡ count = sym (push.counted ∙ (ap length same ∙ (length-map (w.messages ++ m ∷ []) kept_message ∙ length_push w.messages m))) in
      let stepped : Step old.base w event (Ok (Sent count)) (with_message w m) = subst (λ (n : ℕ). Step old.base w event (Ok (Sent n)) (with_message w m)) count_now (step w x.found x.there x.keeps) in
      record {
        next = with_message w m;
        step = stepped;
        stands = record {
          reached = subst (λ (b : List ℕ). IsReached b (with_message w m)) (sym push.base) (reached_next old.base w event (Ok (Sent count)) (with_message w m) stands.reached stepped);
          replicas = subst (λ (ks : List KeptReplica). AllZip Keeps ks w.replicas) (sym push.replicas) stands.replicas;
          messages = same;
          last = push.last ∙ stands.last;
          sent = All-push IsSent w.messages m stands.sent (record { delta = written; text = refl });
        };
      };
}

pub sent_whole : (old new : Kept) (number place count : ℕ) (text : List ℕ) → IsPlaceOf number (length old.replicas) place
    → text ≡ delta_text (delta_from (kept_at old place).stamped None) → IsDelta (delta_from (kept_at old place).stamped None) → PushedMessage old new number count text
    → Steps old (Send number) (Ok (Sent count)) new
sent_whole old new number place count text here text_is written push =
    sent_one old new number place count (Send number) None text here text_is written push
    (λ w r there keeps. inl (rw there ((kept_at old place).stamped, keeps.stamped, keeps.incarnation, (refl, refl))))

-- a cursor at this number of the merges of the incarnation that is kept
abbrev pub kept_cursor : Kept → ℕ → ℕ → Option Cursor
kept_cursor kept place n = Some (record { incarnation = (kept_at kept place).stamped.incarnation; number = n })

pub sent_from : (old new : Kept) (number place count n : ℕ) (text : List ℕ) → IsPlaceOf number (length old.replicas) place
    → text ≡ delta_text (delta_from (kept_at old place).stamped (kept_cursor old place n)) → IsDelta (delta_from (kept_at old place).stamped (kept_cursor old place n))
    → PushedMessage old new number count text → Steps old (SendFrom number n) (Ok (Sent count)) new
sent_from old new number place count n text here text_is written push =
    let s : StampedState = (kept_at old place).stamped in
    sent_one old new number place count (SendFrom number n) (kept_cursor old place n) text here text_is written push
    (λ w r there keeps.
    let same : with_message w (sent_by number r (delta_from s (kept_cursor old place n))) ≡ with_message w (sent_by number r (delta_from s (own_cursor n r))) =
    ap (λ (i : ℕ). with_message w (sent_by number r (delta_from s (Some (record { incarnation = i; number = n }))))) keeps.incarnation in
    inl (rw there (s, keeps.stamped, keeps.incarnation, (refl, same))))

-- ---- a replica restarts

pub restarted : (old new : Kept) (number place : ℕ) (k : KeptReplica) → IsPlaceOf number (length old.replicas) place → ¬ (old.last ≡ last_number)
    → IsStamped [] k.stamped → k.stamped.incarnation ≡ old.last + 1 → k.cursors ≡ fmap.empty
    → new.base ≡ old.base → new.messages ≡ old.messages → new.last ≡ old.last + 1
    → new.replicas ≡ slice_set old.replicas place k → Steps old (Restart number) (Ok Restarted) new
restarted old new number place k here left is incarnation cursors base messages last replicas = record {
  base = base;
  leads = λ w stands.
      let x = replica_at old w number place stands here in
      let step : Step old.base w (Restart number) (Ok Restarted) (after_restart w number) = inl (rw x.there (inl ((λ spent. left (stands.last ∙ spent)), (refl, refl)))) in
      let keeps : Keeps k (new_replica (w.last + 1)) = record { stamped = is; incarnation = incarnation ∙ ap (λ (n : ℕ). n + 1) stands.last; cursors = cursors } in
      record {
        next = after_restart w number;
        step = step;
        stands = record {
          reached = subst (λ (b : List ℕ). IsReached b (after_restart w number)) (sym base) (reached_next old.base w (Restart number) (Ok Restarted) (after_restart w number) stands.reached step);
          replicas = subst (λ (ks : List KeptReplica). AllZip Keeps ks (after_restart w number).replicas) (sym replicas)
              (placed old w number place k (new_replica (w.last + 1)) stands here.number_is keeps);
          messages = messages ∙ (stands.messages ∙ ap (map kept_message) (sym (messages_stay w number (new_replica (w.last + 1)))));
          last = last ∙ ap (λ (n : ℕ). n + 1) stands.last;
          sent = subst (All IsSent) (sym (messages_stay w number (new_replica (w.last + 1)))) stands.sent;
        };
      };
}

pub spent_restart : (kept : Kept) (number place : ℕ) → IsPlaceOf number (length kept.replicas) place → kept.last ≡ last_number → Steps kept (Restart number) (Err NumbersSpent) kept
spent_restart kept number place here spent =
    stays kept (Restart number) (Err NumbersSpent)
    (λ w stands. inl (rw (replica_at kept w number place stands here).there (inr (sym stands.last ∙ spent, (refl, refl)))))

-- ---- a replica is asked

pub replied : (kept : Kept) (number place : ℕ) (q : Request) (r : Reply) → IsPlaceOf number (length kept.replicas) place
    → r ≡ reply_of kept.base (kept_at kept place).stamped q → Steps kept (Ask number q) (Ok (Replied r)) kept
replied kept number place q r here is =
    stays kept (Ask number q) (Ok (Replied r))
    (λ w stands.
    let x = replica_at kept w number place stands here in
    let s : StampedState = (kept_at kept place).stamped in
    let there : replica stands.reached.course.world number ≡ Some x.found = ap (λ (w : World). replica w number) stands.reached.world ∙ x.there in
    let state : s.entries ≡ lat x.found.taken = x.keeps.stamped.entries ∙ merges_made stands.reached.course number x.found there in
    let same : r ≡ reply_of kept.base (record s { entries = lat x.found.taken }) q = is ∙ ap (λ (e : Entries). reply_of kept.base (record s { entries = e }) q) state in
    inl (rw x.there (s, x.keeps.stamped, x.keeps.incarnation, (ap (λ (r : Reply). Ok (Replied r)) same, refl))))

-- ---- runs

pub runs_none : (kept : Kept) → Runs kept [] [] kept
runs_none kept = record { base = refl; leads = λ w stands. record { end = w; run = refl; stands = stands } }

pub runs_push : (old mid new : Kept) (events : List Event) (answers : List EventAnswer) (event : Event) (answer : EventAnswer)
    → Runs old events answers mid → Steps mid event answer new → Runs old (events ++ event ∷ []) (answers ++ answer ∷ []) new
runs_push old mid new events answers event answer runs steps = record {
  base = steps.base ∙ runs.base;
  leads = λ w stands.
      let before = runs.leads w stands in
      let after = steps.leads before.end before.stands in
      record {
        end = after.next;
        run = run_push old.base w events answers before.end event answer after.next before.run (subst (λ (b : List ℕ). Step b before.end event answer after.next) runs.base after.step);
        stands = after.stands;
      };
}

-- ---- at first

open_start : (base : List ℕ) (count : ℕ) → IsReached base (start count)
open_start base count = record { course = record { count = count; events = []; answers = []; world = start count; run = refl }; world = refl }

-- at first nothing is taken
pub stands_at_first : (kept : Kept) (n : ℕ) → AllZip Keeps kept.replicas (start n).replicas → kept.messages ≡ [] → kept.last ≡ n → Stands kept (start n)
stands_at_first kept n replicas messages last = record {
  reached = open_start kept.base n;
  replicas = replicas;
  messages = messages;
  last = last;
  sent = λ k d below. absurd (omega (arith, below));
}

fresh_push : (last n : ℕ) → new_replicas_after last (suc n) ≡ new_replicas_after last n ++ new_replica (last + n + 1) ∷ []
fresh_push last zero = let same : last + 1 ≡ last + 0 + 1 = omega arith in ap (λ (i : ℕ). new_replica i ∷ []) same
fresh_push last (suc n) =
    let same : last + 1 + n + 1 ≡ last + suc n + 1 = omega arith in
    ap (λ (rs : List Replica). new_replica (last + 1) ∷ rs) (fresh_push (last + 1) n ∙ ap (λ (i : ℕ). new_replicas_after (last + 1) n ++ new_replica i ∷ []) same)

-- one more replica that has taken nothing
pub fresh_kept : (all more : List KeptReplica) (n : ℕ) (k : KeptReplica) → AllZip Keeps all (new_replicas_after 0 n) → IsStamped [] k.stamped → k.stamped.incarnation ≡ n + 1 → k.cursors ≡ fmap.empty
    → more ≡ all ++ k ∷ [] → AllZip Keeps more (new_replicas_after 0 (n + 1))
fresh_kept all more n k keeps stamped incarnation cursors more_is =
    let number : n + 1 ≡ 0 + n + 1 = omega arith in
    let keeps_new : Keeps k (new_replica (0 + n + 1)) = record { stamped = stamped; incarnation = incarnation ∙ number; cursors = cursors } in
    let next : suc n ≡ n + 1 = omega arith in
    subst (λ (m : ℕ). AllZip Keeps more (new_replicas_after 0 m)) next
    (subst (λ (rs : List Replica). AllZip Keeps more rs) (sym (fresh_push 0 n))
    (subst (λ (ks : List KeptReplica). AllZip Keeps ks (new_replicas_after 0 n ++ new_replica (0 + n + 1) ∷ [])) (sym more_is)
    (zip_push Keeps all (new_replicas_after 0 n) k (new_replica (0 + n + 1)) keeps keeps_new)))

-- what an index reads is what is kept at the place
pub kept_here : (kept : Kept) (place : ℕ) (k : KeptReplica) → place < length kept.replicas → k ≡ get_or kept.replicas place k → k ≡ kept_at kept place
kept_here kept place k below is = is ∙ get_or_default kept.replicas place k nothing_kept below
