-- A publish is the events of its batch, and an entry is an Ask.
use Rattle.std.proofs.Common.{◌≡◌, ℕ, zero, suc, List, [], ◌∷◌, ◌++◌, map, length, ◌+◌, ◌≤◌, arith, All, Some, Ok, Option, MatchOption, refl, sym, ap, ◌∙◌, subst, inl, append_assoc, append-nil}
use Rattle.std.specs.Prelude.{slice_get, slice_set}
use Rattle.std.proofs.lemmas.List.{set-set, length-append, length_push}
use Rattle.std.proofs.lemmas.List.Elements.{All-head, All-tail}
use Rattle.memento_index.specs.declared.merge.Merge.{Merge}
use Rattle.memento_index.specs.declared.merge.Merge.TheVariants.{Harvest, State}
use Rattle.memento_index.specs.Merges.{adds_of}
use Rattle.harvest_lattice.specs.Lattice.{Entries}
use Rattle.harvest_lattice.specs.Knowledge.{lat}
use Rattle.replica_exchange.specs.Stamps.{IsStamped}
use Rattle.timegate.specs.declared.reply.Reply.{Reply}
use Rattle.timegate.specs.declared.request.Request.{Request}
use Rattle.timegate.specs.Reply.{reply_of}
use Rattle.replica_events.specs.declared.event.Event.TheVariants.{Ask}
use Rattle.replica_events.specs.declared.event.Said.TheVariants.{Replied}
use Rattle.replica_events.specs.World.{World, Replica, Step, Run, Knowledge, replica, with_replica, after_merge, last_number, replica_reply}
use Rattle.published_index.specs.Batches.{Batch, fold_of, harvests_of, merges_of}
use Rattle.published_index.specs.Cursors.{with_publish}
use Rattle.published_index.specs.Events.{AreNumbered, RunsAsEvents, event_of, answer_to, IsReceivable, after_batch}
use Rattle.published_index.specs.Views.{MergerView}
use Rattle.published_index.specs.Replies.{IsReplyFrom}
use Rattle.published_index.proofs.Folding.{fold-batch, merges-append}

get_set : {X : Type 0} (xs : List X) (p : ℕ) (old new : X) → slice_get xs p ≡ Some old → slice_get (slice_set xs p new) p ≡ Some new
get_set [] p old new there = cc
get_set (y ∷ xs) zero old new there = refl
get_set (y ∷ xs) (suc p) old new there = get_set xs p old new there

set_same : {X : Type 0} (xs : List X) (p : ℕ) (x : X) → slice_get xs p ≡ Some x → slice_set xs p x ≡ xs
set_same [] p x there = cc
set_same (y ∷ xs) zero x there = cc there
set_same (y ∷ xs) (suc p) x there = ap (λ l. y ∷ l) (set_same xs p x there)

-- the replica that was put there is there
put_there : (w : World) (i : ℕ) (old new : Replica) → replica w i ≡ Some old → replica (with_replica w i new) i ≡ Some new
put_there w zero old new there = cc
put_there w (suc p) old new there = get_set w.replicas p old new there

put_same : (w : World) (i : ℕ) (r : Replica) → replica w i ≡ Some r → with_replica w i r ≡ w
put_same w zero r there = refl
put_same w (suc p) r there = ap (λ (rs : List Replica). record w { replicas = rs }) (set_same w.replicas p r there)

-- the one that is put there last stays
put_twice : (w : World) (i : ℕ) (one other : Replica) → with_replica (with_replica w i one) i other ≡ with_replica w i other
put_twice w zero one other = refl
put_twice w (suc p) one other = ap (λ (rs : List Replica). record w { replicas = rs }) (set-set w.replicas p one other)

merge_nothing : (r : Replica) → after_batch r [] ≡ r
merge_nothing r =
    let taken : r.taken ++ [] ≡ r.taken = append-nil r.taken in
    let merges : r.merges ++ [] ≡ r.merges = append-nil r.merges in
    λ i. record r { taken = taken i; merges = merges i }

merge_more : (r : Replica) (m : Merge) (batch : Batch) → after_batch (after_merge r (adds_of m) m) batch ≡ after_batch r (m ∷ batch)
merge_more r m batch =
    let taken : (r.taken ++ adds_of m) ++ harvests_of batch ≡ r.taken ++ (adds_of m ++ harvests_of batch) = append_assoc r.taken (adds_of m) (harvests_of batch) in
    let merges : (r.merges ++ m ∷ []) ++ batch ≡ r.merges ++ m ∷ batch = append_assoc r.merges (m ∷ []) batch in
    λ i. record r { taken = taken i; merges = merges i }

-- what happens at a replica that is there
at_replica : (w : World) (i : ℕ) (r : Replica) (happens : Replica → Type 0) (otherwise : Type 0) → replica w i ≡ Some r → happens r → MatchOption (replica w i) otherwise happens
at_replica w i r happens otherwise there is = let At : Option Replica → Type 0 = λ o. MatchOption o otherwise happens in subst At (sym there) is

-- a merge is one event
takes : (base : List ℕ) (w : World) (i : ℕ) (r : Replica) (m : Merge) → replica w i ≡ Some r → IsReceivable m → ¬ (length r.merges ≡ last_number)
    → Step base w (event_of i m) (answer_to m) (with_replica w i (after_merge r (adds_of m) m))
takes base w i r (Harvest h) there fits left = inl (at_replica w i r _ _ there (inl (left, (refl, refl))))
takes base w i r (State s) there fits left = inl (at_replica w i r _ _ there (inl (s, record { text = record { state = fits.0; text = inl refl }; within = fits.1 }, inl (left, (refl, refl)))))

-- a batch is its events, one after the other
batch_runs : (base : List ℕ) (w : World) (i : ℕ) (r : Replica) (batch : Batch) → replica w i ≡ Some r → All IsReceivable batch → length r.merges + length batch ≤ last_number
    → Run base w (map (event_of i) batch) (map answer_to batch) (with_replica w i (after_batch r batch))
batch_runs base w i r [] there fits left = ap (with_replica w i) (merge_nothing r) ∙ put_same w i r there
batch_runs base w i r (m ∷ ms) there fits left =
    let next = after_merge r (adds_of m) m in
    let mid = with_replica w i next in
    let end : with_replica mid i (after_batch next ms) ≡ with_replica w i (after_batch r (m ∷ ms)) = put_twice w i next _ ∙ ap (with_replica w i) (merge_more r m ms) in
    let count = length_push r.merges m in
    let first : ¬ (length r.merges ≡ last_number) = (λ spent. omega (arith, spent, left)) in
    let later : length next.merges + length ms ≤ last_number = omega (arith, count, left) in (
      mid,
      takes base w i r m there (All-head IsReceivable m ms fits) first,
      subst (Run base mid (map (event_of i) ms) (map answer_to ms)) end
          (batch_runs base mid i next ms (put_there w i r _ there) (All-tail IsReceivable m ms fits) later),
    )

pub publish_runs : (m : MergerView) → AreNumbered (with_publish m).published → RunsAsEvents m.published m.pending
publish_runs m numbered base w i r there merges fits =
    batch_runs base w i r m.pending there fits (omega (arith, ap length merges, ap length (merges-append m.published m.pending), length-append (merges_of m.published) m.pending, numbered))

-- and takes what the published list has with it
pub publish_taken : (m : MergerView) (r : Replica) → r.taken ≡ fold_of m.published → (after_batch r m.pending).taken ≡ fold_of (with_publish m).published
publish_taken m r is = ap (λ (k : Knowledge). k ++ harvests_of m.pending) is ∙ sym (fold-batch m.published m.pending)

pub publish_merged : (m : MergerView) (r : Replica) → r.merges ≡ merges_of m.published → (after_batch r m.pending).merges ≡ merges_of (with_publish m).published
publish_merged m r is = ap (λ (ms : Batch). ms ++ m.pending) is ∙ sym (merges-append m.published m.pending)

-- an entry is an Ask at its front
pub entry_asks : (base : List ℕ) (w : World) (i : ℕ) (r : Replica) (front : List Batch) (q : Request) (made : Reply) → replica w i ≡ Some r → r.taken ≡ fold_of front → r.merges ≡ merges_of front
    → IsReplyFrom base r.incarnation front q made → Step base w (Ask i q) (Ok (Replied made)) w
entry_asks base w i r front q made there taken merges from =
    let s = from.stamped in
    let stamped : IsStamped r.merges s = subst (λ (ms : Batch). IsStamped ms s) (sym merges) from.merges in
    let entries : s.entries ≡ lat r.taken = from.merges.entries ∙ ap (λ (k : Knowledge). lat k) (sym taken) in
    let said : made ≡ replica_reply base r s q = from.is ∙ ap (λ (e : Entries). reply_of base (record s { entries = e }) q) entries in
    inl (at_replica w i r _ _ there (s, stamped, from.own, (ap (λ (m : Reply). Ok (Replied m)) said, refl)))
