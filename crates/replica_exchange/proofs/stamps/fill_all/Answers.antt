use Rattle.std.proofs.Common.{◌≡◌, ℕ, ◌+◌, ◌++◌, ◌∷◌, [], Option, List, map, take, take_all, get_or, refl, cond, Some, IsSome, sym, ap, subst, ◌∙◌}
use Rattle.std.specs.Ordering.{eq_by_cmp}
use Rattle.std.proofs.lemmas.List.{take_more, map_push}
use Rattle.std.proofs.lemmas.List.Elements.{All-weaker, All-get_or}
use Rattle.harvest_lattice.specs.Lattice.{Key, key_cmp}
use Rattle.replica_exchange.specs.declared.stamps.ChangedKey.{ChangedKey}
use Rattle.replica_exchange.specs.StampShelves.{Shelves, stamp_in, slot, key_of, stamp_after}
use Rattle.replica_exchange.proofs.ShelfLemmas.{slot_stays_filled}
use Rattle.replica_exchange.proofs.AbsorbLemmas.{filled_cond, restamped_push}
use Rattle.replica_exchange.proofs.stamps.fill_all.Goals as goal

one_more : (keys next_keys : List Key) (key : Key) (stamp : ℕ) (first now next : Shelves) → next_keys ≡ keys ++ key ∷ []
    → ((k : Key) → stamp_in (slot now k) ≡ stamp_after keys stamp k (stamp_in (slot first k))) → ((k : Key) → slot next k ≡ cond (eq_by_cmp key_cmp k key) (Some (Some stamp)) (slot now k))
    → (k : Key) → stamp_in (slot next k) ≡ stamp_after next_keys stamp k (stamp_in (slot first k))
one_more keys next_keys key stamp first now next more before after k =
    ap stamp_in (after k)
    ∙ (filled_cond (eq_by_cmp key_cmp k key) stamp (slot now k)
    ∙ (ap (λ (o : Option ℕ). cond (eq_by_cmp key_cmp k key) (Some stamp) o) (before k)
    ∙ (sym (restamped_push keys key stamp k (stamp_in (slot first k))) ∙ ap (λ (ks : List Key). stamp_after ks stamp k (stamp_in (slot first k))) (sym more))))

pub loop-key-init : goal.loop-key-init
loop-key-init c = record { stamps = λ k. refl; room = c.requires.room; ordered = c.requires.ordered }

pub loop-key-preserved : goal.loop-key-preserved
loop-key-preserved c =
    let keys = c.args.keys.now in
    let i = c.loop-key.key-index in
    let key : ChangedKey = c.key-item.result in
    let more : map key_of (take (i + 1) keys) ≡ map key_of (take i keys) ++ key_of key ∷ [] =
    ap (map key_of) (take_more keys i key c.loop-key-test.true ∙ ap (λ (q : ChangedKey). take i keys ++ q ∷ []) (sym c.key-item.is)) ∙ map_push key_of (take i keys) key in
    let after : (k : Key) → slot c.fill.new.shelves k ≡ cond (eq_by_cmp key_cmp k (key_of key)) (Some (Some c.args.stamp)) (slot c.loop-key.shelves k) = c.fill.ensures.after in
    record {
      stamps = one_more (map key_of (take i keys)) (map key_of (take (i + 1) keys)) (key_of key) c.args.stamp c.args.shelves.now c.loop-key.shelves c.fill.new.shelves more
          c.loop-key.invariant.stamps after;
      room = All-weaker (λ (q : ChangedKey). IsSome (slot c.loop-key.shelves (key_of q))) (λ (q : ChangedKey). IsSome (slot c.fill.new.shelves (key_of q)))
          (λ q. slot_stays_filled c.loop-key.shelves c.fill.new.shelves (key_of key) c.args.stamp after (key_of q)) keys c.loop-key.invariant.room;
      ordered = c.fill.ensures.ordered;
    }

pub fill-requires-clause-room : goal.fill-requires-clause-room
fill-requires-clause-room c =
    let key : ChangedKey = c.key-item.result in
    let here : IsSome (slot c.loop-key.shelves (key_of (get_or c.args.keys.now c.loop-key.key-index key))) = All-get_or
    (λ (q : ChangedKey). IsSome (slot c.loop-key.shelves (key_of q))) c.args.keys.now c.loop-key.key-index key c.loop-key-test.true c.loop-key.invariant.room in
    subst (λ (q : ChangedKey). IsSome (slot c.loop-key.shelves (key_of q))) (sym c.key-item.is) here

pub returns-clause-stamps : goal.returns-clause-stamps
returns-clause-stamps c k =
    let whole : take c.loop-key.key-index c.args.keys.now ≡ c.args.keys.now = take_all c.loop-key.key-index c.args.keys.now c.loop-key-test.false in
    c.loop-key.invariant.stamps k ∙ ap (λ (keys : List ChangedKey). stamp_after (map key_of keys) c.args.stamp k (stamp_in (slot c.args.shelves.now k))) whole
