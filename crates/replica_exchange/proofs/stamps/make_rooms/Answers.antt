use Rattle.std.proofs.Common.{ℕ, get_or, IsSome, subst, ◌∙◌, below_more}
use Rattle.std.proofs.lemmas.List.{get_or_default}
use Rattle.replica_exchange.specs.declared.stamps.ChangedKey.{ChangedKey}
use Rattle.replica_exchange.specs.StampShelves.{slot, key_of}
use Rattle.replica_exchange.proofs.stamps.make_rooms.Goals as goal

pub loop-key-preserved : goal.loop-key-preserved
loop-key-preserved c =
    let keys = c.args.keys.now in
    let i = c.loop-key.key-index in
    let item : ChangedKey = c.key-item.result in
    record {
      same = λ k. c.make_room.ensures.same k ∙ c.loop-key.invariant.same k;
      made = λ k key lt. below_more (λ (k : ℕ). IsSome (slot c.make_room.new.shelves (key_of (get_or keys k key)))) i
          (λ k below. c.make_room.ensures.stay (key_of (get_or keys k key)) (c.loop-key.invariant.made k key below))
          (subst (λ (q : ChangedKey). IsSome (slot c.make_room.new.shelves (key_of q))) (c.key-item.is ∙ get_or_default keys i item key c.loop-key-test.true)
          c.in_ok-make_room.ensures.made)
          k lt;
      ordered = c.make_room.ensures.ordered;
    }
