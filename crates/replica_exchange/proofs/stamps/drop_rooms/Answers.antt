use Rattle.std.proofs.Common.{◌≡◌, ℕ, get_or, Some, None, subst, ◌∙◌, below_more, arith}
use Rattle.std.proofs.lemmas.List.{get_or_default}
use Rattle.replica_exchange.specs.declared.stamps.ChangedKey.{ChangedKey}
use Rattle.replica_exchange.specs.StampShelves.{slot, key_of}
use Rattle.replica_exchange.proofs.stamps.drop_rooms.Goals as goal

pub loop-key-preserved : goal.loop-key-preserved
loop-key-preserved c =
    let keys = c.args.keys.now in
    let i = c.loop-key.key-index in
    let item : ChangedKey = c.key-item.result in
    record {
      same = λ k. c.drop_room.ensures.same k ∙ c.loop-key.invariant.same k;
      gone = λ k key lt. below_more (λ (k : ℕ). ¬ (slot c.drop_room.new.shelves (key_of (get_or keys k key)) ≡ Some None)) i
          (λ k below. c.drop_room.ensures.others (key_of (get_or keys k key)) (c.loop-key.invariant.gone k key below))
          (subst (λ (q : ChangedKey). ¬ (slot c.drop_room.new.shelves (key_of q) ≡ Some None)) (c.key-item.is ∙ get_or_default keys i item key c.loop-key-test.true)
          c.drop_room.ensures.gone)
          k lt;
      ordered = c.drop_room.ensures.ordered;
    }

pub returns-clause-gone : goal.returns-clause-gone
returns-clause-gone c k d lt =
    let end = c.loop-key-test.false in
    c.loop-key.invariant.gone k d (omega (arith, lt, end))
