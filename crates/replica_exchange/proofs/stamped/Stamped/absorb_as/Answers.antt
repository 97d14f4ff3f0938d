use Rattle.std.proofs.Common.{◌≡◌, ℕ, ◌+◌, ◌++◌, List, take, sym, ap, subst, map as map_list, ◌∙◌}
use Rattle.std.specs.FinMap as map
use Rattle.harvest_lattice.specs.Lattice.{Key, Entries, join}
use Rattle.harvest_lattice.specs.Knowledge.{lat}
use Rattle.harvest_lattice.specs.News.{IsNews}
use Rattle.harvest_lattice.specs.Rows.{row_key}
use Rattle.memento_index.specs.Merges.{adds_of}
use Rattle.replica_exchange.specs.declared.stamps.ChangedKey.{ChangedKey}
use Rattle.replica_exchange.specs.Stamps.{StampedState}
use Rattle.replica_exchange.specs.StampShelves.{stamps_in, stamp_after, key_of}
use Rattle.replica_exchange.proofs.ShelfLemmas.{same_stamps}
use Rattle.replica_exchange.specs.StampOrder.{given_at, order_of, IsOrderOf}
use Rattle.replica_exchange.proofs.AbsorbLemmas.{absorbed, get-restamped}
use Rattle.replica_exchange.proofs.OrderLemmas.{order_after, order_same}
use Rattle.replica_exchange.proofs.stamped.Stamped.absorb_as.Goals as goal

pub returns-in-Err-clause-err : goal.returns-in-Err-clause-err
returns-in-Err-clause-err c =
    let x = c.self.inside in
    let same : stamps_in c.drop_rooms.new.shelves ≡ stamps_in x.stamps = same_stamps x.stamps c.drop_rooms.new.shelves c.self.invariant.0 c.drop_rooms.ensures.ordered
    (λ k. c.drop_rooms.ensures.same k ∙ c.put_with_room-taken.ensures.same k) in
    let index : c.put_with_room-taken.new.index ≡ x.index = c.in-Err.ensures.err in
    let before : (let t : StampedState = record {
      entries = c.put_with_room-taken.new.index;
      stamps = stamps_in c.drop_rooms.new.shelves;
      number = x.number;
      incarnation = x.incarnation;
    } in t) ≡ record { entries = x.index; stamps = stamps_in x.stamps; number = x.number; incarnation = x.incarnation } =
    λ i. record { entries = index i; stamps = same i; number = x.number; incarnation = x.incarnation } in
    before ∙ c.self.view_is

pub returns-in-Ok-clause-ok : goal.returns-in-Ok-clause-ok
returns-in-Ok-clause-ok c =
    let x = c.self.inside in
    let s = c.args.self.now in
    let m = c.args.merge.now in
    let news : Entries = c.in_ok-changes.changes in
    let keys = map_list key_of c.deref-in-Ok.result.now in
    let entries : x.index ≡ s.entries = ap (λ (t : StampedState). t.entries) c.self.view_is in
    let stamps : stamps_in x.stamps ≡ s.stamps = ap (λ (t : StampedState). t.stamps) c.self.view_is in
    let is : IsNews s.entries (lat (adds_of m)) news = subst (λ (y : Entries). IsNews y (lat (adds_of m)) news) entries c.in_ok-changes.ensures.news in
    let joined : c.put_with_room-taken.new.index ≡ join s.entries news = c.in-Ok.ensures.ok ∙ ap (λ (y : Entries). join y news) entries in
    let of_rows : keys ≡ map_list row_key c.rows.result.now = ap (λ (ks : List ChangedKey). map_list key_of ks) c.deref-in-Ok.ensures.value ∙ c.in_ok-keys.ensures in
    let stamped : (k : Key) → map.get (stamps_in c.fill_all.new.shelves) k ≡ stamp_after keys c.args.number k (map.get s.stamps k) =
    get-restamped s.stamps keys c.args.number x.stamps c.put_with_room-taken.new.stamps c.fill_all.new.shelves stamps c.self.invariant.0 c.fill_all.ensures.ordered
    c.put_with_room-taken.ensures.same c.fill_all.ensures.stamps in
    absorbed s (record { entries = c.put_with_room-taken.new.index; stamps = stamps_in c.fill_all.new.shelves; number = c.args.number; incarnation = x.incarnation }) m news c.rows.result.now keys
    is c.rows.ensures of_rows joined stamped c.requires (ap (λ (t : StampedState). t.incarnation) c.self.view_is)

pub invariant_of-self : goal.invariant_of-self
invariant_of-self c =
    let x = c.self.inside in
    let rows = order_of c.make_place.new.self in
    let kept : IsOrderOf x.stamps rows x.number = c.make_place.ensures x.number c.self.invariant.1 in
    let next : c.args.number ≡ x.number + 1 = c.requires ∙ ap (λ (t : StampedState). t.number + 1) (sym c.self.view_is) in
    let keys : List ChangedKey = c.deref-in-Ok.result.now in
    let listed : order_of c.put_with_room-taken.new.order ≡ rows ++ map_list (given_at c.args.number) keys =
    c.in-Ok.ensures.listed ∙ ap (λ (ks : List ChangedKey). rows ++ map_list (given_at c.args.number) ks) (c.deref.ensures.value ∙ sym c.deref-in-Ok.ensures.value) in (
      c.fill_all.ensures.ordered,
      subst (λ (r : List (ℕ × Key)). IsOrderOf c.fill_all.new.shelves r c.args.number) (sym listed)
          (order_after x.stamps c.put_with_room-taken.new.stamps c.fill_all.new.shelves rows keys x.number c.args.number next kept c.put_with_room-taken.ensures.same c.fill_all.ensures.stamps),
    )

pub invariant_of-self-in-Err-1 : goal.invariant_of-self-in-Err-1
invariant_of-self-in-Err-1 c =
    let x = c.self.inside in
    let rows = order_of c.make_place.new.self in
    let kept : IsOrderOf x.stamps rows x.number = c.make_place.ensures x.number c.self.invariant.1 in
    let restored : order_of c.truncate.new.self ≡ rows =
    c.truncate.ensures ∙ (ap (λ (n : ℕ). take n (order_of c.put_with_room-taken.new.order)) c.len-listed.ensures ∙ c.put_with_room-taken.ensures.front) in (
      c.drop_rooms.ensures.ordered,
      subst (λ (r : List (ℕ × Key)). IsOrderOf c.drop_rooms.new.shelves r x.number) (sym restored)
          (order_same x.stamps c.drop_rooms.new.shelves rows x.number (λ k. c.drop_rooms.ensures.same k ∙ c.put_with_room-taken.ensures.same k) kept),
    )
