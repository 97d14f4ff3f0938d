-- The cursors that a tree holds, as a map.
use Rattle.std.proofs.Common.{◌≡◌, ℕ, cond, List, [], ◌∷◌, Some, refl, sym, ap, ◌∙◌}
use Rattle.std.specs.declared.cmp.Ordering.TheVariants.{Less, Equal, Greater}
use Rattle.std.specs.Ordering.{nat_cmp, eq_by_cmp, match_ordering}
use Rattle.std.specs.Cmp.{nat_cmp_total}
use Rattle.std.specs.FinMap as map
use Rattle.std.specs.FinMap.Entries.{by_order, find-put}
use Rattle.std.specs.BTreeMap as tree
use Rattle.std.specs.BTreeMap.{BTreeMap, insert_entry}
use Rattle.harvest_lattice.proofs.ShelfLemmas.{lookup-find}
use Rattle.replica_exchange.specs.declared.cursor.Cursor.{Cursor}
use Rattle.replica_exchange.specs.CursorRule.{Held}

abbrev Entries : Type 0
Entries = List (ℕ × Cursor)

pub held_is : (m : BTreeMap ℕ Cursor) (q : ℕ) → tree.get nat_cmp m q ≡ map.get (let h : Held = map.from_entries m.entries in h) q
held_is m q = lookup-find nat_cmp q m.entries ∙ sym (map.get-from_entries nat_cmp_total m.entries q)

same_put : (es : Entries) (k : ℕ) (v : Cursor) → insert_entry nat_cmp es k v ≡ map.put nat_cmp k v es
same_put [] k v = refl
same_put (e ∷ es) k v =
    elim (nat_cmp k e.0) as (λ o. match_ordering o ((k, v) ∷ e ∷ es) ((e.0, v) ∷ es) (e ∷ insert_entry nat_cmp es k v) ≡ by_order o ((k, v) ∷ e ∷ es) ((e.0, v) ∷ es) (e ∷ map.put nat_cmp k v es)) [
      | Less ↦ refl
      | Equal ↦ refl
      | Greater ↦ ap (λ (l : Entries). e ∷ l) (same_put es k v)
    ]

pub inserted_is : (es : Entries) (k : ℕ) (v : Cursor) → (let h : Held = map.from_entries (insert_entry nat_cmp es k v) in h) ≡ map.insert (map.from_entries es) k v
inserted_is es k v = map.same_map nat_cmp_total map.nat_cmp-IsAntisymmetric (map.from_entries (insert_entry nat_cmp es k v)) (map.insert (map.from_entries es) k v) (λ q.
    map.get-from_entries nat_cmp_total (insert_entry nat_cmp es k v) q
    ∙ (ap (map.find nat_cmp q) (same_put es k v)
    ∙ (find-put nat_cmp nat_cmp_total q k v es
    ∙ (ap (cond (eq_by_cmp nat_cmp q k) (Some v)) (sym (map.get-from_entries nat_cmp_total es q))
    ∙ sym (map.get-insert nat_cmp_total (map.from_entries es) k v q)))))
