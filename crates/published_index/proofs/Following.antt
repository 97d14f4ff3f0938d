-- Which delta follows on another.
use Rattle.std.proofs.Common.{◌≡◌, ℕ, ◌≤◌, ◌<◌, Bool, true, false, cond, ◌&&◌, ◌==◌, Option, Some, None, IfSome, refl, sym, ap, subst, ◌∙◌, arith}
use Rattle.std.specs.Prelude.{nat_le, nat_lt}
use Rattle.std.specs.Cmp.{nat_cmp_total, unsigned_tied}
use Rattle.std.specs.FinMap as map
use Rattle.std.proofs.lemmas.Bool.Decides.{nat_tests}
use Rattle.replica_exchange.specs.declared.cursor.Cursor.{Cursor}
use Rattle.replica_exchange.specs.declared.delta.Delta.{Delta}
use Rattle.replica_exchange.specs.Stamps.{StampedState}
use Rattle.replica_exchange.specs.CursorRule.{delta_from, end_of, fits, cursor_after, start_from}
use Rattle.published_index.specs.Cursors.{with_delta}
use Rattle.published_index.specs.Views.{MergerView}

pub own_fits : (s : StampedState) (held : Option Cursor) → fits held (delta_from s held) ≡ true
own_fits s None = refl
own_fits s (Some c) = on ((c.incarnation == s.incarnation) && nat_le c.number s.number) refl
  where
    on : (b : Bool) → ((c.incarnation == s.incarnation) && nat_le c.number s.number) ≡ b → fits (Some c) (record (delta_from s (Some c)) { start = cond b c.number 0 }) ≡ true
    on true is = grind (arith, nat_tests)
    on false is = refl

-- from a cursor of this incarnation that is no further than its merges
starts_at : (s : StampedState) (c : Cursor) → c.incarnation ≡ s.incarnation → c.number ≤ s.number → start_from s (Some c) ≡ c.number
starts_at s c own within = on ((c.incarnation == s.incarnation) && nat_le c.number s.number) refl
  where
    on : (b : Bool) → ((c.incarnation == s.incarnation) && nat_le c.number s.number) ≡ b → cond b c.number 0 ≡ c.number
    on true is = refl
    on false is = grind (arith, nat_tests)

module _ (s : StampedState) (d : Delta) (own : s.incarnation ≡ d.incarnation) (ends : d.end ≤ s.number) where
  from_end : d.end ≤ start_from s (Some (end_of d))
  from_end = let e = starts_at s (end_of d) (sym own) ends in omega (arith, e)

  from_moved : (held : Option Cursor) → IfSome held (λ c. c.number ≤ s.number) → d.end ≤ start_from s (Some (cursor_after held d))
  from_moved None within = from_end
  from_moved (Some c) within = on ((c.incarnation == d.incarnation) && nat_lt d.end c.number) refl
    where
      on : (b : Bool) → ((c.incarnation == d.incarnation) && nat_lt d.end c.number) ≡ b → d.end ≤ start_from s (Some (cond b c (end_of d)))
      on true is =
          let same : c.incarnation ≡ d.incarnation = grind (arith, nat_tests) in
          let further : d.end < c.number = grind (arith, nat_tests) in
          let e = starts_at s c (same ∙ sym own) within in
          omega (arith, e, further)
      on false is = from_end

at_key : (m : MergerView) (peer other : ℕ) (d : Delta) (b : Bool) → (other == peer) ≡ b
    → map.get (with_delta m peer d).cursors other ≡ cond b (Some (cursor_after (map.get m.cursors peer) d)) (map.get m.cursors other)
at_key m peer other d b is =
    map.get-insert nat_cmp_total m.cursors peer (cursor_after (map.get m.cursors peer) d) other
    ∙ ap (λ (b : Bool). cond b (Some (cursor_after (map.get m.cursors peer) d)) (map.get m.cursors other)) (unsigned_tied other peer ∙ is)

pub next_follows : (m : MergerView) (peer : ℕ) (d : Delta) (s : StampedState) → s.incarnation ≡ d.incarnation → d.end ≤ s.number → IfSome (map.get m.cursors peer) (λ c. c.number ≤ s.number)
    → d.end ≤ (delta_from s (map.get (with_delta m peer d).cursors peer)).start
next_follows m peer d s own ends within =
    let held = at_key m peer peer d true (grind (arith, nat_tests)) in
    subst (λ (o : Option Cursor). d.end ≤ start_from s o) (sym held) (from_moved s d own ends (map.get m.cursors peer) within)

pub others_stay : (m : MergerView) (peer other : ℕ) (d : Delta) → ¬ (other ≡ peer) → map.get (with_delta m peer d).cursors other ≡ map.get m.cursors other
others_stay m peer other d differs = at_key m peer other d false (grind (arith, nat_tests))
