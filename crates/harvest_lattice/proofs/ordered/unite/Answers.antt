use Rattle.std.proofs.Common.{◌≡◌, ℕ, ◌<◌, ◌≤◌, ◌++◌, [], List, length, get_or, reverse, ap, ◌∙◌, arith}
use Rattle.memento_sets.specs.MementoSets.{Mementos}
use Rattle.harvest_lattice.specs.Parts.{put_parts}
use Rattle.harvest_lattice.proofs.WaitingParts.{below_next, one_more_placed, still_below, all_placed, reversed_twice}
use Rattle.harvest_lattice.proofs.ordered.unite.Goals as goal

-- nothing is placed yet
none_placed : (both waiting standing coming : List (ℕ × Mementos)) → both ≡ [] → waiting ≡ reverse standing
    → put_parts (both ++ reverse waiting) coming ≡ put_parts standing coming
none_placed both waiting standing coming none turned = ap (λ xs. put_parts xs coming) ((λ i. none i ++ reverse (turned i)) ∙ reversed_twice standing)

none_below : (both coming : List (ℕ × Mementos)) → both ≡ [] → (i j : ℕ) (d : ℕ × Mementos) → i < length both → 0 ≤ j
    → j < length coming → (get_or both i d).0 < (get_or coming j d).0
none_below both coming none i j d lt low in_range = let no : length both ≡ 0 = ap length none in absurd (omega arith)

pub loop-part-init : goal.loop-part-init
loop-part-init c = record {
  whole = none_placed c.in_ok-both.both.items c.reverse.new.self.items c.args.standing.items c.args.coming.now
      c.in_ok-both.ensures.items c.reverse.ensures.items;
  below = none_below c.in_ok-both.both.items c.args.coming.now c.in_ok-both.ensures.items;
}

pub place-requires : goal.place-requires
place-requires c = below_next c.loop-part.both.items c.args.coming.now c.loop-part.part-index c.part-item.result
    c.loop-part-test.true c.part-item.is c.loop-part.invariant.below

pub loop-part-preserved : goal.loop-part-preserved
loop-part-preserved c = record {
  whole = one_more_placed c.loop-part.both.items c.loop-part.waiting.items c.place.new.both.items
      c.place.new.waiting.items c.args.coming.now _ c.loop-part.part-index c.part-item.result c.loop-part-test.true
      c.part-item.is c.in_ok-place.ensures.placed c.loop-part.invariant.whole;
  below = still_below c.place.new.both.items c.args.coming.now c.loop-part.part-index c.part-item.result c.requires
      c.loop-part-test.true c.part-item.is c.in_ok-place.ensures.last;
}

pub returns : goal.returns
returns c = all_placed c.loop-part.both.items c.loop-part.waiting.items c.reverse-2.new.self.items
    c.append.new.self.items c.args.coming.now _ c.loop-part.part-index c.loop-part-test.false c.reverse-2.ensures.items
    c.in_ok-append.ensures.items c.loop-part.invariant.whole
