use Rattle.std.proofs.Common.{take, refl, arith}
use Rattle.std.proofs.lemmas.Simd.{length-chunk}
use Rattle.memento_time.proofs.BlockLemmas.{tie_by_mask, lane_below, less_at_lane, greater_at_lane}
use Rattle.memento_time.proofs.blocks.compare_blocks.Goals as goal

pub returns-then-mask-eq0 : goal.returns-then-mask-eq0
returns-then-mask-eq0 c =
    let left = c.args.left.now in
    let right = c.args.right.now in
    tie_by_mask (take 16 left) (take 16 right) (length-chunk 0 16 left c.requires.left)
    (length-chunk 0 16 right c.requires.right) c.if-mask-eq0.true

pub bounds-left-lane : goal.bounds-left-lane
bounds-left-lane c =
    let below = lane_below c.args.left.now c.args.right.now c.requires.left c.requires.right _ refl (omega arith) in
    omega (arith, below)

pub bounds-right-lane : goal.bounds-right-lane
bounds-right-lane c =
    let below = lane_below c.args.left.now c.args.right.now c.requires.left c.requires.right _ refl (omega arith) in
    omega (arith, below)

pub returns-then-left-lane : goal.returns-then-left-lane
returns-then-left-lane c =
    less_at_lane c.args.left.now c.args.right.now c.requires.left c.requires.right _ refl (omega arith) c.if-left-lane.true

pub returns-else-left-lane : goal.returns-else-left-lane
returns-else-left-lane c =
    greater_at_lane c.args.left.now c.args.right.now c.requires.left c.requires.right _ refl (omega arith) c.if-left-lane.false
