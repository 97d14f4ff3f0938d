use Rattle.std.proofs.Common.{◌≡◌, ◌-◌, take, drop, ◌∙◌, arith}
use Rattle.std.specs.Cmp.Lexicographic.{slice_cmp}
use Rattle.std.specs.Ordering.{nat_cmp}
use Rattle.memento_time.proofs.BlockLemmas.{order_by_block, order_by_last, order_of_blocks, same_by_order, same_less, same_more}
use Rattle.memento_time.proofs.blocks.compare_long.Goals as goal

pub returns-then-is_ne : goal.returns-then-is_ne
returns-then-is_ne c =
    let left = c.args.left.now in
    let right = c.args.right.now in
    let start = c.loop-start.start in
    let order = c.compare_blocks-order.result in
    let block : order ≡ slice_cmp nat_cmp (take 16 (drop start left)) (take 16 (drop start right)) =
    c.compare_blocks-order.ensures ∙ order_of_blocks left right start in
    order_by_block left right start order c.loop-start.invariant.same block (cc)

pub loop-start-preserved : goal.loop-start-preserved
loop-start-preserved c =
    let left = c.args.left.now in
    let right = c.args.right.now in
    let start = c.loop-start.start in
    let order = c.compare_blocks-order.result in
    let block : order ≡ slice_cmp nat_cmp (take 16 (drop start left)) (take 16 (drop start right)) =
    c.compare_blocks-order.ensures ∙ order_of_blocks left right start in
    record {
      same = same_more left right start c.loop-start.invariant.same
          (same_by_order (take 16 (drop start left)) (take 16 (drop start right)) order block (cc));
      within_left = omega arith;
      within_right = omega arith;
    }

pub returns : goal.returns
returns c =
    let left = c.args.left.now in
    let right = c.args.right.now in
    let last = c.min-last.result - 16 in
    let order = c.compare_blocks-order-2.result in
    let block : order ≡ slice_cmp nat_cmp (take 16 (drop last left)) (take 16 (drop last right)) =
    c.compare_blocks-order-2.ensures ∙ order_of_blocks left right last in
    let front = same_less left right c.loop-start.start last (omega arith) c.loop-start.invariant.same in
    let whole = order_by_last left right last front (omega arith) in
    cc
