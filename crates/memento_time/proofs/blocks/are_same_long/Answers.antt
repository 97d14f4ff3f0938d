use Rattle.std.proofs.Common.{◌≡◌, ◌+◌, ◌-◌, true, length, take, drop, sym, ap, ◌∙◌, arith, rules}
use Rattle.std.proofs.lemmas.List.{take_all}
use Rattle.memento_time.proofs.BlockLemmas.{block_of_rest, same_less, same_more}
use Rattle.memento_time.proofs.blocks.are_same_long.Goals as goal

pub returns-then-not-are_same_blocks : goal.returns-then-not-are_same_blocks
returns-then-not-are_same_blocks c =
    let start = c.loop-start.start in (
      search rules,
      λ same.
          let block : c.are_same_blocks.result ≡ true =
          c.are_same_blocks.ensures.1 (ap (λ text. take 16 (take (length text - start) (drop start text))) same) in
          cc,
    )

pub loop-start-preserved : goal.loop-start-preserved
loop-start-preserved c =
    let left = c.args.left.now in
    let right = c.args.right.now in
    let start = c.loop-start.start in
    let block : take 16 (drop start left) ≡ take 16 (drop start right) =
    sym (block_of_rest left start) ∙ c.are_same_blocks.ensures.0 c.if-not-are_same_blocks.false ∙ block_of_rest right start in
    record {
      same = same_more left right start c.loop-start.invariant.same block;
      within_left = omega arith;
      within_right = omega arith;
    }

pub returns : goal.returns
returns c =
    let left = c.args.left.now in
    let right = c.args.right.now in
    let last = length left - 16 in (
      λ same.
          let block : take 16 (drop last left) ≡ take 16 (drop last right) =
          sym (block_of_rest left last) ∙ c.are_same_blocks-2.ensures.0 same ∙ block_of_rest right last in
          let front = same_less left right c.loop-start.start last (omega arith) c.loop-start.invariant.same in
          sym (take_all (last + 16) left (omega arith)) ∙ same_more left right last front block ∙ take_all (last + 16) right (omega arith),
      λ same. c.are_same_blocks-2.ensures.1 (ap (λ text. take 16 (take (length text - last) (drop last text))) same),
    )
