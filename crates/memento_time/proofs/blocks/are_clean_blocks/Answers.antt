use Rattle.std.proofs.Common.{◌≡◌, ◌-◌, true, length, take, drop, All, ◌∙◌, sym, arith, rules}
use Rattle.std.proofs.lemmas.List.{length-drop, take_all}
use Rattle.std.proofs.lemmas.List.Elements.{All-drop, All-same, All-take}
use Rattle.memento_time.specs.Text.{IsCleanByte}
use Rattle.memento_time.proofs.BlockLemmas.{block_of_rest, clean_more, clean_to_end}
use Rattle.memento_time.proofs.blocks.are_clean_blocks.Goals as goal

pub returns-then-not-is_clean_block : goal.returns-then-not-is_clean_block
returns-then-not-is_clean_block c =
    let text = c.args.text.now in
    let start = c.loop-start.start in (
      search rules,
      λ clean.
          let rest = All-drop IsCleanByte start text clean in
          let seen = All-take IsCleanByte (length text - start) (drop start text) rest in
          let block : c.is_clean_block.result ≡ true = c.is_clean_block.ensures.1 (All-take IsCleanByte 16 (take (length text - start) (drop start text)) seen) in
          cc,
    )

pub loop-start-preserved : goal.loop-start-preserved
loop-start-preserved c =
    let text = c.args.text.now in
    let start = c.loop-start.start in
    let block : All IsCleanByte (take 16 (drop start text)) = All-same IsCleanByte _ _ (sym (block_of_rest text start)) (c.is_clean_block.ensures.0 c.if-not-is_clean_block.false) in
    (clean_more text start c.loop-start.invariant.0 block, omega arith)

pub returns : goal.returns
returns c =
    let text = c.args.text.now in
    let last = length text - 16 in
    let whole : take 16 (take (length text - last) (drop last text)) ≡ drop last text =
    block_of_rest text last ∙ take_all 16 (drop last text) (omega (arith, length-drop last text)) in (
      (λ clean. clean_to_end text c.loop-start.start last (omega arith) c.loop-start.invariant.0
          (All-same IsCleanByte (drop last text) (take 16 (take (length text - last) (drop last text))) (sym whole) (c.is_clean_block-2.ensures.0 clean))),
      (λ clean. c.is_clean_block-2.ensures.1
          (All-same IsCleanByte (take 16 (take (length text - last) (drop last text))) (drop last text) whole (All-drop IsCleanByte last text clean))),
    )
