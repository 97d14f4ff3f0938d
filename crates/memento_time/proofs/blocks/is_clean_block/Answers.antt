use Rattle.std.proofs.Common.{take, w8}
use Rattle.std.proofs.lemmas.Simd.{chunk-fits, length-chunk}
use Rattle.memento_time.proofs.BlockLemmas.{clean_by_mask}
use Rattle.memento_time.proofs.blocks.is_clean_block.Goals as goal

pub returns : goal.returns
returns c =
    let text = c.args.text.now in
    clean_by_mask (take 16 text) (length-chunk 0 16 text c.requires) (chunk-fits w8 0 16 text c.type_inv.text)
