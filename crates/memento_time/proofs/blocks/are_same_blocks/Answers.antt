use Rattle.std.proofs.Common.{take}
use Rattle.std.proofs.lemmas.Simd.{length-chunk}
use Rattle.std.proofs.lemmas.Bool.Decides.{Decides-eqb}
use Rattle.std.proofs.lemmas.Slice.Eq.{slice_eq-Decides}
use Rattle.memento_time.proofs.BlockLemmas.{same_by_mask}
use Rattle.memento_time.proofs.blocks.are_same_blocks.Goals as goal

pub returns : goal.returns
returns c =
    let left = take 16 c.args.left.now in
    let right = take 16 c.args.right.now in
    let long = length-chunk 0 16 c.args.left.now c.requires.left in
    let as_long = length-chunk 0 16 c.args.right.now c.requires.right in
    slice_eq-Decides Decides-eqb left right _ (same_by_mask left right long as_long)
