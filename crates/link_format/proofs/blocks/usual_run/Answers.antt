use Rattle.std.proofs.Common.{refl}
use Rattle.std.proofs.lemmas.Simd.{zip2_splat, zip2_of_maps, length-chunk}
use lib.Lanes.{chunk}
use Rattle.link_format.specs.Bytes.{is_usual}
use Rattle.link_format.proofs.Lanes.{run_passes}
use Rattle.link_format.proofs.blocks.usual_run.Goals as goal

pub returns : goal.returns
returns c =
    let block = chunk 0 16 c.args.text.now in
    let long = length-chunk 0 16 c.args.text.now c.requires in
    let below_space = zip2_splat _ block 16 32 long in
    let or_delete = zip2_of_maps _ _ _ block below_space (zip2_splat _ block 16 127 long) in
    let or_greater = zip2_of_maps _ _ _ block or_delete (zip2_splat _ block 16 62 long) in
    let or_quote = zip2_of_maps _ _ _ block or_greater (zip2_splat _ block 16 34 long) in
    let or_backslash = zip2_of_maps _ _ _ block or_quote (zip2_splat _ block 16 92 long) in
    let both = run_passes c.args.text.now c.first_lane.result _ c.requires _ or_backslash c.first_lane.ensures is_usual c.type_inv.text refl in
    record { within = both.0; usual = both.1 }
