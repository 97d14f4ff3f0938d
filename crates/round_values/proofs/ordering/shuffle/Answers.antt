use Rattle.std.proofs.Common.{◌∙◌}
use Rattle.std.proofs.lemmas.List.Sorted.{IsPermutation-trans}
use Rattle.round_values.proofs.ordering.shuffle.Goals as goal

pub loop-place-preserved : goal.loop-place-preserved
loop-place-preserved g c = record {
  moved = IsPermutation-trans c.args.values.now c.loop-place.values c.swap.new.self c.loop-place.invariant.moved c.swap.ensures.permutation;
  len = c.swap.ensures.len ∙ c.loop-place.invariant.len;
}
