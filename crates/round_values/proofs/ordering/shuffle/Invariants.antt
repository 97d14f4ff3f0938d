use Rattle.std.proofs.Common.{◌≡◌, length}
use Rattle.std.specs.Prelude.{IsPermutation}
use Rattle.round_values.proofs.ordering.shuffle.Given as goal

abbrev pub invariant-loop-place : goal.invariant-loop-place
invariant-loop-place g l = record {
  moved : IsPermutation l.initial.values l.values;
  len : length l.values ≡ length l.initial.values;
}
