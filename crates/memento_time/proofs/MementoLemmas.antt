-- The order of mementos is total, and exact: mementos that compare alike are one.
use Rattle.std.proofs.Common.{ℕ, List, ap}
use Rattle.std.specs.Ordering.{nat_cmp}
use Rattle.std.specs.FinMap.{IsAntisymmetric, nat_cmp-IsAntisymmetric, slice_cmp-IsAntisymmetric}
use Rattle.std.proofs.lemmas.Map.Lookups.{exact_pairs}
use Rattle.std.specs.Cmp.{IsTotalOrder, nat_cmp_total, on_total, then_total}
use Rattle.std.specs.Cmp.Lexicographic.{nat_list_cmp_total}
use Rattle.memento_time.specs.Mementos.{text_cmp, memento_cmp}

pub memento_cmp_total : IsTotalOrder memento_cmp
memento_cmp_total = then_total (on_total (λ m. m.at) nat_cmp_total) (on_total (λ m. m.uri) nat_list_cmp_total)

pub memento_cmp_exact : IsAntisymmetric memento_cmp
memento_cmp_exact a b tie = ap (λ (p : ℕ × List ℕ). record { at = p.0; uri = p.1 })
    (exact_pairs nat_cmp text_cmp nat_cmp-IsAntisymmetric (slice_cmp-IsAntisymmetric nat_cmp-IsAntisymmetric) (a.at, a.uri) (b.at, b.uri) tie)
