use Rattle.std.proofs.Common.{sym, ◌∙◌}
use Rattle.std.specs.Cmp.{eq_by_cmp_equiv, Equal-is}
use Rattle.std.proofs.lemmas.Map.Views.{Contains-from_any, list_any-from_Contains}
use Rattle.memento_time.specs.Mementos.{memento_cmp}
use Rattle.memento_time.proofs.MementoLemmas.{memento_cmp_total, memento_cmp_exact}
use Rattle.memento_sets.proofs.Sets.{items_sorted, contains-from_list}
use Rattle.memento_sets.proofs.Ordered.{items_in_order}
use Rattle.memento_sets.proofs.laws.one_list_of_a_set.Goals as goal

pub returns : goal.returns
returns c = record {
  sorted = items_sorted memento_cmp;
  once = items_in_order;
  members = λ list m. (
    λ h. Contains-from_any (λ x y t. memento_cmp_exact x y ((Equal-is (memento_cmp x y)).0 t)) m list
        (sym (contains-from_list memento_cmp_total memento_cmp_exact list m) ∙ h),
    λ h. contains-from_list memento_cmp_total memento_cmp_exact list m ∙ list_any-from_Contains (eq_by_cmp_equiv memento_cmp_total) m list h,
  );
}
