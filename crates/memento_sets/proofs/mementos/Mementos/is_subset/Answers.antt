use Rattle.std.proofs.Common.{List, sym, ap, ◌∙◌}
use Rattle.std.specs.List.{list_all}
use Rattle.memento_time.specs.declared.mementos.Memento.{Memento}
use Rattle.memento_sets.specs.Sets as set
use Rattle.memento_sets.proofs.Searched.{subset_from_all, all_from_subset}
use Rattle.memento_sets.proofs.mementos.Mementos.is_subset.Goals as goal

pub returns : goal.returns
returns c =
    let s = c.args.self.now in
    let t = c.args.other.now in
    let all = c.all_in.ensures ∙ ap (λ (xs : List Memento). list_all (λ m. set.contains t m) xs) c.as_slice.ensures in
    (λ yes. subset_from_all s t (sym all ∙ yes), λ sub. all ∙ all_from_subset s t sub)
