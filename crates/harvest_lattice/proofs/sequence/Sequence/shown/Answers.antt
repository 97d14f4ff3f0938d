use Rattle.std.proofs.Common.{◌∷◌, ◌++◌, List, ℕ, map as map_list, sym, ap, ◌∙◌}
use Rattle.std.specs.Arc.{arc_value}
use Rattle.memento_sets.specs.MementoSets.{Mementos}
use Rattle.std.specs.FinMap as map
use Rattle.harvest_lattice.specs.Knowledge.{items_of, union_all}
use Rattle.harvest_lattice.proofs.Outcomes.{if_ok_shows}
use Rattle.harvest_lattice.proofs.Parts.{entries_of_it}
use Rattle.harvest_lattice.proofs.ShownLemmas.{shown_of_all}
use Rattle.harvest_lattice.proofs.sequence.Sequence.shown.Goals as goal

pub returns-in-Some : goal.returns-in-Some
returns-in-Some c =
    let e = c.self.inside in
    if_ok_shows (λ x. arc_value x) c.share.result
    (c.in-Some.ensures ∙ (ap (λ (es : List (ℕ × Mementos)). union_all (map_list (λ (p : ℕ × Mementos). p.1) (e.first ∷ es))) c.as_slice.ensures
    ∙ ap (λ (es : List (ℕ × Mementos)). union_all (map_list (λ (p : ℕ × Mementos). p.1) es))
    (sym (entries_of_it e.is_whole e.first e.later c.args.self.now c.self.view_is c.self.invariant))))
    c.share.ensures

pub returns : goal.returns
returns c =
    c.in_ok-list.ensures.ok ∙ (c.in_ok-union.ensures ∙ (c.of.ensures ∙ shown_of_all c.args.self.now c.append_all.new.list.items
    (c.in_ok-append_all.ensures ∙ (λ i. (c.new-all.ensures.items i) ++ items_of (map.entries (c.reading.ensures i).revisions)))))
