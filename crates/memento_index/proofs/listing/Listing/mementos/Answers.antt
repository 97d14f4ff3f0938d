use Rattle.std.proofs.Common.{◌≡◌, sym, ap, ◌∙◌}
use Rattle.std.specs.Arc.{arc_value}
use Rattle.memento_sets.specs.Sets as set
use Rattle.memento_sets.specs.MementoSets.{Mementos}
use Rattle.memento_index.specs.declared.listing.Holding.TheVariants.{Set}
use Rattle.memento_index.specs.Counts.{mementos_of}
use Rattle.memento_index.specs.Holdings.{held_by}
use Rattle.memento_index.specs.Tallies.{Tallied}
use Rattle.memento_index.proofs.Shared.{mementos_once}
use Rattle.memento_index.proofs.listing.Listing.mementos.Goals as goal

pub returns-in-Set : goal.returns-in-Set
returns-in-Set c =
    let now : held_by (Set c.in-Set.list) ≡ c.args.self.now = sym (ap held_by c.in-Set.is) ∙ c.self.view_is in
    c.as_slice.ensures ∙ (ap (λ (s : Mementos). set.items s) c.deref.ensures
    ∙ (sym (mementos_once (set.items (arc_value c.in-Set.list))) ∙ ap (λ (t : Tallied). mementos_of t.entries) now))
