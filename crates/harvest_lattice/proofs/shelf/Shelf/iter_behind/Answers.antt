use Rattle.std.proofs.Common.{List, ℕ, sym, ap, ◌∙◌}
use Rattle.std.specs.FinMap as map
use Rattle.std.specs.List.{filter}
use Rattle.std.specs.Ordering.{is_lt}
use Rattle.memento_time.specs.Mementos.{text_cmp}
use Rattle.harvest_lattice.specs.Lattice.{Kept}
use Rattle.harvest_lattice.specs.Shelves.{Shelved}
use Rattle.harvest_lattice.proofs.BehindLemmas.{between_behind}
use Rattle.harvest_lattice.proofs.ShelfLemmas.{shelved_made}
use Rattle.harvest_lattice.proofs.shelf.Shelf.iter_behind.Goals as goal

pub returns : goal.returns
returns c =
    let o : List ℕ = c.args.original.now in
    c.range.ensures.between tt
    ∙ (between_behind text_cmp o c.self.inside.entries.entries
    ∙ ap (λ (es : List (List ℕ × Kept)). filter (λ e. is_lt (text_cmp o e.0)) es)
    (sym (shelved_made c.self.inside.entries.entries c.self.invariant.0) ∙ ap (λ (s : Shelved). map.entries s) c.self.view_is))
