use Rattle.std.proofs.Common.{◌≡◌, [], List, Option, sym, ap, ◌∙◌}
use Rattle.std.specs.Option.{option_copied, unwrap_or}
use Rattle.harvest_lattice.specs.Lattice.{Key, Kept}
use Rattle.harvest_lattice.specs.Shelves.{Shelved}
use Rattle.harvest_lattice.proofs.BehindLemmas.{behind_made, shelf_behind}
use Rattle.harvest_lattice.proofs.walk.Rows.behind.Goals as goal
use Rattle.harvest_lattice.proofs.walk.Rows.behind.Goals.{in-Some, in-None}

pub returns : goal.returns
returns c =
    let a = c.args.archive in
    let o = c.args.original.now in
    behind_made a o c.args.shelves.now.entries c.range.result c.match-get.shelf c.requires
    (elim c.match-get.branch [
      | in-Some w ↦ ap (λ (s : Option (List (Key × Kept))). unwrap_or s []) w.shelf-is
          ∙ (w.behind.ensures ∙ ap (λ (x : Option Shelved). shelf_behind a x o) (sym (ap option_copied w.in-Some.is) ∙ c.get.ensures.value))
      | in-None w ↦ ap (λ (s : Option (List (Key × Kept))). unwrap_or s []) w.shelf-is
          ∙ ap (λ (x : Option Shelved). shelf_behind a x o) (sym (ap option_copied w.in-None.is) ∙ c.get.ensures.value)
    ]) (c.range.ensures.between tt)
