use Rattle.std.proofs.Common.{◌≡◌, List, [], ◌∷◌, ◌++◌, Some, map, sym, ap, ◌∙◌}
use Rattle.std.specs.FinMap as fmap
use Rattle.harvest_lattice.specs.Knowledge.{Harvested, key_of}
use Rattle.harvest_lattice.specs.Lattice.{Key, Kept}
use Rattle.harvest_lattice.specs.Rows.{map_with, row_entry}
use Rattle.harvest_lattice.specs.declared.row.Row.{Row}
use Rattle.harvest_lattice.proofs.Knowledge.{single}
use Rattle.round_values.specs.Ahead.{harvest_of}
use Rattle.round_values.proofs.AheadLemmas.{one_made}
use Rattle.round_values.proofs.ahead.state_of.Goals as goal

abbrev one_row : Key × Kept → List (Key × Kept)
one_row e = e ∷ []

pub returns : goal.returns
returns c =
    let h : Harvested = harvest_of (c.args.archive, c.args.original) c.args.is_whole c.args.part in
    let row : Row = record { archive = c.args.archive; original = c.args.original; entry = c.of_part.result } in
    let rows : map row_entry c.push.new.self.items ≡ (key_of h, single h) ∷ [] =
    ap (λ (items : List Row). map row_entry items) c.in_ok-push.ensures.items
    ∙ (ap (λ (items : List Row). map row_entry (items ++ row ∷ [])) c.new-rows.ensures.items
    ∙ ap (λ (kept : Kept). one_row (key_of h, kept)) c.of_part.ensures) in
    let found : Some c.in-Some.one ≡ Some (fmap.from_entries ((key_of h, single h) ∷ [])) =
    sym c.in-Some.is ∙ (c.in_ok-one.ensures ∙ ap map_with rows) in
    let one : c.in-Some.one ≡ fmap.from_entries ((key_of h, single h) ∷ []) = cc in
    one ∙ one_made h
