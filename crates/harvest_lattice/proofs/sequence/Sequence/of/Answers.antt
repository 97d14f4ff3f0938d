use Rattle.std.proofs.Common.{◌≡◌, ◌<◌, ◌∷◌, [], Some, sym, ap, ◌∙◌}
use Rattle.std.specs.Vec.{vec_len}
use Rattle.std.proofs.Common.{subst}
use Rattle.std.specs.FinMap as map
use Rattle.std.specs.Ordering.{nat_cmp}
use Rattle.harvest_lattice.specs.Lattice.{kept_of}
use Rattle.harvest_lattice.specs.Parts.{kept_in}
use Rattle.harvest_lattice.proofs.Parts.{kept_of_parts, kept_of_none, no_items, taken_first, is_zero, not_zero}
use Rattle.harvest_lattice.proofs.sequence.Sequence.of.Goals as goal

pub returns-then-is_empty : goal.returns-then-is_empty
returns-then-is_empty c =
    let none : c.args.parts.items ≡ [] =
    no_items c.args.parts.items (sym c.args.parts.ok.0 ∙ is_zero (vec_len c.args.parts) (sym c.is_empty.ensures
    ∙ c.if-is_empty.true)) in
    sym (ap (λ es. kept_of c.args.is_whole (map.from_entries {R = nat_cmp} es)) none ∙ kept_of_none c.args.is_whole)

pub returns : goal.returns
returns c =
    let are : c.args.parts.items ≡ c.remove-first.result ∷ c.remove-first.new.self.items =
    taken_first c.args.parts.items c.remove-first.new.self.items c.remove-first.result c.remove-first.ensures.value
    c.remove-first.ensures.items (subst (λ n. 0 < n) c.args.parts.ok.0
    (not_zero (vec_len c.args.parts) (sym c.is_empty.ensures ∙ c.if-is_empty.false))) in
    ap (λ es. Some (kept_in c.args.is_whole c.remove-first.result es)) c.in_ok-later.ensures
    ∙ sym (ap (λ es. kept_of c.args.is_whole (map.from_entries {R = nat_cmp} es)) are
    ∙ kept_of_parts c.args.is_whole c.remove-first.result c.remove-first.new.self.items)
