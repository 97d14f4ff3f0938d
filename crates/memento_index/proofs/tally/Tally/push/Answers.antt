use Rattle.std.proofs.Common.{◌≡◌, ◌<◌, [], ◌∷◌, ◌++◌, length, min, sym, ap, subst, ◌∙◌, arith}
use Rattle.std.proofs.lemmas.Grind.{common_steps}
use Rattle.std.specs.Vec.{vec_capacity}
use Rattle.memento_index.specs.Tallies.{Tallied, beside}
use Rattle.memento_index.proofs.Columns.{beside-append, length-beside}
use Rattle.memento_index.proofs.tally.Tally.push.Goals as goal

pub unwrap-requires : goal.unwrap-requires
unwrap-requires c =
    let ms = c.self.inside.mementos in
    let ns = c.self.inside.counts in
    let same : length ms.items ≡ length ns.items = omega (arith, ms.ok.0, ns.ok.0, c.self.invariant) in
    let room : length (beside ms.items ns.items) < min (vec_capacity ms) (vec_capacity ns) =
    subst (λ (t : Tallied). length t.entries < t.room) (sym c.self.view_is) c.requires in
    c.push.ensures.succeeds (omega (arith, room, ms.ok.0, length-beside ms.items ns.items same))

pub unwrap-requires-2 : goal.unwrap-requires-2
unwrap-requires-2 c =
    let ms = c.self.inside.mementos in
    let ns = c.self.inside.counts in
    let same : length ms.items ≡ length ns.items = omega (arith, ms.ok.0, ns.ok.0, c.self.invariant) in
    let room : length (beside ms.items ns.items) < min (vec_capacity ms) (vec_capacity ns) =
    subst (λ (t : Tallied). length t.entries < t.room) (sym c.self.view_is) c.requires in
    c.push-2.ensures.succeeds (omega (arith, room, ns.ok.0, same, length-beside ms.items ns.items same))

pub returns-clause-entries : goal.returns-clause-entries
returns-clause-entries c =
    let ms = c.self.inside.mementos in
    let ns = c.self.inside.counts in
    let same : length ms.items ≡ length ns.items = omega (arith, ms.ok.0, ns.ok.0, c.self.invariant) in
    let first : c.push.new.self.items ≡ ms.items ++ c.args.counted.memento ∷ [] = grind (arith, common_steps) in
    let second : c.push-2.new.self.items ≡ ns.items ++ c.args.counted.count ∷ [] = grind (arith, common_steps) in
    (λ i. beside (first i) (second i))
    ∙ (beside-append ms.items ns.items c.args.counted.memento c.args.counted.count same ∙ ap (λ (t : Tallied). t.entries ++ c.args.counted ∷ []) c.self.view_is)
