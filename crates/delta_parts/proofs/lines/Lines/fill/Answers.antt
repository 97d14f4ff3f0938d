use Rattle.std.proofs.Common.{◌≡◌, ℕ, ◌++◌, ◌∷◌, [], List, Option, map, refl, sym, subst, ◌∙◌}
use Rattle.std.specs.Borrow.{Bor}
use Rattle.std.proofs.lemmas.List.{map_push}
use Rattle.std.proofs.lemmas.Map.Iter.{iter_end, rest_so_far}
use Rattle.harvest_lattice.specs.Rows.{lent_entry}
use Rattle.harvest_lattice.specs.Lattice.{Key, Kept}
use Rattle.delta_parts.specs.Filling.{HasLines, EndsWith, IsLast, lent_key}
use Rattle.delta_parts.proofs.FillLemmas.{lines_as, more_lines, filled_up_to, filled_with_all}
use Rattle.delta_parts.proofs.lines.Lines.fill.Goals as goal

pub returns-then-not-branch : goal.returns-then-not-branch
returns-then-not-branch c =
    let xs : List (Key × Kept) = map lent_entry c.loop-archive.yielded in
    let left = c.in_ok-take.ensures.left c.if-not-branch.true in
    let ends = subst (λ (o : Option (List ℕ × Bor (List ℕ))). IsLast (lent_key o) xs) c.in-Some-last.is c.loop-archive.invariant.last in
    filled_up_to c.args.stamped.now c.args.start c.args.rows xs _ _ _
    (sym c.into_iter-archive-iterator.ensures.into_iter_gives ∙ rest_so_far lent_entry c.loop-archive.yielded _ _ c.loop-archive.yielded_by)
    (lines_as c.args.stamped.now c.args.start xs [] _ _ 0 _ _ left.0 left.1 c.loop-archive.invariant.lines) c.in_ok-of-in-Some-last.field-0
    (subst (λ (k : Key). EndsWith k xs) (sym c.in_ok-of-in-Some-last.ensures) ends)

pub loop-archive-preserved : goal.loop-archive-preserved
loop-archive-preserved c =
    let s = c.args.stamped.now in
    let n : ℕ = c.args.start in
    let xs : List (Key × Kept) = map lent_entry c.loop-archive.yielded in
    let e : Key × Kept = ((c.in-Some.archive, c.in-Some.original.now), c.in-Some.entry.now) in
    let pushed = map_push lent_entry c.loop-archive.yielded ((c.in-Some.archive, c.in-Some.original), c.in-Some.entry) in
    record {
      lines = subst (λ (es : List (Key × Kept)). HasLines s n es [] c.take.new.self.text.items 0 c.take.new.self.count) (sym pushed)
          (more_lines s n xs (e ∷ []) [] c.loop-archive.self.text.items c.take.new.self.text.items 0 c.loop-archive.self.count c.take.new.self.count
          c.loop-archive.invariant.lines (c.in_ok-take.ensures.taken c.if-not-branch.false));
      last = record { before = xs; kept = c.in-Some.entry.now; is = pushed };
    }

pub returns : goal.returns
returns c =
    let whole = iter_end lent_entry _ c.loop-archive.yielded _ _ _ _ c.into_iter-archive-iterator.ensures.into_iter_gives c.loop-archive.yielded_by c.in-None.is c.next.ensures.steps in
    filled_with_all c.args.stamped.now c.args.start c.args.rows (map lent_entry c.loop-archive.yielded) c.loop-archive.self.text.items c.loop-archive.self.count whole.0
    c.loop-archive.invariant.lines
