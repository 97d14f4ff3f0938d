use Rattle.std.proofs.Common.{◌+◌, ◌<◌, length, Some, ap, subst, ◌∙◌, arith}
use Rattle.std.specs.Prelude.{slice_get}
use Rattle.std.specs.FinMap as map
use Rattle.harvest_lattice.proofs.Parts.{len_of_it, entries_of_it, get_later}
use Rattle.harvest_lattice.proofs.reading.Reading.part.Goals as goal

pub offset_bounds-self-inside-k : goal.offset_bounds-self-inside-k
offset_bounds-self-inside-k c =
    let e = c.self.inside in
    let lt : c.args.k < length e.later.now + 1 =
    subst (λ m. c.args.k < m) (len_of_it e.is_whole e.first.now e.later.now c.args.self.now c.self.view_is
    c.self.invariant) c.requires in
    omega (arith, lt)

pub bounds-self-inside-k : goal.bounds-self-inside-k
bounds-self-inside-k c =
    let e = c.self.inside in
    let lt : c.args.k < length e.later.now + 1 =
    subst (λ m. c.args.k < m) (len_of_it e.is_whole e.first.now e.later.now c.args.self.now c.self.view_is
    c.self.invariant) c.requires in
    omega (arith, c.if-k-eq0.false, lt)

pub returns-then-k-eq0 : goal.returns-then-k-eq0
returns-then-k-eq0 c =
    let e = c.self.inside in
    ap (slice_get (map.entries c.args.self.now.revisions)) c.if-k-eq0.true
    ∙ ap (λ es. slice_get es 0) (entries_of_it e.is_whole e.first.now e.later.now c.args.self.now c.self.view_is c.self.invariant)

pub returns-else-k-eq0 : goal.returns-else-k-eq0
returns-else-k-eq0 c =
    let e = c.self.inside in
    let lt : c.args.k < length e.later.now + 1 =
    subst (λ m. c.args.k < m) (len_of_it e.is_whole e.first.now e.later.now c.args.self.now c.self.view_is
    c.self.invariant) c.requires in
    ap (λ es. slice_get es c.args.k) (entries_of_it e.is_whole e.first.now e.later.now c.args.self.now c.self.view_is c.self.invariant)
    ∙ (get_later e.first.now e.later.now c.args.k c.index-self-k.result c.if-k-eq0.false lt c.index-self-k.is ∙ ap Some c.index-self-k.is)
