use Rattle.std.proofs.Common.{sym, ap, ◌∙◌}
use Rattle.harvest_lattice.specs.Lattice.{held}
use Rattle.harvest_lattice.proofs.Entries.{rising_parts}
use Rattle.harvest_lattice.proofs.Parts.{held_first, held_later}
use Rattle.harvest_lattice.proofs.reading.Reading.at.Goals as goal

pub find-requires : goal.find-requires
find-requires c =
    let e = c.self.inside in
    (rising_parts e.first.now e.later.now c.self.invariant).1

pub returns-then-revision : goal.returns-then-revision
returns-then-revision c =
    let e = c.self.inside in
    sym (ap (held c.args.self.now) (sym c.if-revision.true ∙ c.revision.ensures) ∙ held_first e.is_whole e.first.now e.later.now c.args.self.now c.self.view_is)

pub returns : goal.returns
returns c =
    let e = c.self.inside in
    c.find.ensures
    ∙ sym (held_later e.is_whole e.first.now e.later.now c.args.self.now c.self.view_is c.args.revision
    (λ same. c.if-revision.false (c.revision.ensures ∙ sym same)))
