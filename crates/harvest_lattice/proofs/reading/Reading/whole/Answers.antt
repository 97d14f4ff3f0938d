use Rattle.std.proofs.Common.{cond, Some, None, sym, ap, ◌∙◌}
use Rattle.harvest_lattice.proofs.Parts.{whole_of_it}
use Rattle.harvest_lattice.proofs.reading.Reading.whole.Goals as goal

pub returns-then-self : goal.returns-then-self
returns-then-self c =
    let e = c.self.inside in
    ap Some c.revision.ensures ∙ sym (whole_of_it e.is_whole e.first.now e.later.now c.args.self.now c.self.view_is
    c.self.invariant ∙ ap (λ b. cond b (Some e.first.now.0) None) c.if-self.true)

pub returns-else-self : goal.returns-else-self
returns-else-self c =
    let e = c.self.inside in
    sym (whole_of_it e.is_whole e.first.now e.later.now c.args.self.now c.self.view_is c.self.invariant
    ∙ ap (λ b. cond b (Some e.first.now.0) None) c.if-self.false)
