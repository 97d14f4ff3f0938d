use Rattle.std.proofs.Common.{Some, sym, ap, ◌∙◌}
use Rattle.std.specs.Option.{unwrap_or}
use Rattle.harvest_lattice.proofs.Parts.{last_of_it}
use Rattle.harvest_lattice.proofs.reading.Reading.last.Goals as goal

pub returns-in-Some : goal.returns-in-Some
returns-in-Some c =
    let e = c.self.inside in
    last_of_it e.is_whole e.first.now e.later.now c.args.self.now c.self.view_is c.self.invariant
    ∙ ap (λ o. Some (unwrap_or o e.first.now)) (sym c.in-Some.ensures.value)

pub returns-in-None : goal.returns-in-None
returns-in-None c =
    let e = c.self.inside in
    last_of_it e.is_whole e.first.now e.later.now c.args.self.now c.self.view_is c.self.invariant
    ∙ ap (λ o. Some (unwrap_or o e.first.now)) (sym c.in-None.ensures.value)
