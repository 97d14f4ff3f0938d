use Rattle.std.proofs.Common.{List, sym, subst, ◌∙◌}
use Rattle.harvest_lattice.specs.Rows.{row_entry}
use Rattle.memento_index.specs.declared.counted.Step.{Step}
use Rattle.memento_index.specs.Lists.{steps_in, steps_of, IsShifted}
use Rattle.memento_index.proofs.Gathering.{steps_put, steps_left_out, others_stay, fit_put}
use Rattle.memento_index.proofs.gather.gather_row.Goals as goal

pub returns-then-len-eq0-clause-shifted : goal.returns-then-len-eq0-clause-shifted
returns-then-len-eq0-clause-shifted c =
    let row = c.args.row.now in
    let all = c.args.all.now in
    subst (λ (ss : List Step). IsShifted c.args.state.now (row_entry row) (steps_of all row.original) ss)
    (sym (steps_left_out all c.take_more_steps.new.all row.original (steps_in c.in_ok-steps.steps) c.in_ok-steps.ensures.gone
    (sym c.len.ensures ∙ c.if-len-eq0.true)))
    c.in_ok-steps.ensures.shifted

pub returns-clause-shifted : goal.returns-clause-shifted
returns-clause-shifted c =
    let row = c.args.row.now in
    let all = c.args.all.now in
    let same = c.in_ok-original.ensures ∙ c.original.ensures in
    subst (λ (ss : List Step). IsShifted c.args.state.now (row_entry row) (steps_of all row.original) ss)
    (sym (steps_put all c.take_more_steps.new.all c.insert.new.self row.original c.in_ok-original.original
    c.in_ok-steps.steps c.in_ok-steps.ensures.gone c.in_ok-insert.ensures.updates.0 same))
    c.in_ok-steps.ensures.shifted

pub returns-clause-others : goal.returns-clause-others
returns-clause-others c =
    let same = c.in_ok-original.ensures ∙ c.original.ensures in
    others_stay c.args.all.now c.take_more_steps.new.all c.insert.new.self c.args.row.now.original
    c.in_ok-original.original c.in_ok-steps.steps c.in_ok-steps.ensures.gone c.in_ok-insert.ensures.updates.0 same

pub returns-clause-fit : goal.returns-clause-fit
returns-clause-fit c =
    let same = c.in_ok-original.ensures ∙ c.original.ensures in
    fit_put c.args.all.now c.take_more_steps.new.all c.insert.new.self c.args.row.now.original c.in_ok-original.original
    c.in_ok-steps.steps c.in_ok-steps.ensures.gone c.in_ok-insert.ensures.updates.0 same c.args.lists.now
    c.requires.fit c.in_ok-steps.ensures.fit
