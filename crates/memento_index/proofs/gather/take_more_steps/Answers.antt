use Rattle.std.proofs.Common.{◌≡◌, ◌++◌, true, false, List, Option, None, sym, ap, subst, ◌∙◌}
use Rattle.std.specs.Arc.{arc_value}
use Rattle.std.specs.BTreeMap as tree
use Rattle.memento_time.specs.Mementos.{text_cmp}
use Rattle.memento_sets.specs.Sets as set
use Rattle.harvest_lattice.specs.Rows.{row_entry}
use Rattle.memento_index.specs.declared.counted.Step.{Step}
use Rattle.memento_index.specs.declared.counted.Steps.{Steps}
use Rattle.memento_index.specs.Lists.{shared_mementos, each_step, steps_or_none, IsShifted}
use Rattle.memento_index.proofs.Gathering.{none_gone, shifted_all}
use Rattle.memento_index.proofs.gather.take_more_steps.Goals as goal

pub returns-then-replaces_all-clause-shifted : goal.returns-then-replaces_all-clause-shifted
returns-then-replaces_all-clause-shifted c =
    let x = c.args.state.now in
    let row = c.args.row.now in
    let made = c.in_ok-made.made in
    let before = shared_mementos made.before in
    let after = set.items (arc_value made.after) in
    let none : tree.get text_cmp c.args.all.now row.original ≡ None =
    ap (λ p. tree.get text_cmp c.args.all.now p) (sym c.original.ensures)
    ∙ c.replaces_all.ensures.alone c.if-replaces_all.true in
    subst (λ (ss : List Step). IsShifted x (row_entry row) ss (each_step false before ++ each_step true after))
    (sym (ap (λ (s : Option Steps). steps_or_none s) none))
    (shifted_all x (row_entry row) before after c.in_ok-made.ensures)

pub returns-then-replaces_all-clause-gone : goal.returns-then-replaces_all-clause-gone
returns-then-replaces_all-clause-gone c =
    none_gone c.args.all.now c.args.row.now.original
    (ap (λ p. tree.get text_cmp c.args.all.now p) (sym c.original.ensures) ∙ c.replaces_all.ensures.alone c.if-replaces_all.true)
