use Rattle.retention.specs.Rules.{is_unlisted}
use Rattle.retention.proofs.AmountLemmas.{all_counted, all_summed}
use Rattle.retention.proofs.forgetting.unlisted_amount.Goals as goal

pub returns-clause-entries : goal.returns-clause-entries
returns-clause-entries c =
    all_counted (is_unlisted c.args.unlisted.now.withdrawn.now c.args.unlisted.now.listed.now) c.args.state.now c.loop-row.row-iterator c.loop-row.all.entries
    c.in-None.ensures.steps.0 c.loop-row.invariant.entries

pub returns-clause-mementos : goal.returns-clause-mementos
returns-clause-mementos c =
    all_summed (is_unlisted c.args.unlisted.now.withdrawn.now c.args.unlisted.now.listed.now) c.args.state.now c.loop-row.row-iterator c.loop-row.all.mementos
    c.in-None.ensures.steps.0 c.loop-row.invariant.mementos
