use Rattle.std.proofs.Common.{map, sym, ◌∙◌}
use Rattle.std.proofs.lemmas.Option.{none-some, same_Some}
use Rattle.harvest_lattice.specs.Rows.{row_entry}
use Rattle.retention.specs.Restriction.{Rule, restrict}
use Rattle.retention.specs.Rules.{keeps}
use Rattle.retention.proofs.RestrictionLemmas.{made}
use Rattle.retention.proofs.restricting.restricted.Goals as goal

pub unreachable-requires : goal.unreachable-requires
unreachable-requires c =
    let r = c.args.rule.now in
    let k : Rule = keeps r.withdrawn.now r.listed.now r.wanted.now in
    none-some (restrict k c.args.state.now)
    (sym c.in-None-2.is ∙ (c.in_ok-kept.ensures
    ∙ made k c.args.state.now (map row_entry c.loop-row.rows.items) c.loop-row.row-iterator c.in-None.ensures.steps.0 c.loop-row.invariant))

pub returns : goal.returns
returns c =
    let r = c.args.rule.now in
    let k : Rule = keeps r.withdrawn.now r.listed.now r.wanted.now in
    same_Some c.in-Some-2.kept (restrict k c.args.state.now)
    (sym c.in-Some-2.is ∙ (c.in_ok-kept.ensures
    ∙ made k c.args.state.now (map row_entry c.loop-row.rows.items) c.loop-row.row-iterator c.in-None.ensures.steps.0 c.loop-row.invariant))
