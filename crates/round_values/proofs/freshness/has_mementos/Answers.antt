use Rattle.std.proofs.Common.{not, arith, ap, sym, ◌∙◌}
use Rattle.std.specs.FinMap as map
use Rattle.round_values.proofs.FreshnessLemmas.{found_at, none_at_all, none_more}
use Rattle.round_values.proofs.freshness.has_mementos.Goals as goal

pub returns-then-not-is_empty : goal.returns-then-not-is_empty
returns-then-not-is_empty c = found_at _ c.loop-k.k _ c.mementos.ensures (ap not (sym c.is_empty.ensures ∙ c.if-not-is_empty.true))

pub loop-k-preserved : goal.loop-k-preserved
loop-k-preserved c = none_more _ c.loop-k.k _ c.mementos.ensures (ap not (sym c.is_empty.ensures ∙ c.if-not-is_empty.false)) c.loop-k.invariant

pub returns : goal.returns
returns c =
    let revisions = c.args.entry.now.revisions in
    none_at_all (map.entries revisions) c.loop-k.k (omega (arith, map.len-entries revisions, c.loop-k-test.false, c.revisions-k-end.ensures)) c.loop-k.invariant
