use Rattle.std.proofs.Common.{sym, ◌∙◌}
use Rattle.memento_time.specs.Blanks.{is_among}
use Rattle.memento_time.proofs.BlankLemmas.{start_stays, start_skips, start_empty}
use Rattle.memento_time.proofs.blanks.trim_start.Goals as goal

pub returns-then-not-is_among : goal.returns-then-not-is_among
returns-then-not-is_among c = sym (start_stays (is_among c.args.bytes.now) c.loop-rest.rest.now c.in-len1-up.len_at_least (sym c.if-not-is_among.ensures)) ∙ c.loop-rest.invariant

pub loop-rest-preserved : goal.loop-rest-preserved
loop-rest-preserved c = start_skips (is_among c.args.bytes.now) c.loop-rest.rest.now c.in-len1-up.len_at_least (sym c.if-not-is_among.ensures) ∙ c.loop-rest.invariant

pub returns : goal.returns
returns c = sym (start_empty (is_among c.args.bytes.now) c.loop-rest.rest.now c.in_default.len_below) ∙ c.loop-rest.invariant
