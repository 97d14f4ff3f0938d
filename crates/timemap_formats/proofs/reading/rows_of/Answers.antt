use Rattle.std.proofs.Common.{sym, ◌∙◌, ◌+◌, arith}
use Rattle.timemap_formats.proofs.ReadingLemmas.{row_more, no_row, rows_end}
use Rattle.timemap_formats.proofs.reading.rows_of.Goals as goal

pub returns-in-None : goal.returns-in-None
returns-in-None c =
    no_row c.args.front.now c.args.links.now c.loop-k.k c.link.result c.loop-k.rows.items _ c.link.ensures (sym c.in_ok-row.ensures ∙ c.in-None.is)
    c.loop-k.invariant.1

pub loop-k-preserved : goal.loop-k-preserved
loop-k-preserved c = (
  omega arith,
  row_more c.args.front.now c.args.links.now c.loop-k.k (c.loop-k.k + 1) c.link.result c.in-Some.row c.loop-k.rows.items c.push.new.self.items _
      (omega arith) c.link.ensures (sym c.in_ok-row.ensures ∙ c.in-Some.is) c.in_ok-push-in-Some.ensures.items c.loop-k.invariant.1,
)

pub returns : goal.returns
returns c =
    rows_end c.args.front.now c.args.links.now c.loop-k.k c.loop-k.rows.items _ (omega (arith, c.loop-k-test.false, c.len-count.ensures)) c.loop-k.invariant.1
