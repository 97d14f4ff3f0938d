use Rattle.std.proofs.Common.{◌<◌, ◌≤◌, sym, arith}
use Rattle.std.specs.declared.cmp.Ordering.TheVariants.{Less}
use Rattle.std.specs.Cmp.{nat_cmp_is, ranked}
use Rattle.harvest_lattice.proofs.Rising.{parts_risen, parts_fallen, parts_more}
use Rattle.harvest_lattice.proofs.ordered.parts_rise.Goals as goal

pub returns-then-revision : goal.returns-then-revision
returns-then-revision c =
    let a = c.index-parts-k.result in
    let b = c.index-parts-k-in-loop-k.result in
    let ge : b.0 ≤ a.0 = omega (arith, c.if-revision.true, c.revision.ensures, c.revision-in-loop-k.ensures) in
    sym (parts_fallen c.args.parts.now c.loop-k.k a b c.loop-k.invariant.some c.loop-k-test.true c.index-parts-k.is c.index-parts-k-in-loop-k.is
    (λ less. let lt : a.0 < b.0 = ranked a.0 b.0 Less (sym less) in absurd (omega arith)))

pub loop-k-preserved : goal.loop-k-preserved
loop-k-preserved c = record {
  some = omega arith;
  rises =
      let a = c.index-parts-k.result in
      let b = c.index-parts-k-in-loop-k.result in
      let lt : a.0 < b.0 = omega (arith, c.if-revision.false, c.revision.ensures, c.revision-in-loop-k.ensures) in
      parts_more c.args.parts.now c.loop-k.k a b c.loop-k.invariant.some c.loop-k-test.true c.index-parts-k.is
      c.index-parts-k-in-loop-k.is (sym (nat_cmp_is a.0 b.0 Less lt)) c.loop-k.invariant.rises;
}

pub returns : goal.returns
returns c = sym (parts_risen c.args.parts.now c.loop-k.k c.loop-k.invariant.rises c.loop-k-test.false)
