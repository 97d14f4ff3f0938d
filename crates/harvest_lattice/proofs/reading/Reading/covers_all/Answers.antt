use Rattle.std.proofs.Common.{refl, arith}
use Rattle.harvest_lattice.proofs.Parts.{one_more_within}
use Rattle.harvest_lattice.proofs.reading.Reading.covers_all.Goals as goal

pub loop-part-preserved : goal.loop-part-preserved
loop-part-preserved c = one_more_within c.args.self.now c.args.parts.now c.loop-part.part-index c.part-item.result
    c.loop-part-test.true c.part-item.is (c.covers.ensures.0 c.if-not-covers.false) c.loop-part.invariant

pub returns : goal.returns
returns c = (λ _ k d lt. c.loop-part.invariant k d (omega (arith, c.loop-part-test.false, lt)), λ _. refl)
