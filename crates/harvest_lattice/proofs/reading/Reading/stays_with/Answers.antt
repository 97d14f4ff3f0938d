use Rattle.std.proofs.Common.{◌≡◌, true, IfSome, sym, subst, ◌∙◌}
use Rattle.std.specs.Prelude.{IsTrue}
use Rattle.harvest_lattice.specs.Lattice.{whole, not_before}
use Rattle.harvest_lattice.proofs.Parts.{least_of_it}
use Rattle.harvest_lattice.proofs.reading.Reading.stays_with.Goals as goal

pub returns : goal.returns
returns c = λ t.
    let e = c.self.inside in
    let o = c.other.inside in
    let a = c.args.self.now in
    let b = c.args.other.now in
    let left : not_before (whole b) e.first.now.0 ≡ true =
    sym (c.is_not_before.ensures ∙ (λ i. not_before (c.whole.ensures i) (c.revision.ensures i)))
    ∙ c.if-not-is_not_before.false in
    let right : not_before (whole a) o.first.now.0 ≡ true =
    sym (c.is_not_before-2.ensures ∙ (λ i. not_before (c.whole-2.ensures i) (c.revision-2.ensures i))) ∙ t in
    record {
      left = subst (λ l. IfSome l (λ r. IsTrue (not_before (whole b) r)))
          (sym (least_of_it e.is_whole e.first.now e.later.now a c.self.view_is c.self.invariant)) left;
      right = subst (λ l. IfSome l (λ r. IsTrue (not_before (whole a) r)))
          (sym (least_of_it o.is_whole o.first.now o.later.now b c.other.view_is c.other.invariant)) right;
    }
