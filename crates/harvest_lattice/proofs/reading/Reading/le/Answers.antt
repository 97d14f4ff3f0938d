use Rattle.std.proofs.Common.{sym, subst, ◌∙◌}
use Rattle.std.proofs.lemmas.Bool.{true≢false}
use Rattle.harvest_lattice.specs.Lattice.{IsNoLater, whole}
use Rattle.harvest_lattice.proofs.Parts.{at_most_by_parts, first_at_most, later_at_most}
use Rattle.harvest_lattice.proofs.reading.Reading.le.Goals as goal

pub returns-then-not-covers : goal.returns-then-not-covers
returns-then-not-covers c =
    let e = c.self.inside in (
      λ wrong. absurd (true≢false (sym wrong)),
      λ le. sym c.if-not-covers.true ∙ c.covers.ensures.1
          (first_at_most e.is_whole e.first.now e.later.now c.args.self.now c.args.other.now c.self.view_is
          c.self.invariant le),
    )

pub returns : goal.returns
returns c =
    let e = c.self.inside in
    let later : IsNoLater (whole c.args.self.now) (whole c.args.other.now) =
    subst (λ v. IsNoLater v (whole c.args.other.now)) c.whole.ensures
    (subst (λ v. IsNoLater c.whole.result v) c.whole-2.ensures (c.is_no_later.ensures.0 c.if-not-is_no_later.false))
    in (
      λ t. at_most_by_parts e.is_whole e.first.now e.later.now c.args.self.now c.args.other.now c.self.view_is
          c.self.invariant later (c.covers.ensures.0 c.if-not-covers.false) (c.covers_all.ensures.0 t),
      λ le. c.covers_all.ensures.1 (later_at_most e.is_whole e.first.now e.later.now c.args.self.now c.args.other.now c.self.view_is c.self.invariant le),
    )
