use Rattle.std.proofs.Common.{ap, sym, ◌∙◌}
use Rattle.std.specs.FinMap as map
use Rattle.harvest_lattice.specs.Lattice.{Key}
use Rattle.replica_exchange.specs.Stamps.{StampedState}
use Rattle.replica_exchange.proofs.ShelfLemmas.{get-stamps_in}
use Rattle.replica_exchange.proofs.stamped.Stamped.stamp.Goals as goal

pub returns : goal.returns
returns c =
    let k : Key = (c.args.archive, c.args.original.now) in
    c.stamp_at.ensures ∙ (sym (get-stamps_in c.self.inside.stamps c.self.invariant.0 k) ∙ ap (λ (s : StampedState). map.get s.stamps k) c.self.view_is)
