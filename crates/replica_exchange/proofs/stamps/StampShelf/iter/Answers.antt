use Rattle.std.proofs.Common.{sym, ap, ◌∙◌}
use Rattle.std.specs.FinMap as map
use Rattle.replica_exchange.specs.StampShelves.{Slots}
use Rattle.replica_exchange.proofs.ShelfLemmas.{slots_made}
use Rattle.replica_exchange.proofs.stamps.StampShelf.iter.Goals as goal

pub returns : goal.returns
returns c = c.iter.ensures.rest ∙ (sym (slots_made c.self.inside.slots.entries c.self.invariant) ∙ ap (λ (s : Slots). map.entries s) c.self.view_is)
