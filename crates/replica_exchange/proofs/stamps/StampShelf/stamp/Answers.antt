use Rattle.std.proofs.Common.{◌≡◌, sym, ap, ◌∙◌}
use Rattle.std.specs.Option.{option_copied}
use Rattle.std.specs.FinMap as map
use Rattle.replica_exchange.specs.StampShelves.{Slots, stamp_in}
use Rattle.replica_exchange.proofs.ShelfLemmas.{get-slots}
use Rattle.replica_exchange.proofs.stamps.StampShelf.stamp.Goals as goal

pub returns-in_err-get : goal.returns-in_err-get
returns-in_err-get c =
    let o = c.args.original.now in
    let read : option_copied c.get.result ≡ map.get c.args.self.now o = c.get.ensures.value ∙ (sym (get-slots c.self.inside.slots.entries o) ∙ ap (λ (s : Slots). map.get s o) c.self.view_is) in
    c.from_residual.ensures ∙ ap stamp_in (ap option_copied (sym c.in_err-get.was) ∙ read)

pub returns : goal.returns
returns c =
    let o = c.args.original.now in
    let read : option_copied c.get.result ≡ map.get c.args.self.now o = c.get.ensures.value ∙ (sym (get-slots c.self.inside.slots.entries o) ∙ ap (λ (s : Slots). map.get s o) c.self.view_is) in
    ap stamp_in (ap option_copied (sym c.in_ok-get.was) ∙ read)
