use Rattle.std.proofs.Common.{◌≡◌, ℕ, Bool, not, Option, None, Some, true, false, is_some, refl, sym, ap, ◌∙◌}
use Rattle.std.specs.Prelude.{IsTrue}
use Rattle.std.specs.Option.{option_copied}
use Rattle.std.specs.FinMap as map
use Rattle.std.proofs.lemmas.Option.{none-some, same_Some}
use Rattle.std.proofs.lemmas.Bool.{true≢false}
use Rattle.replica_exchange.specs.StampShelves.{Slots}
use Rattle.replica_exchange.proofs.ShelfLemmas.{get-slots}
use Rattle.replica_exchange.proofs.stamps.StampShelf.has_empty.Goals as goal

told : (v : Option ℕ) (b : Bool) → is_some v ≡ not b → (IsTrue b → v ≡ None) × (v ≡ None → IsTrue b)
told None true h = (λ _. refl, λ _. refl)
told None false h = (λ _. refl, λ _. absurd (true≢false (sym h)))
told (Some n) true h = (λ _. absurd (true≢false h), λ _. refl)
told (Some n) false h = (λ yes. absurd (true≢false (sym yes)), λ e. absurd (none-some n (sym e)))

pub returns-in-Some : goal.returns-in-Some
returns-in-Some c =
    let o = c.args.original.now in
    let read : map.get c.args.self.now o ≡ option_copied c.get.result = sym (c.get.ensures.value ∙ (sym (get-slots c.self.inside.slots.entries o) ∙ ap (λ (s : Slots). map.get s o) c.self.view_is)) in
    let there : map.get c.args.self.now o ≡ Some c.in-Some.slot.now = read ∙ ap option_copied c.in-Some.is in
    let test = told c.in-Some.slot.now c.is_none.result c.is_none.ensures in
    (λ yes. there ∙ ap (λ (v : Option ℕ). Some v) (test.0 yes), λ is. test.1 (same_Some c.in-Some.slot.now None (sym there ∙ is)))

pub returns-in-None : goal.returns-in-None
returns-in-None c =
    let o = c.args.original.now in
    let read : map.get c.args.self.now o ≡ option_copied c.get.result = sym (c.get.ensures.value ∙ (sym (get-slots c.self.inside.slots.entries o) ∙ ap (λ (s : Slots). map.get s o) c.self.view_is)) in
    let there : map.get c.args.self.now o ≡ None = read ∙ ap option_copied c.in-None.is in
    (λ yes. absurd (true≢false (sym yes)), λ is. absurd (none-some None (sym there ∙ is)))
