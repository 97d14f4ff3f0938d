-- What becomes of a gate that goes on with others.
use Rattle.std.proofs.Common.{◌≡◌, Option, None, Some, refl, sym, subst, ◌∙◌}
use Rattle.std.proofs.lemmas.Option.{none-some}

-- The gate inside is later than some gate: without a place where others are left, than the gate that it was.
pub record Switches {G P : Type 0} (follows : G → G → Type 0) (place : Option P) (gate : G) (next_place : Option P) (next : G)
    : Type 0 where
  pub stays : next_place ≡ place
  pub from : G
  pub same : place ≡ None → from ≡ gate
  pub later : follows from next

pub stays_without_switching : {G P : Type 0} (follows : G → G → Type 0) → ((it : G) → follows it it) → (place : Option P) (gate : G)
    → Switches follows place gate place gate
stays_without_switching follows stays place gate = record { stays = refl; from = gate; same = λ _. refl; later = stays gate }

pub goes_on_switching : {G P : Type 0} (follows : G → G → Type 0)
    → ((it next last : G) → follows it next → follows next last → follows it last)
    → (place : Option P) (gate : G) (next_place : Option P) (next : G) (last_place : Option P) (last : G)
    → Switches follows place gate next_place next → Switches follows next_place next last_place last
    → Switches follows place gate last_place last
goes_on_switching follows goes_on None gate next_place next last_place last one two = record {
  stays = two.stays ∙ one.stays;
  from = gate;
  same = λ _. refl;
  later = goes_on gate next last
      (subst (λ g. follows g next) (one.same refl) one.later)
      (subst (λ g. follows g last) (two.same one.stays) two.later);
}
goes_on_switching follows goes_on (Some place) gate next_place next last_place last one two = record {
  stays = two.stays ∙ one.stays;
  from = two.from;
  same = λ none. absurd (none-some place (sym none));
  later = two.later;
}
