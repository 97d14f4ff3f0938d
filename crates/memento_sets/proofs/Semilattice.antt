-- A join that is associative, commutative and idempotent, and the order that it makes.
use Rattle.std.proofs.Common.{◌≡◌, Option, Some, None, refl, sym, ap, ◌∙◌}
use Rattle.memento_sets.specs.Maps.{join_values}

pub record IsSemilattice {A : Type 0} (f : A → A → A) : Type 0 where
  pub assoc : (a b c : A) → f (f a b) c ≡ f a (f b c)
  pub comm : (a b : A) → f a b ≡ f b a
  pub idem : (a : A) → f a a ≡ a

module _ {A : Type 0} {f : A → A → A} (s : IsSemilattice f) where
  pub join_trans : (a b c : A) → f a b ≡ b → f b c ≡ c → f a c ≡ c
  join_trans a b c ab bc = ap (f a) (sym bc) ∙ (sym (s.assoc a b c) ∙ (ap (λ x. f x c) ab ∙ bc))

  pub join_antisymm : (a b : A) → f a b ≡ b → f b a ≡ a → a ≡ b
  join_antisymm a b ab ba = sym ba ∙ (s.comm b a ∙ ab)

  pub join_left : (a b : A) → f a (f a b) ≡ f a b
  join_left a b = sym (s.assoc a a b) ∙ ap (λ x. f x b) (s.idem a)

  pub join_right : (a b : A) → f b (f a b) ≡ f a b
  join_right a b = ap (f b) (s.comm a b) ∙ (join_left b a ∙ s.comm b a)

  pub join_least : (a b c : A) → f a c ≡ c → f b c ≡ c → f (f a b) c ≡ c
  join_least a b c ac bc = s.assoc a b c ∙ (ap (f a) bc ∙ ac)

  -- where one of two values may be missing
  values_assoc : (a b c : Option A) → join_values f (join_values f a b) c ≡ join_values f a (join_values f b c)
  values_assoc None b c = refl
  values_assoc (Some a) None c = refl
  values_assoc (Some a) (Some b) None = refl
  values_assoc (Some a) (Some b) (Some c) = ap Some (s.assoc a b c)

  values_comm : (a b : Option A) → join_values f a b ≡ join_values f b a
  values_comm None None = refl
  values_comm None (Some b) = refl
  values_comm (Some a) None = refl
  values_comm (Some a) (Some b) = ap Some (s.comm a b)

  values_idem : (a : Option A) → join_values f a a ≡ a
  values_idem None = refl
  values_idem (Some a) = ap Some (s.idem a)

  pub values_semilattice : IsSemilattice (join_values f)
  values_semilattice = record { assoc = values_assoc; comm = values_comm; idem = values_idem }
