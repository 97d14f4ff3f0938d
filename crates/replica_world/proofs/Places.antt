-- What is kept under a number.
use Rattle.std.proofs.Common.{◌≡◌, ℕ, zero, suc, List, length, get_or, map, Option, Some, None, refl, sym, ap, subst, ◌∙◌, ◌≤◌, arith}
use Rattle.std.specs.Prelude.{All}
use Rattle.std.specs.Option.{option_map}
use Rattle.std.proofs.lemmas.Option.{slice_get-map, slice_get_past, slice_get_read, slice_get_within, get_or_from_slice_get, same_Some, none-some}
use Rattle.std.proofs.lemmas.List.Elements.{All-get_or}
use Rattle.replica_world.specs.Places.{IsPlaceOf, IsNoNumber}
use Rattle.replica_events.specs.World.{at_number}

-- what an index reads is what has the number
pub numbered_here : {A : Type 0} (all : List A) (number count place : ℕ) (a : A) → count ≡ length all → IsPlaceOf number count place → a ≡ get_or all place a → at_number all number ≡ Some a
numbered_here all number count place a count_is here is =
    let number_is : suc place ≡ number = omega (arith, here.number_is) in
    subst (λ (n : ℕ). at_number all n ≡ Some a) number_is (slice_get_read all count place a count_is here.within is)

pub none_numbered : {A : Type 0} (all : List A) (number count : ℕ) → count ≡ length all → IsNoNumber number count → at_number all number ≡ None
none_numbered all zero count count_is none = refl
none_numbered all (suc place) count count_is none = slice_get_past all place (subst (λ (n : ℕ). n ≤ place) count_is none)

at_number-map : {A B : Type 0} (view : A → B) (all : List A) (number : ℕ) → at_number (map view all) number ≡ option_map view (at_number all number)
at_number-map view all zero = refl
at_number-map view all (suc place) = slice_get-map view all place

-- what is kept under the number, and the element that it is kept of
pub record Of {A B : Type 0} (view : A → B) (all : List A) (number : ℕ) (b : B) : Type 0 where
  pub found : A
  pub there : at_number all number ≡ Some found
  pub kept_is : b ≡ view found

pub kept_of : {A B : Type 0} (view : A → B) (all : List A) (kept : List B) (number : ℕ) (b : B) → kept ≡ map view all → at_number kept number ≡ Some b → Of view all number b
kept_of {A} {B} view all kept number b kept_is is =
    of_it (at_number all number) refl (sym (at_number-map view all number) ∙ (ap (λ (bs : List B). at_number bs number) (sym kept_is) ∙ is)) where
      of_it : (o : Option A) → at_number all number ≡ o → option_map view o ≡ Some b → Of view all number b
      of_it None there seen = absurd (none-some b seen)
      of_it (Some a) there seen = record { found = a; there = there; kept_is = sym (same_Some (view a) b seen) }

pub none_kept : {A B : Type 0} (view : A → B) (all : List A) (kept : List B) (number : ℕ) → kept ≡ map view all → at_number kept number ≡ None → at_number all number ≡ None
none_kept {A} {B} view all kept number kept_is is =
    no_element (at_number all number) (sym (at_number-map view all number) ∙ (ap (λ (bs : List B). at_number bs number) (sym kept_is) ∙ is)) where
      no_element : (o : Option A) → option_map view o ≡ None → o ≡ None
      no_element None seen = refl
      no_element (Some a) seen = absurd (none-some (view a) (sym seen))

-- what is true of each is true of what has the number
pub all_numbered : {A : Type 0} (P : A → Type 0) (all : List A) (number : ℕ) (a : A) → at_number all number ≡ Some a → All P all → P a
all_numbered P all zero a there each = absurd (none-some a there)
all_numbered P all (suc place) a there each = subst P (get_or_from_slice_get all place a a there) (All-get_or P all place a (slice_get_within all place a there) each)
