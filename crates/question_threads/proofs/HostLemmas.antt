-- What is shown of an option says as much as the option.
use Rattle.std.proofs.Common.{◌≡◌, Option, Some, None, IfSome, subst}
use Rattle.std.specs.Option.{option_map}

if_map : {X Z : Type 0} (f : X → Z) (P : Z → Type 0) (o : Option X) → IfSome o (λ x. P (f x)) → IfSome (option_map f o) P
if_map f P None given = given
if_map f P (Some x) given = given

map_if : {Y Z : Type 0} (f : Y → Z) (P : Z → Type 0) (o : Option Y) → IfSome (option_map f o) P → IfSome o (λ y. P (f y))
map_if f P None given = given
map_if f P (Some y) given = given

-- what holds of the value that is shown, if there is one, holds of the one that is there
pub shown_is_there : {X Y Z : Type 0} (f : X → Z) (g : Y → Z) (P : Z → Type 0) (shown : Option X) (there : Option Y)
    → option_map f shown ≡ option_map g there → IfSome shown (λ x. P (f x)) → IfSome there (λ y. P (g y))
shown_is_there f g P shown there same given = map_if g P there (subst (λ o. IfSome o P) same (if_map f P shown given))
