-- Names of keys.
use Rattle.std.proofs.Common.{◌≡◌, ℕ, ◌+◌, ◌<◌, ◌≤◌, List, length, get_or, drop, true, false, ◌||◌, Option, Some, None, is_some, option_map, refl, ap, ◌∙◌, bytes_eq}
use Rattle.std.proofs.Math.ListN.{drop_of_length-le}
use Rattle.std.proofs.lemmas.List.{drop_more}
use Rattle.service_settings.specs.declared.fault.Key.{Key}
use Rattle.service_settings.specs.Keys.{names_one, name_of}

-- one key more is looked at
names_one-drop : (text : List ℕ) (ks : List Key) (i : ℕ) (d : Key) → i < length ks
    → names_one text (drop i ks) ≡ (bytes_eq (name_of (get_or ks i d)) text || names_one text (drop (i + 1) ks))
names_one-drop text ks i d h = rw (drop_more ks i d h)

-- and has the name
pub names_one-found : (text : List ℕ) (ks : List Key) (i : ℕ) (d : Key) → i < length ks → bytes_eq (name_of (get_or ks i d)) text ≡ true
    → names_one text (drop i ks) ≡ true
names_one-found text ks i d h same = names_one-drop text ks i d h ∙ ap (λ b. b || names_one text (drop (i + 1) ks)) same

-- and has another name
pub names_one-other : (text : List ℕ) (ks : List Key) (i : ℕ) (d : Key) → i < length ks → bytes_eq (name_of (get_or ks i d)) text ≡ false
    → names_one text (drop i ks) ≡ names_one text (drop (i + 1) ks)
names_one-other text ks i d h other = names_one-drop text ks i d h ∙ ap (λ b. b || names_one text (drop (i + 1) ks)) other

-- all keys were looked at
pub names_one-end : (text : List ℕ) (ks : List Key) (i : ℕ) → length ks ≤ i → names_one text (drop i ks) ≡ false
names_one-end text ks i h = ap (names_one text) (drop_of_length-le ks h)

pub is_some-option_map : {A B : Type 0} (f : A → B) (o : Option A) → is_some (option_map f o) ≡ is_some o
is_some-option_map f None = refl
is_some-option_map f (Some x) = refl
