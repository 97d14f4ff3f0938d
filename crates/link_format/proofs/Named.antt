-- The first parameter of a name, and names without regard to case.
use Rattle.std.proofs.Common.{◌≡◌, ◌∙◌, ℕ, Bor, true, false, List, [], ◌∷◌, ◌++◌, map, Option, Some, None, refl, ap, sym, subst, inl, inr}
use Rattle.std.specs.Prelude.{◌&&◌, Decides}
use Rattle.std.specs.List.{AllByRecursion}
use Rattle.std.specs.Option.{option_or, IfSome}
use Rattle.std.specs.Prelude.{option_map, codes}
use Rattle.std.proofs.lemmas.Bool.{cases_Bool}
use Rattle.std.proofs.lemmas.Slice.Eq.{bytes_eq-Decides}
use Rattle.std.specs.Str.{bytes_eq}
use Rattle.std.specs.Char.{eq_ignore_ascii_case, to_ascii_lowercase}
use Rattle.link_format.specs.Grammar.{Param}
use Rattle.link_format.specs.Spans.{params_from, value_from}
use Rattle.link_format.specs.declared.spans.ParamSpan.{ParamSpan}
use Rattle.link_format.specs.Usual.{SaysMemento}
use Rattle.link_format.specs.Values.{same_name, value_or_empty, first_value}

-- byte by byte, as of the two names in lower case
pub by_bytes : (a b : List ℕ) → bytes_eq (map to_ascii_lowercase a) (map to_ascii_lowercase b) ≡ same_name a b
by_bytes [] [] = refl
by_bytes [] (y ∷ b) = refl
by_bytes (x ∷ a) [] = refl
by_bytes (x ∷ a) (y ∷ b) = ap (λ rest. eq_ignore_ascii_case x y && rest) (by_bytes a b)

pub same_decides : (a b : List ℕ) → Decides (same_name a b) (map to_ascii_lowercase a ≡ map to_ascii_lowercase b)
same_decides a b = subst (λ r. Decides r (map to_ascii_lowercase a ≡ map to_ascii_lowercase b)) (by_bytes a b) (bytes_eq-Decides (map to_ascii_lowercase a) (map to_ascii_lowercase b))

pub first_is : (name : List ℕ) (before after : List Param) (param : Param) → AllByRecursion (λ (p : Param). same_name p.name name ≡ false) before → same_name param.name name ≡ true
    → first_value name (before ++ param ∷ after) ≡ Some (value_or_empty param.value)
first_is name [] after param others is = rw is refl
first_is name (p ∷ before) after param others is = rw others.0 (first_is name before after param others.1 is)

pub none_named : (name : List ℕ) (params : List Param) → AllByRecursion (λ (p : Param). same_name p.name name ≡ false) params → first_value name params ≡ None
none_named name [] others = refl
none_named name (p ∷ params) others = rw others.0 (none_named name params others.1)

option_or-None : {A : Type 0} (o : Option A) → option_or o None ≡ o
option_or-None None = refl
option_or-None (Some x) = refl

option_or-associates : {A : Type 0} (a b c : Option A) → option_or (option_or a b) c ≡ option_or a (option_or b c)
option_or-associates None b c = refl
option_or-associates (Some x) b c = refl

first_from : (name : List ℕ) (found : Option ParamSpan) (params : List Param)
    → first_value name (params_from found ++ params) ≡ option_or (first_value name (params_from found)) (first_value name params)
first_from name None params = refl
first_from name (Some p) params = elim (cases_Bool (same_name p.name.now name)) [ inl is ↦ rw is refl | inr not ↦ rw not refl ]

-- what is held and the parameters that are left give the first value of a name, before a parameter is found and after
-- it
pub first_stays : (name : List ℕ) (held kept found : Option ParamSpan) (rest after : List Param) (value : Option (List ℕ))
    → rest ≡ params_from found ++ after → value_from kept ≡ option_or (value_from held) (first_value name (params_from found))
    → option_or (value_from held) (first_value name rest) ≡ value → option_or (value_from kept) (first_value name after) ≡ value
first_stays name held kept found rest after value is keeps before =
    ap (λ (v : Option (List ℕ)). option_or v (first_value name after)) keeps
    ∙ option_or-associates (value_from held) (first_value name (params_from found)) (first_value name after)
    ∙ ap (option_or (value_from held)) (sym (first_from name found after) ∙ ap (first_value name) (sym is)) ∙ before

-- with no parameter left, what is held has the first value
pub first_held : (name : List ℕ) (held : Option ParamSpan) (rest : List Param) (value : Option (List ℕ))
    → rest ≡ [] → option_or (value_from held) (first_value name rest) ≡ value → value_from held ≡ value
first_held name held rest value none before =
    sym (option_or-None (value_from held)) ∙ ap (λ (ps : List Param). option_or (value_from held) (first_value name ps)) (sym none) ∙ before

-- a datetime that was read by its words, or else of the first values that are held
pub says_either : (usual found : Option (Bor (List ℕ))) (rel datetime : Option ParamSpan) (params : List Param)
    → ((d : List ℕ) → option_map (λ (u : Bor (List ℕ)). u.now) usual ≡ Some d → SaysMemento params d)
    → (usual ≡ None → value_from rel ≡ first_value (codes "rel") params)
    → (usual ≡ None → value_from datetime ≡ first_value (codes "datetime") params)
    → IfSome found (λ _. value_from rel ≡ Some (codes "memento")) → IfSome found (λ text. value_from datetime ≡ Some text.now)
    → (d : List ℕ) → option_map (λ (u : Bor (List ℕ)). u.now) (option_or usual found) ≡ Some d → SaysMemento params d
says_either (Some u) found rel datetime params says is_rel is_datetime named dated d h = says d h
says_either None None rel datetime params says is_rel is_datetime named dated d h = absurd cc
says_either None (Some t) rel datetime params says is_rel is_datetime named dated d h =
    (sym (is_rel refl) ∙ named, sym (is_datetime refl) ∙ dated ∙ h)
