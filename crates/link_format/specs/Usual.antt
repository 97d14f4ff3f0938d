-- The parameters that nearly every link of a TimeMap begins with.
use Rattle.std.specs.Prelude.{◌≡◌, ℕ, List, [], ◌∷◌, ◌++◌, Some, codes, ◌⊎◌, option_map}
use Rattle.link_format.specs.Bytes.{is_blank}
use Rattle.link_format.specs.Grammar.{Param}
use Rattle.link_format.specs.Scan.{past, after_byte}
use Rattle.link_format.specs.Values.{first_value}

-- a memento's relation type and its datetime
abbrev pub usual_params : List ℕ → List Param
usual_params datetime =
    record { name = codes "rel"; value = Some (codes "memento") }
    ∷ record { name = codes "datetime"; value = Some datetime }
    ∷ []

-- the first `rel` is just the type `memento`, and the first `datetime` is this one
abbrev pub SaysMemento : List Param → List ℕ → Type 0
SaysMemento params datetime =
    (first_value (codes "rel") params ≡ Some (codes "memento")) × (first_value (codes "datetime") params ≡ Some datetime)

-- what follows a semicolon and the blanks around it
abbrev pub FollowsSemicolon : List ℕ → List ℕ → Type 0
FollowsSemicolon text rest = option_map (past is_blank) (after_byte 59 (past is_blank text)) ≡ Some rest

-- what follows the relation type
abbrev pub FollowsRelation : List ℕ → List ℕ → Type 0
FollowsRelation text rest = (text ≡ codes "rel=\"memento\"" ++ rest) ⊎ (text ≡ codes "rel=memento" ++ rest)
