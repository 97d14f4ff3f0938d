-- What is made of harvests, joined and restricted.
use Rattle.std.proofs.Common.{◌≡◌, Bool, true, false, cond, not, List, [], ◌∷◌, ◌++◌, Option, None, IfSome, MatchOption, refl, sym, ap, subst, ◌∙◌, Contains}
use Rattle.std.specs.FinMap as map
use Rattle.std.proofs.lemmas.List.Elements.{Contains-append_left, Contains-append_right}
use Rattle.harvest_lattice.specs.Lattice.{Entries, Kept, AtMost, KeptAtMost, join}
use Rattle.harvest_lattice.specs.Knowledge.{Harvested, adds, key_of, lat}
use Rattle.harvest_lattice.proofs.EntryOrder.{at_most_least, at_most_left, at_most_right, at_most_trans}
use Rattle.harvest_lattice.proofs.Knowledge.{lat-adds}
use Rattle.published_index.specs.Exchanges.{Has, IsMadeOf}
use Rattle.published_index.proofs.Exchanging.{made_of_own}
use Rattle.retention.specs.Restriction.{Rule, restrict}
use Rattle.retention.proofs.RestrictionLemmas.{get-gone, get-kept, restrict-join, restrict-lat, restrict_less, restrict_monotone}

has_more : (x y : Entries) (h : Harvested) → AtMost x y → Has x h → Has y h
has_more x y h more has = at_most_trans (lat (h ∷ [])) x y has more

-- a state is made of its own harvests
pub made_of_itself : (x : Entries) → IsMadeOf (adds x) x
made_of_itself x = subst (λ (y : Entries). IsMadeOf (adds x) y) (lat-adds x) (made_of_own (adds x) (adds x) (λ h at. at))

-- more harvests may be given
pub made_of_more : (hs gs : List Harvested) (x : Entries) → ((h : Harvested) → Contains hs h → Contains gs h) → IsMadeOf hs x → IsMadeOf gs x
made_of_more hs gs x within made y each = made y (λ h at has. each h (within h at) has)

-- what is joined is made of the harvests of both
pub made_of_both : (hs gs : List Harvested) (x y : Entries) → IsMadeOf hs x → IsMadeOf gs y → IsMadeOf (hs ++ gs) (join x y)
made_of_both hs gs x y by_x by_y z each =
    at_most_least x y z
    (by_x z (λ h at has. each h (Contains-append_left hs gs h at) (has_more x (join x y) h (at_most_left x y) has)))
    (by_y z (λ h at has. each h (Contains-append_right hs gs h at) (has_more y (join x y) h (at_most_right x y) has)))

-- what a rule keeps of harvests that a state has is had by what it keeps of the state
has_kept : (keeps : Rule) (x : Entries) (h : Harvested) → keeps (key_of h) ≡ true → Has x h → Has (restrict keeps x) h
has_kept keeps x h is has =
    subst (λ (y : Entries). AtMost y (restrict keeps x))
    (restrict-lat keeps (h ∷ []) ∙ ap (λ (b : Bool). lat (cond b (h ∷ []) [])) is)
    (restrict_monotone keeps (lat (h ∷ [])) x has)

module _ (harvests : List Harvested) (keeps : Rule) (x : Entries) (made : IsMadeOf harvests x) where
  -- the entries that the rule doesn't keep
  abbrev drops : Rule
  drops k = not (keeps k)

  abbrev rest : Entries
  rest = restrict drops x

  nothing_left : (y : Entries) → AtMost (restrict keeps rest) y
  nothing_left y k = on (keeps k) refl
    where
      gone : (o : Option Kept) → o ≡ None → IfSome o (λ a. MatchOption (map.get y k) ⊥ (λ e. KeptAtMost a e))
      gone o none = subst (λ (o : Option Kept). IfSome o (λ a. MatchOption (map.get y k) ⊥ (λ e. KeptAtMost a e))) (sym none) tt

      on : (b : Bool) → keeps k ≡ b → IfSome (map.get (restrict keeps rest) k) (λ a. MatchOption (map.get y k) ⊥ (λ e. KeptAtMost a e))
      on true is = gone _ (get-kept keeps rest k is ∙ get-gone drops x k (ap not is))
      on false is = gone _ (get-gone keeps rest k is)

  module _ (y : Entries) (each : (h : Harvested) → Contains harvests h → Has (restrict keeps x) h → Has y h) where
    either : (h : Harvested) → Contains harvests h → Has x h → Has (join y rest) h
    either h at has = on (keeps (key_of h)) refl
      where
        on : (b : Bool) → keeps (key_of h) ≡ b → Has (join y rest) h
        on true is = has_more y (join y rest) h (at_most_left y rest) (each h at (has_kept keeps x h is has))
        on false is = has_more rest (join y rest) h (at_most_right y rest) (has_kept drops x h (ap not is) has)

    kept_within : AtMost (restrict keeps x) y
    kept_within =
        at_most_trans (restrict keeps x) (restrict keeps (join y rest)) y
        (restrict_monotone keeps x (join y rest) (made (join y rest) either))
        (subst (λ (z : Entries). AtMost z y) (sym (restrict-join keeps y rest))
        (at_most_least (restrict keeps y) (restrict keeps rest) y (restrict_less keeps y) (nothing_left y)))

-- what a rule keeps of a state is made of the same harvests
pub made_of_kept : (harvests : List Harvested) (keeps : Rule) (x : Entries) → IsMadeOf harvests x → IsMadeOf harvests (restrict keeps x)
made_of_kept harvests keeps x made y each = kept_within harvests keeps x made y each
