-- What a request wishes for, and what the status of its reply says.
use Rattle.std.specs.Prelude.{◌≡◌, ◌↔◌, ℕ, Bool, true, false, List, [], ◌∷◌, Option, None, Some, is_some, codes, drop, nat_eq, if◌then◌else◌}
use Rattle.std.specs.List.{starts_with}
use Rattle.memento_time.specs.SecondOf.{asked_of}
use Rattle.memento_sets.specs.Sets as set
use Rattle.harvest_lattice.specs.Knowledge.{shown_of}
use Rattle.replica_exchange.specs.Stamps.{StampedState}
use Rattle.timegate.specs.declared.request.Request.{Request}
use Rattle.timegate.specs.declared.route.Route.{Route}
use Rattle.timegate.specs.declared.route.Route.TheVariants.{BadMethod, State, NoRoute, BadOriginal, BadDatetime}
use Rattle.timegate.specs.declared.route.Route.TheVariants.{Delta, TimeGate, TimeMap, Page}
use Rattle.timegate.specs.Route.{original_at, route_of}
use Rattle.timegate.specs.Reply.{reply_of}

-- the original whose TimeGate or TimeMap is asked for, if one is
abbrev pub list_in : Route → Option (List ℕ)
list_in BadMethod = None
list_in State = None
list_in (Delta cursor) = None
list_in NoRoute = None
list_in BadOriginal = None
list_in BadDatetime = None
list_in (TimeGate original asked) = Some original
list_in (TimeMap original) = Some original
list_in (Page number original) = None

-- the target is that of a page of a TimeMap, or begins like one
abbrev pub is_page : Request → Bool
is_page q = starts_with nat_eq q.target (codes "/timemap/link/page/")

-- what a request wishes for
abbrev pub asked_in : Request → Option (List ℕ)
asked_in q = if is_page q then None else list_in (route_of q)

-- there is no value of Accept-Datetime, or one that can be read
abbrev pub is_dated : List (List ℕ) → Bool
is_dated [] = true
is_dated (value ∷ []) = is_some (asked_of value)
is_dated (value ∷ next ∷ values) = false

-- the original that stands behind `/timegate/`, if a TimeGate can be asked with these values of Accept-Datetime
abbrev pub gate_original : List ℕ → List (List ℕ) → Option (List ℕ)
gate_original named asked = if is_dated asked then original_at named else None

-- the original that stands behind `/timemap/link/`, if the target begins so
abbrev pub listing_original : List ℕ → Option (List ℕ)
listing_original target =
    if starts_with nat_eq target (codes "/timemap/link/") then original_at (drop 14 target) else None

-- A request that wishes for an original is a 404 exactly if nothing of the original is shown.
abbrev pub IsAbsentWhereNothingIsShown : Type 0
IsAbsentWhereNothingIsShown = (base : List ℕ) (s : StampedState) (q : Request) (original : List ℕ)
    → asked_in q ≡ Some original
    → ((reply_of base s q).status ≡ 404) ↔ (set.items (shown_of s.entries original) ≡ [])
