-- A TimeGate or a TimeMap isn't found exactly where nothing is shown.
use Rattle.std.proofs.Common.{◌≡◌, ℕ, ◌↔◌, ◌==◌, Bool, true, false, length, List, [], ◌∷◌, Option, Some, None, refl, ap, subst, arith}
use Rattle.std.specs.Prelude.{MatchOption, if◌then◌else◌}
use Rattle.std.proofs.lemmas.Bool.{true≢false, false_from_ne_true}
use Rattle.std.proofs.lemmas.Bool.Decides.{Decides-eqb}
use Rattle.std.proofs.lemmas.Option.{none-some}
use Rattle.memento_time.specs.declared.mementos.Memento.{Memento}
use Rattle.memento_sets.specs.Sets as set
use Rattle.memento_sets.specs.MementoSets.{Mementos}
use Rattle.harvest_lattice.specs.Knowledge.{shown_of}
use Rattle.memento_index.specs.Choice.{IsNearest, IsLast, last, nearest}
use Rattle.memento_index.proofs.Choice.{nearest-is, last-is}
use Rattle.replica_exchange.specs.Stamps.{StampedState}
use Rattle.timegate.specs.declared.reply.Reply.{Reply}
use Rattle.timegate.specs.declared.request.Request.{Request}
use Rattle.timegate.specs.declared.route.Route.{Route}
use Rattle.timegate.specs.declared.route.Route.TheVariants.{BadMethod, State, Delta, NoRoute, BadOriginal, BadDatetime, TimeGate, TimeMap, Page}
use Rattle.timegate.specs.Route.{route_of}
use Rattle.timegate.specs.Reply.{reply_at, reply_of, redirect, timemap, choice_at}
use Rattle.timegate.proofs.Replies.{nothing_in}
use Rattle.wishing_gates.specs.Asked.{IsAbsentWhereNothingIsShown, is_page, list_in}

-- a memento can be chosen exactly where one is shown
chosen : (ms : Mementos) (asked : Option ℕ) → MatchOption (choice_at ms asked) (set.items ms ≡ []) (λ m. set.contains ms m ≡ true)
chosen ms None = elim (last ms) as (λ (o : Option Memento). MatchOption o (set.items ms ≡ []) (IsLast ms) → MatchOption o (set.items ms ≡ []) (λ m. set.contains ms m ≡ true)) [
  | None ↦ λ none. none
  | Some m ↦ λ l. l.held
] (last-is ms)
chosen ms (Some second) = elim (nearest ms second)
    as (λ (o : Option Memento). MatchOption o (set.items ms ≡ []) (IsNearest ms second) → MatchOption o (set.items ms ≡ []) (λ m. set.contains ms m ≡ true)) [
      | None ↦ λ none. none
      | Some m ↦ λ n. n.held
    ] (nearest-is ms second)

gate_absent : (base : List ℕ) (q : Request) (original : List ℕ) (ms : Mementos) (c : Option Memento) → MatchOption c (set.items ms ≡ []) (λ m. set.contains ms m ≡ true)
    → ((redirect base q original ms c).status ≡ 404) ↔ (set.items ms ≡ [])
gate_absent base q original ms None none = (λ _. none, λ _. refl)
gate_absent base q original ms (Some m) there = (λ status. absurd (omega (arith, status)), λ none. absurd (nothing_in ms m none there))

found : (b : Bool) (x y : Reply) → b ≡ false → y.status ≡ 200 → (if b then x else y).status ≡ 404 → ⊥
found true x y is other status = true≢false is
found false x y is other status = omega (arith, other, status)

list_absent : (base : List ℕ) (q : Request) (original : List ℕ) (ms : List Memento) → ((timemap base q original ms).status ≡ 404) ↔ (ms ≡ [])
list_absent base q original [] = (λ _. refl, λ _. refl)
list_absent base q original (m ∷ ms) = (
  λ status. absurd (found (length (m ∷ ms) == 0) _ _ (false_from_ne_true (length (m ∷ ms) == 0)
      (λ t. let e = (Decides-eqb (length (m ∷ ms)) 0).0 t in omega (arith, e))) refl status),
  λ none. absurd (let n = ap (λ (xs : List Memento). length xs) none in omega (arith, n)),
)

abbrev value_or : List ℕ → Option (List ℕ) → List ℕ
value_or other None = other
value_or other (Some text) = text

some_same : (a b : List ℕ) → Some a ≡ Some b → a ≡ b
some_same a b is = ap (value_or a) is

absent_at : (base : List ℕ) (s : StampedState) (q : Request) (route : Route) (original : List ℕ) → list_in route ≡ Some original
    → ((reply_at base (shown_of s.entries) s q route).status ≡ 404) ↔ (set.items (shown_of s.entries original) ≡ [])
absent_at base s q BadMethod original is = absurd (none-some original is)
absent_at base s q State original is = absurd (none-some original is)
absent_at base s q (Delta cursor) original is = absurd (none-some original is)
absent_at base s q NoRoute original is = absurd (none-some original is)
absent_at base s q BadOriginal original is = absurd (none-some original is)
absent_at base s q BadDatetime original is = absurd (none-some original is)
absent_at base s q (Page number named) original is = absurd (none-some original is)
absent_at base s q (TimeGate named asked) original is =
    subst (λ (o : List ℕ). ((reply_at base (shown_of s.entries) s q (TimeGate named asked)).status ≡ 404) ↔ (set.items (shown_of s.entries o) ≡ []))
    (some_same named original is)
    (gate_absent base q named (shown_of s.entries named) (choice_at (shown_of s.entries named) asked) (chosen (shown_of s.entries named) asked))
absent_at base s q (TimeMap named) original is =
    subst (λ (o : List ℕ). ((reply_at base (shown_of s.entries) s q (TimeMap named)).status ≡ 404) ↔ (set.items (shown_of s.entries o) ≡ []))
    (some_same named original is)
    (list_absent base q named (set.items (shown_of s.entries named)))

of_list : (page : Bool) (listed : Option (List ℕ)) (original : List ℕ) → (if page then None else listed) ≡ Some original → listed ≡ Some original
of_list true listed original is = absurd (none-some original is)
of_list false listed original is = is

pub absent : IsAbsentWhereNothingIsShown
unfolding reply_of
absent base s q original is = absent_at base s q (route_of q) original (of_list (is_page q) (list_in (route_of q)) original is)
