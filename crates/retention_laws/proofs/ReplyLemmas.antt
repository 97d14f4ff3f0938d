-- A reply about one original follows from what is shown of that original.
use Rattle.std.proofs.Common.{◌≡◌, ℕ, List, Some, sym, ap, ◌∙◌}
use Rattle.std.proofs.lemmas.Option.{none-some, same_Some}
use Rattle.memento_sets.specs.MementoSets.{Mementos}
use Rattle.memento_sets.specs.Sets as set
use Rattle.timegate.specs.Reply.{choice_at}
use Rattle.harvest_lattice.specs.Knowledge.{shown_of}
use Rattle.replica_exchange.specs.Stamps.{StampedState}
use Rattle.timegate.specs.declared.request.Request.{Request}
use Rattle.timegate.specs.declared.route.Route.{Route}
use Rattle.timegate.specs.declared.route.Route.TheVariants.{BadMethod, State, Delta, NoRoute, BadOriginal, BadDatetime, TimeGate, TimeMap, Page}
use Rattle.timegate.specs.Route.{route_of, original_in}
use Rattle.timegate.specs.Reply.{reply_at, reply_of, redirect, timemap, page}
use Rattle.retention.specs.Restriction.{Rule, restrict, KeepsOriginal}
use Rattle.retention.proofs.RestrictionLemmas.{shown-kept}

pub at_route : (base : List ℕ) (f g : List ℕ → Mementos) (s t : StampedState) (q : Request) (o : List ℕ) (r : Route)
    → original_in r ≡ Some o → g o ≡ f o → reply_at base g t q r ≡ reply_at base f s q r
at_route base f g s t q o BadMethod is same = absurd (none-some o is)
at_route base f g s t q o State is same = absurd (none-some o is)
at_route base f g s t q o (Delta cursor) is same = absurd (none-some o is)
at_route base f g s t q o NoRoute is same = absurd (none-some o is)
at_route base f g s t q o BadOriginal is same = absurd (none-some o is)
at_route base f g s t q o BadDatetime is same = absurd (none-some o is)
at_route base f g s t q o (TimeGate original asked) is same =
    let here : g original ≡ f original = ap g (same_Some original o is) ∙ (same ∙ ap f (sym (same_Some original o is))) in
    ap (λ (m : Mementos). redirect base q original m (choice_at m asked)) here
at_route base f g s t q o (TimeMap original) is same =
    let here : g original ≡ f original = ap g (same_Some original o is) ∙ (same ∙ ap f (sym (same_Some original o is))) in
    ap (λ (m : Mementos). timemap base q original (set.items m)) here
at_route base f g s t q o (Page number original) is same =
    let here : g original ≡ f original = ap g (same_Some original o is) ∙ (same ∙ ap f (sym (same_Some original o is))) in
    ap (λ (m : Mementos). page base q number original (set.items m)) here

pub replies_kept : (base : List ℕ) (keeps : Rule) (s t : StampedState) (q : Request) (original : List ℕ)
    → t.entries ≡ restrict keeps s.entries → original_in (route_of q) ≡ Some original
    → KeepsOriginal keeps original → reply_of base t q ≡ reply_of base s q
unfolding reply_of
replies_kept base keeps s t q original is asked all =
    at_route base (shown_of s.entries) (shown_of t.entries) s t q original (route_of q) asked
    (ap (λ x. shown_of x original) is ∙ shown-kept keeps s.entries original all)
