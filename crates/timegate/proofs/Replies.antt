-- What a reply depends on, and which memento a redirect names.
use Rattle.std.proofs.Common.{◌≡◌, ℕ, ◌<◌, ◌≤◌, ◌⊎◌, ◌↔◌, ◌==◌, ◌||◌, nat_lt, Bool, true, false, length, Result, Ok, Err, List, [], ◌∷◌, Option, Some, None, refl, ap, sym, subst, ◌∙◌, inl, inr, arith}
use Rattle.std.specs.Prelude.{MatchOption, Contains, IfOk, if◌then◌else◌}
use Rattle.std.specs.List.{list_any}
use Rattle.std.specs.Ordering.{eq_by_cmp}
use Rattle.std.specs.FinMap.{contains_key-keys}
use Rattle.std.proofs.lemmas.Bool.{true≢false}
use Rattle.memento_time.specs.declared.faults.NoMemory.{NoMemory}
use Rattle.memento_time.specs.Mementos.{memento_cmp}
use Rattle.std.proofs.lemmas.List.Elements.{Contains-append_right}
use Rattle.memento_time.specs.declared.mementos.Memento.{Memento}
use Rattle.memento_sets.specs.Sets as set
use Rattle.memento_sets.specs.MementoSets.{Mementos}
use Rattle.harvest_lattice.specs.Lattice.{Entries}
use Rattle.harvest_lattice.specs.Knowledge.{Harvested, IsShown, lat, shown, shown_of}
use Rattle.memento_index.specs.Choice.{distance, IsNearest, IsLast}
use Rattle.harvest_lattice.proofs.KnowledgeShown.{lat_same, shown-is, shown-lat}
use Rattle.memento_index.proofs.Choice.{nearest-is, last-is}
use Rattle.timemap_writer.specs.TimeMap.{gate_links}
use Rattle.timemap_writer.specs.Pages.{pages}
use Rattle.timegate.specs.declared.reply.Reply.{Reply}
use Rattle.timegate.specs.declared.reply.Header.{Header}
use Rattle.timegate.specs.declared.reply.Header.TheVariants.{Location, Link}
use Rattle.timegate.specs.declared.request.Request.{Request}
use Rattle.timegate.specs.declared.route.Route.{Route}
use Rattle.timegate.specs.declared.route.Route.TheVariants.{BadMethod, State, Delta, NoRoute, BadOriginal, BadDatetime, TimeGate, TimeMap, Page}
use Rattle.replica_exchange.specs.declared.cursor.Cursor.{Cursor}
use Rattle.replica_exchange.specs.Stamps.{StampedState}
use Rattle.replica_exchange.specs.CursorRule.{delta_from}
use Rattle.replica_exchange.specs.DeltaText.{delta_text}
use Rattle.timegate.specs.Route.{IsOfTaken, is_head, route_of}
use Rattle.timegate.specs.Reply.{reply_at, reply, reply_of, without_numbers, redirect, timemap, page, choice_at, vary}
use Rattle.timegate.specs.Redirect.{Redirects, IsGateReply}

-- what is shown of each original follows from the state
shown_from_state : (base : List ℕ) (known : List Harvested) (s : StampedState) (q : Request) (route : Route) → s.entries ≡ lat known
    → reply_at base (shown known) s q route ≡ reply_at base (shown_of s.entries) s q route
shown_from_state base known s q BadMethod is = refl
shown_from_state base known s q State is = refl
shown_from_state base known s q (Delta cursor) is = refl
shown_from_state base known s q NoRoute is = refl
shown_from_state base known s q BadOriginal is = refl
shown_from_state base known s q BadDatetime is = refl
shown_from_state base known s q (TimeGate original asked) is =
    ap (λ (ms : Mementos). redirect base q original ms (choice_at ms asked)) (shown-lat known original ∙ ap (λ (e : Entries). shown_of e original) (sym is))
shown_from_state base known s q (TimeMap original) is =
    ap (λ (ms : Mementos). timemap base q original (set.items ms)) (shown-lat known original ∙ ap (λ (e : Entries). shown_of e original) (sym is))
shown_from_state base known s q (Page number original) is =
    ap (λ (ms : Mementos). page base q number original (set.items ms)) (shown-lat known original ∙ ap (λ (e : Entries). shown_of e original) (sym is))

-- only a delta tells of merges
untold : (base : List ℕ) (shows : List ℕ → Mementos) (s : StampedState) (q : Request) (route : Route) → ((cursor : Option Cursor) → ¬ (route ≡ Delta cursor))
    → reply_at base shows s q route ≡ reply_at base shows (without_numbers s.entries) q route
untold base shows s q BadMethod taken = refl
untold base shows s q State taken = refl
untold base shows s q (Delta cursor) taken = absurd (taken cursor refl)
untold base shows s q NoRoute taken = refl
untold base shows s q BadOriginal taken = refl
untold base shows s q BadDatetime taken = refl
untold base shows s q (TimeGate original asked) taken = refl
untold base shows s q (TimeMap original) taken = refl
untold base shows s q (Page number original) taken = refl

-- a reply is that of the state
pub reply_of_state : (base : List ℕ) (known : List Harvested) (q : Request) → reply base known q ≡ reply_of base (without_numbers (lat known)) q
unfolding reply reply_of
reply_of_state base known q = shown_from_state base known (without_numbers (lat known)) q (route_of q) refl

reply_untold : (base : List ℕ) (s : StampedState) (q : Request) → IsOfTaken q → reply_of base s q ≡ reply_of base (without_numbers s.entries) q
unfolding reply_of
reply_untold base s q taken = untold base (shown_of s.entries) s q (route_of q) taken

-- and of whatever has this state
pub reply_from_state : (base : List ℕ) (known : List Harvested) (s : StampedState) (q : Request) → s.entries ≡ lat known → IsOfTaken q → reply_of base s q ≡ reply base known q
reply_from_state base known s q is taken =
    reply_untold base s q taken ∙ (ap (λ (entries : Entries). reply_of base (without_numbers entries) q) is ∙ sym (reply_of_state base known q))

-- a TimeMap is asked for
pub timemap_reply : (base : List ℕ) (known : List Harvested) (q : Request) (original : List ℕ) → route_of q ≡ TimeMap original
    → reply base known q ≡ timemap base q original (set.items (shown known original))
unfolding reply
timemap_reply base known q original is = ap (λ (route : Route). reply_at base (shown known) (without_numbers (lat known)) q route) is

-- a page of one is
pub page_reply : (base : List ℕ) (known : List Harvested) (q : Request) (number : ℕ) (original : List ℕ) → route_of q ≡ Page number original
    → reply base known q ≡ page base q number original (set.items (shown known original))
unfolding reply
page_reply base known q number original is = ap (λ (route : Route). reply_at base (shown known) (without_numbers (lat known)) q route) is

-- equal states give equal replies
pub same_reply : (base : List ℕ) (known others : List Harvested) (q : Request) → lat known ≡ lat others → reply base known q ≡ reply base others q
same_reply base known others q same =
    reply_of_state base known q ∙ (ap (λ (entries : Entries). reply_of base (without_numbers entries) q) same ∙ sym (reply_of_state base others q))

pub same_harvests : (base : List ℕ) (known others : List Harvested) → ((h : Harvested) → Contains known h ↔ Contains others h) → (q : Request) → reply base known q ≡ reply base others q
same_harvests base known others same q = same_reply base known others q (lat_same known others (λ h. (same h).0) (λ h. (same h).1))

-- what is the reply of a state is that of each knowledge with this state
pub known_reply : (base : List ℕ) (s : StampedState) (known : List Harvested) (q : Request) (result : Result Reply NoMemory) → s.entries ≡ lat known → IsOfTaken q
    → IfOk result (λ answer. answer ≡ reply_of base s q) → IfOk result (λ answer. answer ≡ reply base known q)
known_reply base s known q result is taken answers =
    let P : Reply → Type 0 = λ r. IfOk result (λ answer. answer ≡ r) in
    subst P (reply_from_state base known s q is taken) answers

-- where a delta is asked for, its text is the body
pub delta_reply : (base : List ℕ) (s : StampedState) (q : Request) (result : Result Reply NoMemory) (cursor : Option Cursor) → route_of q ≡ Delta cursor
    → IfOk result (λ answer. answer ≡ reply_of base s q) → IfOk result (λ answer. answer.body ≡ (if is_head q then [] else delta_text (delta_from s cursor)))
unfolding reply_of
delta_reply base s q (Ok answer) cursor is answers = ap (λ (r : Reply). r.body) (answers ∙ ap (reply_at base (shown_of s.entries) s q) is)
delta_reply base s q (Err fault) cursor is answers = tt

-- the chosen one is shown, and none that is shown is nearer
record IsChosen (known : List Harvested) (original : List ℕ) (asked : Option ℕ) (m : Memento) : Type 0 where
  shown : IsShown known original m
  nearest : (other : Memento) → IsShown known original other → MatchOption asked (other.at ≤ m.at) (λ second. distance second m ≤ distance second other)

no_more : {P : Type 0} (a b : ℕ) → (a < b) ⊎ ((a ≡ b) × P) → a ≤ b
no_more a b (inl less) = omega (arith, less)
no_more a b (inr tie) = let e : a ≡ b = tie.0 in omega (arith, e)

choice : (known : List Harvested) (original : List ℕ) (asked : Option ℕ) (m : Memento) → choice_at (shown known original) asked ≡ Some m → IsChosen known original asked m
choice known original None m is =
    let l : IsLast (shown known original) m = subst (λ (o : Option Memento). MatchOption o (set.items (shown known original) ≡ [])
    (IsLast (shown known original))) is (last-is (shown known original)) in
    record {
      shown = (shown-is known original m).0 l.held;
      nearest = λ other there. no_more other.at m.at (l.last other ((shown-is known original other).1 there));
    }
choice known original (Some second) m is =
    let n : IsNearest (shown known original) second m = subst
    (λ (o : Option Memento). MatchOption o (set.items (shown known original) ≡ []) (IsNearest (shown known original) second)) is
    (nearest-is (shown known original) second) in
    record {
      shown = (shown-is known original m).0 n.held;
      nearest = λ other there. no_more (distance second m) (distance second other) (n.nearest other ((shown-is known original other).1 there));
    }

redirected : (base : List ℕ) (known : List Harvested) (q : Request) (original : List ℕ) (asked : Option ℕ) (c : Option Memento) → choice_at (shown known original) asked ≡ c
    → (redirect base q original (shown known original) c).status ≡ 302 → Redirects known original asked (redirect base q original (shown known original) c)
redirected base known q original asked None is status = absurd (omega arith)
redirected base known q original asked (Some m) is status =
    let rest : List (Header × List ℕ) = (Link, gate_links base original (set.items (shown known original))) ∷ [] in
    let c = choice known original asked m is in
    record {
      memento = m;
      location = Contains-append_right (vary q) ((Location, m.uri) ∷ rest) (Location, m.uri) (0, omega arith, refl);
      shown = c.shown;
      nearest = c.nearest;
    }

-- nothing is shown where no memento can be chosen
pub nothing_in : (ms : Mementos) (m : Memento) → set.items ms ≡ [] → ¬ (set.contains ms m ≡ true)
nothing_in ms m none held =
    let found : list_any (eq_by_cmp memento_cmp m) (set.items ms) ≡ true = sym (contains_key-keys ms m) ∙ held in
    let lost : list_any (eq_by_cmp memento_cmp m) [] ≡ true = subst (λ (xs : List Memento). list_any (eq_by_cmp memento_cmp m) xs ≡ true) none found in
    absurd (true≢false (sym lost))

nothing_shown : (known : List Harvested) (original : List ℕ) (asked : Option ℕ) → choice_at (shown known original) asked ≡ None → (m : Memento) → ¬ IsShown known original m
nothing_shown known original None is m there =
    let none : set.items (shown known original) ≡ [] = subst
    (λ (o : Option Memento). MatchOption o (set.items (shown known original) ≡ []) (IsLast (shown known original))) is
    (last-is (shown known original)) in
    nothing_in (shown known original) m none ((shown-is known original m).1 there)
nothing_shown known original (Some second) is m there =
    let none : set.items (shown known original) ≡ [] = subst
    (λ (o : Option Memento). MatchOption o (set.items (shown known original) ≡ []) (IsNearest (shown known original) second)) is
    (nearest-is (shown known original) second) in
    nothing_in (shown known original) m none ((shown-is known original m).1 there)

gate_at : (base : List ℕ) (known : List Harvested) (q : Request) (original : List ℕ) (asked : Option ℕ) (c : Option Memento) → choice_at (shown known original) asked ≡ c
    → IsGateReply known original asked (redirect base q original (shown known original) c)
gate_at base known q original asked None is = inl (nothing_shown known original asked is, refl)
gate_at base known q original asked (Some m) is = inr ((m, (choice known original asked m is).shown), refl, redirected base known q original asked (Some m) is refl)

-- a TimeGate redirects where anything is shown
pub gate_reply : (base : List ℕ) (known : List Harvested) (q : Request) (original : List ℕ) (asked : Option ℕ) → route_of q ≡ TimeGate original asked
    → IsGateReply known original asked (reply base known q)
unfolding reply
gate_reply base known q original asked is =
    subst (λ (route : Route). IsGateReply known original asked (reply_at base (shown known) (without_numbers (lat known)) q route)) (sym is) (gate_at base known q original asked _ refl)

-- one of two replies, neither of them a redirect
not_found : (b : Bool) (x y : Reply) → x.status ≡ 404 → y.status ≡ 200 → (if b then x else y).status ≡ 302 → ⊥
not_found true x y is other status = omega (arith, is, status)
not_found false x y is other status = omega (arith, other, status)

-- one of three, likewise
none_found : (b other : Bool) (x y z : Reply) → x.status ≡ 404 → y.status ≡ 404 → z.status ≡ 200 → (if b then x else if other then y else z).status ≡ 302 → ⊥
none_found true other x y z is lost found status = omega (arith, is, status)
none_found false other x y z is lost found status = not_found other y z lost found status

-- that the reply to what is asked for redirects well
abbrev RedirectsAt : List ℕ → List Harvested → Request → Route → Type 0
RedirectsAt base known q route =
    (original : List ℕ) × (asked : Option ℕ) × (route ≡ TimeGate original asked) × Redirects known original asked (reply_at base (shown known) (without_numbers (lat known)) q route)

at_route : (base : List ℕ) (known : List Harvested) (q : Request) (route : Route) → (reply_at base (shown known) (without_numbers (lat known)) q route).status ≡ 302 → RedirectsAt base known q route
at_route base known q BadMethod status = absurd (omega arith)
at_route base known q State status = absurd (omega arith)
at_route base known q (Delta cursor) status = absurd (omega arith)
at_route base known q NoRoute status = absurd (omega arith)
at_route base known q BadOriginal status = absurd (omega arith)
at_route base known q BadDatetime status = absurd (omega arith)
at_route base known q (TimeGate original asked) status = (original, asked, refl, redirected base known q original asked _ refl status)
at_route base known q (TimeMap original) status = absurd (not_found (length (set.items (shown known original)) == 0) _ _ refl refl status)
at_route base known q (Page number original) status =
    absurd (none_found (length (set.items (shown known original)) == 0) (number == 0 || nat_lt (pages (set.items (shown known original))) number) _ _ _ refl refl refl status)

pub redirects : (base : List ℕ) (known : List Harvested) (q : Request) → (reply base known q).status ≡ 302
    → (original : List ℕ) × (asked : Option ℕ) × (route_of q ≡ TimeGate original asked) × Redirects known original asked (reply base known q)
unfolding reply
redirects base known q status = at_route base known q (route_of q) status

-- whatever is kept, only a TimeGate redirects
gate_alone : (base : List ℕ) (shows : List ℕ → Mementos) (s : StampedState) (q : Request) (route : Route) → (reply_at base shows s q route).status ≡ 302
    → (original : List ℕ) × (asked : Option ℕ) × (route ≡ TimeGate original asked)
gate_alone base shows s q BadMethod status = absurd (omega arith)
gate_alone base shows s q State status = absurd (omega arith)
gate_alone base shows s q (Delta cursor) status = absurd (omega arith)
gate_alone base shows s q NoRoute status = absurd (omega arith)
gate_alone base shows s q BadOriginal status = absurd (omega arith)
gate_alone base shows s q BadDatetime status = absurd (omega arith)
gate_alone base shows s q (TimeGate original asked) status = (original, asked, refl)
gate_alone base shows s q (TimeMap original) status = absurd (not_found (length (set.items (shows original)) == 0) _ _ refl refl status)
gate_alone base shows s q (Page number original) status =
    absurd (none_found (length (set.items (shows original)) == 0) (number == 0 || nat_lt (pages (set.items (shows original))) number) _ _ _ refl refl refl status)

pub redirects_alone : (base : List ℕ) (s : StampedState) (q : Request) → (reply_of base s q).status ≡ 302 → (original : List ℕ) × (asked : Option ℕ) × (route_of q ≡ TimeGate original asked)
unfolding reply_of
redirects_alone base s q status = gate_alone base (shown_of s.entries) s q (route_of q) status
