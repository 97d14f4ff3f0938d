-- Which requests ask for deltas.
use Rattle.std.proofs.Common.{◌≡◌, ◌⊎◌, ℕ, ◌++◌, ◌&&◌, Bool, true, false, not, List, [], ◌∷◌, drop, length, Option, Some, None, refl, ap, sym, subst, ◌∙◌, inl, inr, arith}
use Rattle.std.specs.Prelude.{◌↔◌, codes}
use Rattle.std.specs.Fmt.{decimal}
use Rattle.std.proofs.lemmas.Bool.{true≢false}
use Rattle.std.proofs.lemmas.Bool.Decides.{Decides-eqb}
use Rattle.std.proofs.lemmas.Option.{none-some, same_Some}
use Rattle.std.proofs.lemmas.Slice.Eq.{bytes_eq-Decides, starts_is}
use Rattle.memento_time.specs.SecondOf.{asked_of}
use Rattle.text_fields.specs.Decimals.{number_of}
use Rattle.text_fields.specs.Parts.{parts_at}
use Rattle.text_fields.proofs.DecimalLemmas.{decimal_lacks, number_is}
use Rattle.text_fields.proofs.PartLemmas.{parts_are}
use Rattle.replica_exchange.specs.declared.cursor.Cursor.{Cursor}
use Rattle.timegate.specs.declared.request.Request.{Request}
use Rattle.timegate.specs.declared.route.Route.{Route}
use Rattle.timegate.specs.declared.route.Route.TheVariants.{BadMethod, State, Delta, NoRoute, BadOriginal, BadDatetime, TimeGate, TimeMap, Page}
use Rattle.timegate.specs.Route.{is_get, is_head, is_state, is_whole_delta, is_delta, is_timegate, is_timemap, timemaps, deltas, slash, cursor_of}
use Rattle.timegate.specs.Route.{cursor_in, cursor_at, delta_route, datetime_route, timegate_route, original_route, original_at, page_in}
use Rattle.timegate.specs.Route.{listing_route, map_route, route_of, IsCursor, AsksDelta}
use Rattle.timegate.proofs.Promises.{asking, at_target, first_of}

-- ---- the cursor that bytes name

abbrev cursor_text : Cursor → List ℕ
cursor_text c = decimal c.incarnation ++ slash ∷ decimal c.number

cursor_read : (c : Cursor) → IsCursor c → cursor_at (cursor_text c) ≡ Some c
cursor_read c fits =
    let parts : parts_at slash (cursor_text c) ≡ Some (decimal c.incarnation, decimal c.number) =
    (parts_are slash (cursor_text c) (decimal c.incarnation, decimal c.number)).1 (decimal_lacks slash (omega arith) c.incarnation fits.0, refl) in
    let incarnation : number_of (decimal c.incarnation) ≡ Some c.incarnation = (number_is (decimal c.incarnation) c.incarnation).1 (fits.0, refl) in
    let number : number_of (decimal c.number) ≡ Some c.number = (number_is (decimal c.number) c.number).1 (fits.1, refl) in
    ap cursor_in parts ∙ (λ i. cursor_of (incarnation i) (number i))

abbrev IsNamed : List ℕ → Cursor → Type 0
IsNamed bytes c = IsCursor c × (bytes ≡ cursor_text c)

numbers_named : (bytes front back : List ℕ) (a b : Option ℕ) (c : Cursor) → bytes ≡ front ++ slash ∷ back → number_of front ≡ a → number_of back ≡ b → cursor_of a b ≡ Some c → IsNamed bytes c
numbers_named bytes front back None b c whole first second is = absurd (none-some c is)
numbers_named bytes front back (Some incarnation) None c whole first second is = absurd (none-some c is)
numbers_named bytes front back (Some incarnation) (Some number) c whole first second is =
    let own = (number_is front incarnation).0 first in
    let count = (number_is back number).0 second in
    subst (IsNamed bytes) (same_Some _ _ is) ((own.0, count.0), whole ∙ (λ i. own.1 i ++ slash ∷ count.1 i))

cursor_named : (bytes : List ℕ) (c : Cursor) → cursor_at bytes ≡ Some c → IsNamed bytes c
cursor_named bytes c is = on (parts_at slash bytes) refl
  where
    on : (parts : Option (List ℕ × List ℕ)) → parts_at slash bytes ≡ parts → IsNamed bytes c
    on None none = absurd (none-some c (sym (ap cursor_in none) ∙ is))
    on (Some p) found = numbers_named bytes p.0 p.1 _ _ c ((parts_are slash bytes p).0 found).1 refl refl (sym (ap cursor_in found) ∙ is)

-- ---- who asks for a delta gets it

whole_asked : (method : List ℕ) (asked : List (List ℕ)) → (method ≡ codes "GET") ⊎ (method ≡ codes "HEAD") → route_of (asking method (codes "/delta") asked) ≡ Delta None
unfolding route_of
whole_asked method asked (inl get) = subst (λ (m : List ℕ). route_of (asking m (codes "/delta") asked) ≡ Delta None) (sym get) refl
whole_asked method asked (inr head) = subst (λ (m : List ℕ). route_of (asking m (codes "/delta") asked) ≡ Delta None) (sym head) refl

from_asked : (method bytes : List ℕ) (asked : List (List ℕ)) → (method ≡ codes "GET") ⊎ (method ≡ codes "HEAD") → route_of (asking method (deltas ++ bytes) asked) ≡ delta_route (cursor_at bytes)
unfolding route_of
from_asked method bytes asked (inl get) = subst (λ (m : List ℕ). route_of (asking m (deltas ++ bytes) asked) ≡ delta_route (cursor_at bytes)) (sym get) refl
from_asked method bytes asked (inr head) = subst (λ (m : List ℕ). route_of (asking m (deltas ++ bytes) asked) ≡ delta_route (cursor_at bytes)) (sym head) refl

gets_delta : (q : Request) (cursor : Option Cursor) → AsksDelta q cursor → route_of q ≡ Delta cursor
gets_delta q None asks = at_target q q.method (codes "/delta") refl asks.target ∙ whole_asked q.method q.asked asks.method
gets_delta q (Some c) asks =
    at_target q q.method (deltas ++ cursor_text c) refl asks.target ∙ (from_asked q.method (cursor_text c) q.asked asks.method ∙ ap delta_route (cursor_read c asks.fits))

-- ---- and nobody else does

abbrev cursor_asked : Route → Option (Option Cursor)
cursor_asked BadMethod = None
cursor_asked State = None
cursor_asked (Delta cursor) = Some cursor
cursor_asked NoRoute = None
cursor_asked BadOriginal = None
cursor_asked BadDatetime = None
cursor_asked (TimeGate original asked) = None
cursor_asked (TimeMap original) = None
cursor_asked (Page number original) = None

gate_asks_none : (asked : List (List ℕ)) (original : Option (List ℕ)) → cursor_asked (original_route (timegate_route asked) original) ≡ None
gate_asks_none asked None = refl
gate_asks_none [] (Some original) = refl
gate_asks_none (value ∷ []) (Some original) = dated (asked_of value)
  where
    dated : (second : Option ℕ) → cursor_asked (datetime_route original second) ≡ None
    dated None = refl
    dated (Some second) = refl
gate_asks_none (value ∷ next ∷ values) (Some original) = refl

whole_asks_none : (original : Option (List ℕ)) → cursor_asked (original_route TimeMap original) ≡ None
whole_asks_none None = refl
whole_asks_none (Some original) = refl

page_asks_none : (number : ℕ) (original : Option (List ℕ)) → cursor_asked (original_route (Page number) original) ≡ None
page_asks_none number None = refl
page_asks_none number (Some original) = refl

listing_asks_none : (page : Option (ℕ × List ℕ)) (bytes : List ℕ) → cursor_asked (listing_route page bytes) ≡ None
listing_asks_none None bytes = whole_asks_none (original_at bytes)
listing_asks_none (Some page) bytes = page_asks_none page.0 (original_at page.1)

map_asks_none : (bytes : List ℕ) → cursor_asked (map_route bytes) ≡ None
map_asks_none bytes = listing_asks_none (page_in bytes) bytes

-- the first route that fits is a delta's
abbrev IsDeltaRoute : Bool → Bool → Bool → Route → Option Cursor → Type 0
IsDeltaRoute refused whole from delta cursor =
    (refused ≡ false) × (((whole ≡ true) × (None ≡ cursor)) ⊎ ((from ≡ true) × (cursor_asked delta ≡ Some cursor)))

first_delta : (refused state whole from gate map_here : Bool) (delta gate_route map_route : Route) (cursor : Option Cursor) → cursor_asked gate_route ≡ None → cursor_asked map_route ≡ None
    → cursor_asked (first_of refused state whole from gate map_here delta gate_route map_route) ≡ Some cursor → IsDeltaRoute refused whole from delta cursor
first_delta true state whole from gate map_here delta gate_route map_route cursor gates maps is = absurd (none-some cursor is)
first_delta false true whole from gate map_here delta gate_route map_route cursor gates maps is = absurd (none-some cursor is)
first_delta false false true from gate map_here delta gate_route map_route cursor gates maps is = (refl, inl (refl, same_Some _ _ is))
first_delta false false false true gate map_here delta gate_route map_route cursor gates maps is = (refl, inr (refl, is))
first_delta false false false false true map_here delta gate_route map_route cursor gates maps is = absurd (none-some cursor (sym gates ∙ is))
first_delta false false false false false true delta gate_route map_route cursor gates maps is = absurd (none-some cursor (sym maps ∙ is))
first_delta false false false false false false delta gate_route map_route cursor gates maps is = absurd (none-some cursor is)

route_is_delta : (q : Request) (cursor : Option Cursor) → route_of q ≡ Delta cursor
    → IsDeltaRoute (not (is_get q) && not (is_head q)) (is_whole_delta q) (is_delta q) (delta_route (cursor_at (drop (length deltas) q.target))) cursor
unfolding route_of
route_is_delta q cursor is =
    first_delta (not (is_get q) && not (is_head q)) (is_state q) (is_whole_delta q) (is_delta q) (is_timegate q) (is_timemap q) _ _ _ cursor
    (gate_asks_none q.asked _) (map_asks_none (drop (length timemaps) q.target)) (ap cursor_asked is)

pub allowed_method : (q : Request) (g h : Bool) → is_get q ≡ g → is_head q ≡ h → (not g && not h) ≡ false → (q.method ≡ codes "GET") ⊎ (q.method ≡ codes "HEAD")
allowed_method q true h get head allowed = inl ((bytes_eq-Decides q.method (codes "GET")).0 get)
allowed_method q false true get head allowed = inr ((bytes_eq-Decides q.method (codes "HEAD")).0 head)
allowed_method q false false get head allowed = absurd (true≢false allowed)

named_asks : (q : Request) (c : Cursor) → (q.method ≡ codes "GET") ⊎ (q.method ≡ codes "HEAD") → is_delta q ≡ true → cursor_at (drop (length deltas) q.target) ≡ Some c → AsksDelta q (Some c)
named_asks q c method from named =
    let is = cursor_named (drop (length deltas) q.target) c named in
    let whole : q.target ≡ deltas ++ drop (length deltas) q.target = (starts_is Decides-eqb q.target deltas (is_delta q) refl).0 from in
    record { method = method; fits = is.0; target = whole ∙ ap (λ (bytes : List ℕ). deltas ++ bytes) is.1 }

cursor_asks : (q : Request) (cursor : Option Cursor) (o : Option Cursor) → (q.method ≡ codes "GET") ⊎ (q.method ≡ codes "HEAD") → is_delta q ≡ true → cursor_at (drop (length deltas) q.target) ≡ o
    → cursor_asked (delta_route o) ≡ Some cursor → AsksDelta q cursor
cursor_asks q cursor None method from named is = absurd (none-some cursor is)
cursor_asks q cursor (Some c) method from named is = subst (AsksDelta q) (same_Some _ _ is) (named_asks q c method from named)

asks_delta : (q : Request) (cursor : Option Cursor) → route_of q ≡ Delta cursor → AsksDelta q cursor
asks_delta q cursor is = on fits.1
  where
    fits : IsDeltaRoute (not (is_get q) && not (is_head q)) (is_whole_delta q) (is_delta q) (delta_route (cursor_at (drop (length deltas) q.target))) cursor
    fits = route_is_delta q cursor is

    method : (q.method ≡ codes "GET") ⊎ (q.method ≡ codes "HEAD")
    method = allowed_method q (is_get q) (is_head q) refl refl fits.0

    on : ((is_whole_delta q ≡ true) × (None ≡ cursor)) ⊎ ((is_delta q ≡ true) × (cursor_asked (delta_route (cursor_at (drop (length deltas) q.target))) ≡ Some cursor)) → AsksDelta q cursor
    on (inl whole) = subst (AsksDelta q) whole.1 (record { method = method; fits = tt; target = (bytes_eq-Decides q.target (codes "/delta")).0 whole.0 })
    on (inr from) = cursor_asks q cursor (cursor_at (drop (length deltas) q.target)) method from.0 refl from.1

pub delta_asked : (q : Request) (cursor : Option Cursor) → (route_of q ≡ Delta cursor) ↔ AsksDelta q cursor
delta_asked q cursor = (asks_delta q cursor, gets_delta q cursor)
