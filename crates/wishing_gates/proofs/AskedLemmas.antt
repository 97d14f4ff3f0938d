-- What a request wishes for, by the front of its target.
use Rattle.std.proofs.Common.{◌≡◌, ◌⊎◌, ℕ, Bool, true, false, not, ◌&&◌, ◌||◌, List, [], ◌∷◌, ◌++◌, length, drop, Option, None, Some, refl, sym, ap, ◌∙◌, inl, inr}
use Rattle.std.specs.Prelude.{codes, is_some, nat_eq, if◌then◌else◌}
use Rattle.std.specs.List.{starts_with}
use Rattle.std.proofs.lemmas.Bool.{cases_Bool, true≢false}
use Rattle.std.proofs.lemmas.Option.{none-some}
use Rattle.std.proofs.lemmas.Slice.Eq.{bytes_eq-Decides}
use Rattle.std.specs.Str.{is_utf8}
use Rattle.memento_time.specs.SecondOf.{asked_of}
use Rattle.timegate.specs.declared.request.Request.{Request}
use Rattle.timegate.specs.declared.route.Route.{Route}
use Rattle.timegate.specs.declared.route.Route.TheVariants.{BadMethod, State, Delta, NoRoute, TimeMap}
use Rattle.timegate.specs.Route.{IsAsked, cursor_at, datetime_route, delta_route, deltas, is_delta, is_get, is_head, is_state, is_timegate, is_timemap, is_whole_delta, listing_route}
use Rattle.timegate.specs.Route.{map_route, number_and_rest, original_at, original_route, page_in, page_part, route_of, slash, timegate_route, timegates, timemaps}
use Rattle.text_fields.specs.Parts.{parts_at}
use Rattle.timemap_reader.specs.Original.{original_of}
use Rattle.wish_list.specs.Asked.{IsRead}
use Rattle.replica_exchange.specs.declared.cursor.Cursor.{Cursor}
use Rattle.timegate.proofs.Promises.{asking, at_target, front_is}
use Rattle.wishing_gates.specs.Asked.{asked_in, gate_original, is_dated, is_page, list_in, listing_original}

-- a method that gates answer
abbrev Answered : Request → Type 0
Answered q = (q.method ≡ codes "GET") ⊎ (q.method ≡ codes "HEAD")

pub answered : (q : Request) → (is_get q || is_head q) ≡ true → Answered q
answered q h = elim (cases_Bool (is_get q)) [
  | inl get ↦ inl ((bytes_eq-Decides q.method (codes "GET")).0 get)
  | inr other ↦ inr ((bytes_eq-Decides q.method (codes "HEAD")).0 (ap (λ (b : Bool). b || is_head q) (sym other) ∙ h))
]

refused_at : (bad : Bool) (other : Route) → bad ≡ true → list_in (if bad then BadMethod else other) ≡ None
refused_at true other h = refl
refused_at false other h = absurd (true≢false (sym h))

neither : (a b : Bool) → (a || b) ≡ false → (not a && not b) ≡ true
neither true b h = absurd (true≢false h)
neither false true h = absurd (true≢false h)
neither false false h = refl

-- a method that they don't
pub refused : (q : Request) → (is_get q || is_head q) ≡ false → list_in (route_of q) ≡ None
unfolding route_of
refused q h = refused_at (not (is_get q) && not (is_head q)) _ (neither (is_get q) (is_head q) h)

other_at : (bad state whole delta gate map : Bool) (cursor : Option Cursor) (gate_there map_there : Route) → gate ≡ false → map ≡ false
    → list_in (if bad then BadMethod else if state then State else if whole then Delta None else if delta then delta_route cursor else if gate then gate_there
    else if map then map_there else NoRoute) ≡ None
other_at true state whole delta gate map cursor gate_there map_there g m = refl
other_at false true whole delta gate map cursor gate_there map_there g m = refl
other_at false false true delta gate map cursor gate_there map_there g m = refl
other_at false false false true gate map None gate_there map_there g m = refl
other_at false false false true gate map (Some cursor) gate_there map_there g m = refl
other_at false false false false true map cursor gate_there map_there g m = absurd (true≢false g)
other_at false false false false false true cursor gate_there map_there g m = absurd (true≢false m)
other_at false false false false false false cursor gate_there map_there g m = refl

-- elsewhere nothing is wished for
pub elsewhere : (q : Request) → is_timegate q ≡ false → is_timemap q ≡ false → list_in (route_of q) ≡ None
unfolding route_of
elsewhere q g m = other_at (not (is_get q) && not (is_head q)) (is_state q) (is_whole_delta q) (is_delta q) (is_timegate q) (is_timemap q)
    (cursor_at (drop (length deltas) q.target)) (original_route (timegate_route q.asked) (original_at (drop (length timegates) q.target)))
    (map_route (drop (length timemaps) q.target)) g m

get_gate : (asked : List (List ℕ)) (bytes : List ℕ) → route_of (asking (codes "GET") (codes "/timegate/" ++ bytes) asked) ≡ original_route (timegate_route asked) (original_at bytes)
unfolding route_of
get_gate asked bytes = refl

head_gate : (asked : List (List ℕ)) (bytes : List ℕ) → route_of (asking (codes "HEAD") (codes "/timegate/" ++ bytes) asked) ≡ original_route (timegate_route asked) (original_at bytes)
unfolding route_of
head_gate asked bytes = refl

get_map : (asked : List (List ℕ)) (bytes : List ℕ) → route_of (asking (codes "GET") (codes "/timemap/link/" ++ bytes) asked) ≡ map_route bytes
unfolding route_of
get_map asked bytes = refl

head_map : (asked : List (List ℕ)) (bytes : List ℕ) → route_of (asking (codes "HEAD") (codes "/timemap/link/" ++ bytes) asked) ≡ map_route bytes
unfolding route_of
head_map asked bytes = refl

gate_route : (q : Request) (bytes : List ℕ) → Answered q → q.target ≡ codes "/timegate/" ++ bytes → route_of q ≡ original_route (timegate_route q.asked) (original_at bytes)
gate_route q bytes (inl get) is = at_target q (codes "GET") (codes "/timegate/" ++ bytes) get is ∙ get_gate q.asked bytes
gate_route q bytes (inr head) is = at_target q (codes "HEAD") (codes "/timegate/" ++ bytes) head is ∙ head_gate q.asked bytes

map_route_of : (q : Request) (bytes : List ℕ) → Answered q → q.target ≡ codes "/timemap/link/" ++ bytes → route_of q ≡ map_route bytes
map_route_of q bytes (inl get) is = at_target q (codes "GET") (codes "/timemap/link/" ++ bytes) get is ∙ get_map q.asked bytes
map_route_of q bytes (inr head) is = at_target q (codes "HEAD") (codes "/timemap/link/" ++ bytes) head is ∙ head_map q.asked bytes

dated_at : (original : List ℕ) (second : Option ℕ) → list_in (datetime_route original second) ≡ (if is_some second then Some original else None)
dated_at original None = refl
dated_at original (Some second) = refl

gate_at : (asked : List (List ℕ)) (original : List ℕ) → list_in (timegate_route asked original) ≡ (if is_dated asked then Some original else None)
gate_at [] original = refl
gate_at (value ∷ []) original = dated_at original (asked_of value)
gate_at (value ∷ next ∷ values) original = refl

abbrev nothing : Option (List ℕ)
nothing = None

never : (b : Bool) → nothing ≡ (if b then nothing else nothing)
never true = refl
never false = refl

gate_in : (asked : List (List ℕ)) (named : Option (List ℕ)) → list_in (original_route (timegate_route asked) named) ≡ (if is_dated asked then named else None)
gate_in asked None = never (is_dated asked)
gate_in asked (Some original) = gate_at asked original

-- at a TimeGate
pub at_gate : (q : Request) (bytes : List ℕ) → Answered q → q.target ≡ codes "/timegate/" ++ bytes → list_in (route_of q) ≡ (if is_dated q.asked then original_at bytes else None)
at_gate q bytes method is = ap list_in (gate_route q bytes method is) ∙ gate_in q.asked (original_at bytes)

listed : (named : Option (List ℕ)) → list_in (original_route TimeMap named) ≡ named
listed None = refl
listed (Some original) = refl

-- at a TimeMap, and not at its pages
pub at_map : (q : Request) (bytes : List ℕ) → Answered q → q.target ≡ codes "/timemap/link/" ++ bytes → is_page q ≡ false → list_in (route_of q) ≡ original_at bytes
at_map q bytes method is page =
    let alone : starts_with nat_eq bytes (codes "page/") ≡ false = ap (λ (t : List ℕ). starts_with nat_eq t (codes "/timemap/link/page/")) (sym is) ∙ page in
    let none : page_in bytes ≡ None = ap (λ (b : Bool). if b then number_and_rest (parts_at slash (drop (length page_part) bytes)) else None) alone in
    ap list_in (map_route_of q bytes method is ∙ ap (λ (p : Option (ℕ × List ℕ)). listing_route p bytes) none) ∙ listed (original_at bytes)

page_asked : (page : Bool) (other : Option (List ℕ)) → page ≡ true → (if page then nothing else other) ≡ nothing
page_asked true other h = refl
page_asked false other h = absurd (true≢false (sym h))

no_page : (page : Bool) (other : Option (List ℕ)) → page ≡ false → (if page then nothing else other) ≡ other
no_page true other h = absurd (true≢false h)
no_page false other h = refl

pub asked-page : (q : Request) → is_page q ≡ true → asked_in q ≡ nothing
asked-page q page = page_asked (is_page q) (list_in (route_of q)) page

pub asked-refused : (q : Request) → is_page q ≡ false → (is_get q || is_head q) ≡ false → asked_in q ≡ nothing
asked-refused q page h = no_page (is_page q) (list_in (route_of q)) page ∙ refused q h

pub asked-gate : (q : Request) (named : List ℕ) → is_page q ≡ false → (is_get q || is_head q) ≡ true → is_timegate q ≡ true → named ≡ drop 10 q.target
    → asked_in q ≡ gate_original named q.asked
asked-gate q named page method gate is =
    let front = front_is q.target (codes "/timegate/") gate in
    let same : named ≡ front.0 = is ∙ ap (drop 10) front.1 in
    no_page (is_page q) (list_in (route_of q)) page ∙ (at_gate q front.0 (answered q method) front.1
    ∙ ap (λ (bytes : List ℕ). gate_original bytes q.asked) (sym same))

pub asked-map : (q : Request) (named : List ℕ) → is_page q ≡ false → (is_get q || is_head q) ≡ true → is_timemap q ≡ true → named ≡ drop 14 q.target
    → asked_in q ≡ original_at named
asked-map q named page method listing is =
    let front = front_is q.target (codes "/timemap/link/") listing in
    let same : named ≡ front.0 = is ∙ ap (drop 14) front.1 in
    no_page (is_page q) (list_in (route_of q)) page ∙ (at_map q front.0 (answered q method) front.1 page ∙ ap original_at (sym same))

pub asked-elsewhere : (q : Request) → is_page q ≡ false → is_timegate q ≡ false → is_timemap q ≡ false → asked_in q ≡ nothing
asked-elsewhere q page gate listing = no_page (is_page q) (list_in (route_of q)) page ∙ elsewhere q gate listing

listed_if : (listing : Bool) (other : Option (List ℕ)) → listing ≡ true → other ≡ (if listing then other else nothing)
listed_if true other h = refl
listed_if false other h = absurd (true≢false (sym h))

unlisted_if : (listing : Bool) (other : Option (List ℕ)) → listing ≡ false → nothing ≡ (if listing then other else nothing)
unlisted_if true other h = absurd (true≢false h)
unlisted_if false other h = refl

pub asked-listing : (q : Request) → is_page q ≡ false → (is_get q || is_head q) ≡ true → is_timegate q ≡ false → asked_in q ≡ listing_original q.target
asked-listing q page method gate = elim (cases_Bool (is_timemap q)) [
  | inl listing ↦ asked-map q (drop 14 q.target) page method listing refl ∙ listed_if (is_timemap q) (original_at (drop 14 q.target)) listing
  | inr other ↦ asked-elsewhere q page gate other ∙ unlisted_if (is_timemap q) (original_at (drop 14 q.target)) other
]

named_as_text : (is_text : Bool) (named : Option (List ℕ)) (original : List ℕ) → (if is_text then named else None) ≡ Some original → named ≡ Some original
named_as_text true named original is = is
named_as_text false named original is = absurd (none-some original is)

-- an original that is asked about is as `read_original` writes it
pub read_of_asked : (original : List ℕ) → IsAsked original → IsRead original
read_of_asked original asked = record { itself = named_as_text (is_utf8 original) (original_of original) original asked.itself }
