-- What a client may rely on, by what is asked for.
use Rattle.std.proofs.Common.{◌≡◌, ℕ, ◌<◌, ◌^◌, ◌++◌, ◌&&◌, ◌||◌, ◌==◌, nat_lt, inl, inr, Bool, true, false, not, length, drop, List, [], ◌∷◌, Option}
use Rattle.std.proofs.Common.{Some, None, refl, ap, append_assoc, sym, subst, ◌∙◌, arith}
use Rattle.std.specs.Prelude.{⊤, IfSome, codes, nat_eq, if◌then◌else◌}
use Rattle.std.specs.List.{starts_with}
use Rattle.std.specs.Option.{option_map}
use Rattle.std.specs.Fmt.{decimal}
use Rattle.std.proofs.lemmas.List.{append_cancel_left}
use Rattle.std.proofs.lemmas.Bool.{true≢false, cases_Bool}
use Rattle.std.proofs.lemmas.Bool.Decides.{Decides-eqb}
use Rattle.std.proofs.lemmas.Slice.Eq.{bytes_eq-Decides, starts_is}
use Rattle.memento_time.specs.declared.mementos.Memento.{Memento}
use Rattle.memento_time.specs.SecondOf.{asked_of}
use Rattle.text_fields.specs.Decimals.{number_of}
use Rattle.text_fields.specs.Parts.{parts_at}
use Rattle.text_fields.proofs.DecimalLemmas.{decimal_lacks, number_is}
use Rattle.text_fields.proofs.PartLemmas.{parts_are}
use Rattle.url_texts.specs.Followed.{begins_on_web}
use Rattle.memento_sets.specs.Sets as set
use Rattle.memento_sets.specs.MementoSets.{Mementos}
use Rattle.harvest_lattice.specs.Knowledge.{shown_of}
use Rattle.replica_exchange.specs.declared.cursor.Cursor.{Cursor}
use Rattle.replica_exchange.specs.Stamps.{StampedState}
use Rattle.timemap_writer.specs.TimeMap.{timegate_address, timemap_address, gate_links}
use Rattle.timemap_writer.specs.Pages.{pages, page_path, page_address}
use Rattle.timegate.specs.declared.reply.Reply.{Reply}
use Rattle.timegate.specs.declared.reply.Header.TheVariants.{Allow, Vary, Location, Link, ContentType}
use Rattle.timegate.specs.declared.request.Request.{Request}
use Rattle.timegate.specs.declared.route.Route.{Route}
use Rattle.timegate.specs.declared.route.Route.TheVariants.{BadMethod, State, Delta, NoRoute, BadOriginal, BadDatetime, TimeGate, TimeMap, Page}
use Rattle.timegate.specs.Route.{is_get, is_head, is_state, is_timegate, is_timemap, is_whole_delta, is_delta, deltas, timegates, timemaps, slash}
use Rattle.timegate.specs.Route.{page_part, IsAsked, original_at, original_in, datetime_route, delta_route, timegate_route, original_route, number_and_rest}
use Rattle.timegate.specs.Route.{page_in, listing_route, map_route, route_of}
use Rattle.timegate.specs.Reply.{Headers, reply_at, reply_of, redirect, choice_at}
use Rattle.timegate.specs.Served.{IsServed}
use Rattle.timegate.specs.Promises.{as_get, without_body, vary_values, AreInOrder}

-- ---- HEAD

abbrev made : ℕ → Headers → List ℕ → Reply
made status headers body = record { status = status; headers = headers; body = body }

bare : (b : Bool) → b ≡ true → (status : ℕ) (headers : Headers) (body : List ℕ) → made status headers (if b then [] else body) ≡ made status headers []
bare true is status headers body = refl
bare false is status headers body = absurd (true≢false (sym is))

either_bare : (b : Bool) (x y other_x other_y : Reply) → x ≡ without_body other_x → y ≡ without_body other_y → (if b then x else y) ≡ without_body (if b then other_x else other_y)
either_bare true x y other_x other_y left right = left
either_bare false x y other_x other_y left right = right

redirect_bare : (base : List ℕ) (q : Request) → is_head q ≡ true → (original : List ℕ) (mementos : Mementos) (c : Option Memento)
    → redirect base q original mementos c ≡ without_body (redirect base (as_get q) original mementos c)
redirect_bare base q is original mementos None = bare (is_head q) is _ _ _
redirect_bare base q is original mementos (Some m) = bare (is_head q) is _ _ _

routed_bare : (base : List ℕ) (shows : List ℕ → Mementos) (s : StampedState) (q : Request) → is_head q ≡ true → (route : Route)
    → reply_at base shows s q route ≡ without_body (reply_at base shows s (as_get q) route)
routed_bare base shows s q is BadMethod = bare (is_head q) is _ _ _
routed_bare base shows s q is State = bare (is_head q) is _ _ _
routed_bare base shows s q is (Delta cursor) = bare (is_head q) is _ _ _
routed_bare base shows s q is NoRoute = bare (is_head q) is _ _ _
routed_bare base shows s q is BadOriginal = bare (is_head q) is _ _ _
routed_bare base shows s q is BadDatetime = bare (is_head q) is _ _ _
routed_bare base shows s q is (TimeGate original asked) = redirect_bare base q is original (shows original) (choice_at (shows original) asked)
routed_bare base shows s q is (TimeMap original) =
    either_bare (length (set.items (shows original)) == 0) _ _ _ _ (bare (is_head q) is _ _ _) (bare (is_head q) is _ _ _)
routed_bare base shows s q is (Page number original) =
    either_bare (length (set.items (shows original)) == 0) _ _ _ _ (bare (is_head q) is _ _ _)
    (either_bare (number == 0 || nat_lt (pages (set.items (shows original))) number) _ _ _ _ (bare (is_head q) is _ _ _) (bare (is_head q) is _ _ _))

allowed : (g h : Bool) → h ≡ true → (refused route : Route) → (if not g && not h then refused else route) ≡ route
allowed true h is refused route = refl
allowed false true is refused route = refl
allowed false false is refused route = absurd (true≢false (sym is))

same_route : (q : Request) → is_head q ≡ true → route_of q ≡ route_of (as_get q)
unfolding route_of
same_route q is = allowed (is_get q) (is_head q) is _ _

pub head_is_bare : (base : List ℕ) (s : StampedState) (q : Request) → q.method ≡ codes "HEAD" → reply_of base s q ≡ without_body (reply_of base s (as_get q))
unfolding reply_of
head_is_bare base s q is =
    let head : is_head q ≡ true = (bytes_eq-Decides q.method (codes "HEAD")).1 is in
    ap (λ (route : Route). reply_at base (shown_of s.entries) s q route) (same_route q head)
    ∙ routed_bare base (shown_of s.entries) s q head (route_of (as_get q))

-- ---- the headers

-- a target that is no TimeGate's
abbrev Elsewhere : Request → Route → Type 0
Elsewhere q BadMethod = ⊤
Elsewhere q State = is_timegate q ≡ false
Elsewhere q (Delta cursor) = is_timegate q ≡ false
Elsewhere q NoRoute = ⊤
Elsewhere q BadOriginal = ⊤
Elsewhere q BadDatetime = ⊤
Elsewhere q (TimeGate original asked) = ⊤
Elsewhere q (TimeMap original) = is_timegate q ≡ false
Elsewhere q (Page number original) = is_timegate q ≡ false

gate_elsewhere : (q : Request) (original : List ℕ) (second : Option ℕ) → Elsewhere q (datetime_route original second)
gate_elsewhere q original None = tt
gate_elsewhere q original (Some second) = tt

gates_elsewhere : (q : Request) (asked : List (List ℕ)) (original : Option (List ℕ)) → Elsewhere q (original_route (timegate_route asked) original)
gates_elsewhere q asked None = tt
gates_elsewhere q [] (Some original) = tt
gates_elsewhere q (value ∷ []) (Some original) = gate_elsewhere q original (asked_of value)
gates_elsewhere q (value ∷ next ∷ values) (Some original) = tt

found_elsewhere : (q : Request) → is_timegate q ≡ false → (original : Option (List ℕ)) → Elsewhere q (original_route TimeMap original)
found_elsewhere q other None = tt
found_elsewhere q other (Some original) = other

page_elsewhere : (q : Request) → is_timegate q ≡ false → (number : ℕ) (original : Option (List ℕ)) → Elsewhere q (original_route (Page number) original)
page_elsewhere q other number None = tt
page_elsewhere q other number (Some original) = other

listing_elsewhere : (q : Request) → is_timegate q ≡ false → (page : Option (ℕ × List ℕ)) (bytes : List ℕ) → Elsewhere q (listing_route page bytes)
listing_elsewhere q other None bytes = found_elsewhere q other (original_at bytes)
listing_elsewhere q other (Some page) bytes = page_elsewhere q other page.0 (original_at page.1)

map_elsewhere : (q : Request) → is_timegate q ≡ false → (bytes : List ℕ) → Elsewhere q (map_route bytes)
map_elsewhere q other bytes = listing_elsewhere q other (page_in bytes) bytes

state_elsewhere : (q : Request) → is_state q ≡ true → is_timegate q ≡ false
state_elsewhere q is = ap (λ (target : List ℕ). starts_with nat_eq target timegates) ((bytes_eq-Decides q.target (codes "/state")).0 is)

whole_delta_elsewhere : (q : Request) → is_whole_delta q ≡ true → is_timegate q ≡ false
whole_delta_elsewhere q is = ap (λ (target : List ℕ). starts_with nat_eq target timegates) ((bytes_eq-Decides q.target (codes "/delta")).0 is)

other_front : (target : List ℕ) → starts_with nat_eq target deltas ≡ true → starts_with nat_eq target timegates ≡ false
other_front target is = ap (λ (t : List ℕ). starts_with nat_eq t timegates) ((starts_is Decides-eqb target deltas (starts_with nat_eq target deltas) refl).0 is)

delta_elsewhere : (q : Request) → is_timegate q ≡ false → (cursor : Option Cursor) → Elsewhere q (delta_route cursor)
delta_elsewhere q other None = tt
delta_elsewhere q other (Some cursor) = other

-- the first route that fits
abbrev pub first_of : Bool → Bool → Bool → Bool → Bool → Bool → Route → Route → Route → Route
first_of refused state whole from gate map_here delta_from_route gate_route map_route =
    if refused then BadMethod
    else if state then State
    else if whole then Delta None
    else if from then delta_from_route
    else if gate then gate_route
    else if map_here then map_route
    else NoRoute

first_fit : (q : Request) (refused state whole from gate map_here : Bool) (delta gate_route map_route : Route) → is_timegate q ≡ gate
    → (state ≡ true → is_timegate q ≡ false) → (whole ≡ true → is_timegate q ≡ false) → (from ≡ true → Elsewhere q delta) → Elsewhere q gate_route → (is_timegate q ≡ false → Elsewhere q map_route)
    → Elsewhere q (first_of refused state whole from gate map_here delta gate_route map_route)
first_fit q true state whole from gate map_here delta gate_route map_route is at_state at_whole at_delta gates maps = tt
first_fit q false true whole from gate map_here delta gate_route map_route is at_state at_whole at_delta gates maps = at_state refl
first_fit q false false true from gate map_here delta gate_route map_route is at_state at_whole at_delta gates maps = at_whole refl
first_fit q false false false true gate map_here delta gate_route map_route is at_state at_whole at_delta gates maps = at_delta refl
first_fit q false false false false true map_here delta gate_route map_route is at_state at_whole at_delta gates maps = gates
first_fit q false false false false false true delta gate_route map_route is at_state at_whole at_delta gates maps = maps is
first_fit q false false false false false false delta gate_route map_route is at_state at_whole at_delta gates maps = tt

elsewhere : (q : Request) → Elsewhere q (route_of q)
unfolding route_of
elsewhere q =
    first_fit q (not (is_get q) && not (is_head q)) (is_state q) (is_whole_delta q) (is_delta q) (is_timegate q) (is_timemap q) _ _ _ refl
    (state_elsewhere q) (whole_delta_elsewhere q) (λ is. delta_elsewhere q (other_front q.target is) _)
    (gates_elsewhere q q.asked _) (λ other. map_elsewhere q other (drop (length timemaps) q.target))

-- what stands in the header fields of a TimeGate's reply, or of another's
abbrev gate_values : Bool → List (List ℕ)
gate_values gate = if gate then codes "accept-datetime" ∷ [] else []

abbrev gate_fields : Bool → Headers
gate_fields gate = if gate then (Vary, codes "accept-datetime") ∷ [] else []

record Keeps (gate : Bool) (headers : Headers) : Type 0 where
  varied : vary_values headers ≡ gate_values gate
  ordered : AreInOrder headers

keeps_told : (gate : Bool) → Keeps gate (gate_fields gate ++ (ContentType, codes "text/plain") ∷ [])
keeps_told true = record { varied = refl; ordered = (omega arith, tt) }
keeps_told false = record { varied = refl; ordered = tt }

keeps_refused : (gate : Bool) → Keeps gate (((Allow, codes "GET, HEAD") ∷ []) ++ gate_fields gate ++ (ContentType, codes "text/plain") ∷ [])
keeps_refused true = record { varied = refl; ordered = (omega arith, (omega arith, tt)) }
keeps_refused false = record { varied = refl; ordered = (omega arith, tt) }

keeps_alone : (gate : Bool) → gate ≡ false → (kind : List ℕ) → Keeps gate ((ContentType, kind) ∷ [])
keeps_alone true other kind = absurd (true≢false other)
keeps_alone false other kind = record { varied = refl; ordered = tt }

keeps_either : (gate b : Bool) (x y : Reply) → Keeps gate x.headers → Keeps gate y.headers → Keeps gate (if b then x else y).headers
keeps_either gate true x y left right = left
keeps_either gate false x y left right = right

keeps_links : (gate : Bool) (uri links : List ℕ) → Keeps gate (gate_fields gate ++ (Location, uri) ∷ (Link, links) ∷ [])
keeps_links true uri links = record { varied = refl; ordered = (omega arith, (omega arith, tt)) }
keeps_links false uri links = record { varied = refl; ordered = (omega arith, tt) }

keeps_redirect : (base : List ℕ) (q : Request) (original : List ℕ) (mementos : Mementos) (c : Option Memento) → Keeps (is_timegate q) (redirect base q original mementos c).headers
keeps_redirect base q original mementos None = keeps_told (is_timegate q)
keeps_redirect base q original mementos (Some m) = keeps_links (is_timegate q) m.uri (gate_links base original (set.items mementos))

keeps_routed : (base : List ℕ) (shows : List ℕ → Mementos) (s : StampedState) (q : Request) (route : Route) → Elsewhere q route
    → Keeps (is_timegate q) (reply_at base shows s q route).headers
keeps_routed base shows s q BadMethod here = keeps_refused (is_timegate q)
keeps_routed base shows s q State here = keeps_alone (is_timegate q) here (codes "text/plain")
keeps_routed base shows s q (Delta cursor) here = keeps_alone (is_timegate q) here (codes "text/plain")
keeps_routed base shows s q NoRoute here = keeps_told (is_timegate q)
keeps_routed base shows s q BadOriginal here = keeps_told (is_timegate q)
keeps_routed base shows s q BadDatetime here = keeps_told (is_timegate q)
keeps_routed base shows s q (TimeGate original asked) here = keeps_redirect base q original (shows original) (choice_at (shows original) asked)
keeps_routed base shows s q (TimeMap original) here =
    keeps_either (is_timegate q) (length (set.items (shows original)) == 0) _ _ (keeps_told (is_timegate q)) (keeps_alone (is_timegate q) here (codes "application/link-format"))
keeps_routed base shows s q (Page number original) here =
    keeps_either (is_timegate q) (length (set.items (shows original)) == 0) _ _ (keeps_told (is_timegate q))
    (keeps_either (is_timegate q) (number == 0 || nat_lt (pages (set.items (shows original))) number) _ _ (keeps_told (is_timegate q))
    (keeps_alone (is_timegate q) here (codes "application/link-format")))

keeps : (base : List ℕ) (s : StampedState) (q : Request) → Keeps (is_timegate q) (reply_of base s q).headers
unfolding reply_of
keeps base s q = keeps_routed base (shown_of s.entries) s q (route_of q) (elsewhere q)

pub vary_once : (base : List ℕ) (s : StampedState) (q : Request) → vary_values (reply_of base s q).headers ≡ (if is_timegate q then codes "accept-datetime" ∷ [] else [])
vary_once base s q = (keeps base s q).varied

pub in_order : (base : List ℕ) (s : StampedState) (q : Request) → AreInOrder (reply_of base s q).headers
in_order base s q = (keeps base s q).ordered

-- ---- what stands at the addresses that are told

gate_at : (asked : List (List ℕ)) (original : List ℕ)
    → route_of (record { method = codes "GET"; target = codes "/timegate/" ++ original; asked = asked }) ≡ original_route (timegate_route asked) (original_at original)
unfolding route_of
gate_at asked original = refl

map_at : (asked : List (List ℕ)) (bytes : List ℕ)
    → route_of (record { method = codes "GET"; target = codes "/timemap/link/" ++ bytes; asked = asked }) ≡ map_route bytes
unfolding route_of
map_at asked bytes = refl

pub page_at : (asked : List (List ℕ)) (bytes : List ℕ)
    → route_of (record { method = codes "GET"; target = codes "/timemap/link/page/" ++ bytes; asked = asked }) ≡ listing_route (number_and_rest (parts_at slash bytes)) (page_part ++ bytes)
unfolding route_of
page_at asked bytes = refl

abbrev pub asking : List ℕ → List ℕ → List (List ℕ) → Request
asking method target asked = record { method = method; target = target; asked = asked }

pub at_target : (q : Request) (method target : List ℕ) → q.method ≡ method → q.target ≡ target → route_of q ≡ route_of (asking method target q.asked)
at_target q method target named same =
    ap (λ (m : List ℕ). route_of (asking m q.target q.asked)) named ∙ ap (λ (t : List ℕ). route_of (asking method t q.asked)) same

gate_served : (base original : List ℕ) (q : Request) → original_at original ≡ Some original → q.method ≡ codes "GET"
    → base ++ q.target ≡ timegate_address base original → route_of q ≡ timegate_route q.asked original
gate_served base original q names method address =
    let target : q.target ≡ codes "/timegate/" ++ original = append_cancel_left base q.target (codes "/timegate/" ++ original) (address ∙ append_assoc base (codes "/timegate/") original) in
    at_target q (codes "GET") (codes "/timegate/" ++ original) method target ∙ gate_at q.asked original ∙ ap (original_route (timegate_route q.asked)) names

pub front_is : (bytes front : List ℕ) → starts_with nat_eq bytes front ≡ true → (rest : List ℕ) × (bytes ≡ front ++ rest)
front_is bytes front is = (_, (starts_is Decides-eqb bytes front (starts_with nat_eq bytes front) refl).0 is)

-- an original that is asked about doesn't begin as a page's number does
no_page : (original : List ℕ) → begins_on_web original ≡ true → page_in original ≡ None
no_page original web =
    elim (cases_Bool (starts_with nat_eq original (codes "http://"))) [
      | inl plain ↦ ap page_in (front_is original (codes "http://") plain).1
      | inr other ↦ ap page_in (front_is original (codes "https://") (rw other at web)).1
    ]

map_served : (base original : List ℕ) (q : Request) → IsAsked original → q.method ≡ codes "GET"
    → base ++ q.target ≡ timemap_address base original → route_of q ≡ TimeMap original
map_served base original q is method address =
    let target : q.target ≡ codes "/timemap/link/" ++ original = append_cancel_left base q.target (codes "/timemap/link/" ++ original)
    (address ∙ append_assoc base (codes "/timemap/link/") original) in
    at_target q (codes "GET") (codes "/timemap/link/" ++ original) method target ∙ map_at q.asked original
    ∙ ap (λ (page : Option (ℕ × List ℕ)). listing_route page original) (no_page original is.followed.web) ∙ ap (original_route TimeMap) is.itself

-- the number of a page is read as it is written
pub page_read : (number : ℕ) (original : List ℕ) → number < 2 ^ 64 → number_and_rest (parts_at slash (decimal number ++ slash ∷ original)) ≡ Some (number, original)
page_read number original small =
    let parts = (parts_are slash (decimal number ++ slash ∷ original) (decimal number, original)).1 (decimal_lacks slash (omega arith) number small, refl) in
    let digits : number_of (decimal number) ≡ Some number = (number_is (decimal number) number).1 (small, refl) in
    ap number_and_rest parts ∙ ap (λ (n : Option ℕ). option_map (λ (k : ℕ). (k, original)) n) digits

page_served : (base original : List ℕ) (q : Request) (number : ℕ) → original_at original ≡ Some original → number < 2 ^ 64 → q.method ≡ codes "GET"
    → base ++ q.target ≡ page_address base original number → route_of q ≡ Page number original
page_served base original q number names small method address =
    let bytes = decimal number ++ slash ∷ original in
    let whole : page_path number ++ original ≡ codes "/timemap/link/page/" ++ bytes =
    append_assoc (codes "/timemap/link/page/" ++ decimal number) (codes "/") original ∙ append_assoc (codes "/timemap/link/page/") (decimal number) (codes "/" ++ original) in
    let target : q.target ≡ codes "/timemap/link/page/" ++ bytes = append_cancel_left base q.target (page_path number ++ original) (address ∙ append_assoc base (page_path number) original) ∙ whole in
    at_target q (codes "GET") (codes "/timemap/link/page/" ++ bytes) method target ∙ page_at q.asked bytes
    ∙ ap (λ (page : Option (ℕ × List ℕ)). listing_route page (page_part ++ bytes)) (page_read number original small) ∙ ap (original_route (Page number)) names

-- what stands there of an original that is asked about
pub served : (base original : List ℕ) → IsAsked original → IsServed base original
served base original is = record {
  timegate = λ q. gate_served base original q is.itself;
  timemap = λ q. map_served base original q is;
  page = λ q number small. page_served base original q number is.itself small;
}

-- and so of the original that a request asks about
pub asked_served : (base : List ℕ) (route other : Route) → route ≡ other → IfSome (original_in route) IsAsked → IfSome (original_in other) (IsServed base)
asked_served base route other same names =
    subst (λ (r : Route). IfSome (original_in r) (IsServed base)) same (each_served base (original_in route) names)
  where
    each_served : (base : List ℕ) (original : Option (List ℕ)) → IfSome original IsAsked → IfSome original (IsServed base)
    each_served base None names = tt
    each_served base (Some original) names = served base original names
