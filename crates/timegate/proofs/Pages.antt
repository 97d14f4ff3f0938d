-- Which requests ask for pages of TimeMaps.
use Rattle.std.proofs.Common.{◌≡◌, ◌⊎◌, ℕ, ◌<◌, ◌^◌, ◌++◌, append_assoc, ◌&&◌, Bool, true, false, not, List, [], ◌∷◌, drop, length, Option, Some, None, refl, ap, sym, subst, ◌∙◌, inl, inr}
use Rattle.std.specs.Prelude.{◌↔◌, codes, nat_eq}
use Rattle.std.specs.List.{starts_with}
use Rattle.std.specs.Option.{option_map}
use Rattle.std.specs.Fmt.{decimal}
use Rattle.std.proofs.lemmas.Bool.{cases_Bool}
use Rattle.std.proofs.lemmas.Bool.Decides.{Decides-eqb}
use Rattle.std.proofs.lemmas.Option.{none-some, same_Some}
use Rattle.std.proofs.lemmas.Slice.Eq.{starts_is}
use Rattle.memento_time.specs.SecondOf.{asked_of}
use Rattle.text_fields.specs.Decimals.{number_of}
use Rattle.text_fields.specs.Parts.{parts_at}
use Rattle.text_fields.proofs.DecimalLemmas.{number_is}
use Rattle.text_fields.proofs.PartLemmas.{parts_are}
use Rattle.replica_exchange.specs.declared.cursor.Cursor.{Cursor}
use Rattle.timegate.specs.declared.request.Request.{Request}
use Rattle.timegate.specs.declared.route.Route.{Route}
use Rattle.timegate.specs.declared.route.Route.TheVariants.{BadMethod, State, Delta, NoRoute, BadOriginal, BadDatetime, TimeGate, TimeMap, Page}
use Rattle.timegate.specs.Route.{is_get, is_head, is_state, is_whole_delta, is_delta, is_timegate, is_timemap, timemaps, page_part, slash}
use Rattle.timegate.specs.Route.{original_at, delta_route, datetime_route, timegate_route, original_route, number_and_rest, listing_route}
use Rattle.timegate.specs.Route.{map_route, route_of, AsksPage}
use Rattle.timegate.proofs.Promises.{asking, at_target, first_of, page_at, page_read}
use Rattle.timegate.proofs.Deltas.{allowed_method}

-- ---- who asks for a page gets it

head_page_at : (asked : List (List ℕ)) (bytes : List ℕ)
    → route_of (asking (codes "HEAD") (codes "/timemap/link/page/" ++ bytes) asked) ≡ listing_route (number_and_rest (parts_at slash bytes)) (page_part ++ bytes)
unfolding route_of
head_page_at asked bytes = refl

page_asked_at : (method bytes : List ℕ) (asked : List (List ℕ)) → (method ≡ codes "GET") ⊎ (method ≡ codes "HEAD")
    → route_of (asking method (codes "/timemap/link/page/" ++ bytes) asked) ≡ listing_route (number_and_rest (parts_at slash bytes)) (page_part ++ bytes)
page_asked_at method bytes asked (inl get) = ap (λ (m : List ℕ). route_of (asking m (codes "/timemap/link/page/" ++ bytes) asked)) get ∙ page_at asked bytes
page_asked_at method bytes asked (inr head) = ap (λ (m : List ℕ). route_of (asking m (codes "/timemap/link/page/" ++ bytes) asked)) head ∙ head_page_at asked bytes

gets_page : (q : Request) (number : ℕ) (original : List ℕ) → AsksPage q number original → route_of q ≡ Page number original
gets_page q number original asks =
    let bytes = decimal number ++ slash ∷ asks.named in
    at_target q q.method (codes "/timemap/link/page/" ++ bytes) refl (asks.target ∙ append_assoc (codes "/timemap/link/page/") (decimal number) (slash ∷ asks.named))
    ∙ page_asked_at q.method bytes q.asked asks.method
    ∙ ap (λ (page : Option (ℕ × List ℕ)). listing_route page (page_part ++ bytes)) (page_read number asks.named asks.fits)
    ∙ ap (original_route (Page number)) asks.names

-- ---- and nobody else does

abbrev page_asked : Route → Option (ℕ × List ℕ)
page_asked BadMethod = None
page_asked State = None
page_asked (Delta cursor) = None
page_asked NoRoute = None
page_asked BadOriginal = None
page_asked BadDatetime = None
page_asked (TimeGate original asked) = None
page_asked (TimeMap original) = None
page_asked (Page number original) = Some (number, original)

delta_asks_none : (cursor : Option Cursor) → page_asked (delta_route cursor) ≡ None
delta_asks_none None = refl
delta_asks_none (Some cursor) = refl

gate_asks_none : (asked : List (List ℕ)) (original : Option (List ℕ)) → page_asked (original_route (timegate_route asked) original) ≡ None
gate_asks_none asked None = refl
gate_asks_none [] (Some original) = refl
gate_asks_none (value ∷ []) (Some original) = dated (asked_of value)
  where
    dated : (second : Option ℕ) → page_asked (datetime_route original second) ≡ None
    dated None = refl
    dated (Some second) = refl
gate_asks_none (value ∷ next ∷ values) (Some original) = refl

first_page : (refused state whole from gate map_here : Bool) (delta gate_route map_route : Route) (page : ℕ × List ℕ) → page_asked delta ≡ None → page_asked gate_route ≡ None
    → page_asked (first_of refused state whole from gate map_here delta gate_route map_route) ≡ Some page → (refused ≡ false) × (map_here ≡ true) × (page_asked map_route ≡ Some page)
first_page true state whole from gate map_here delta gate_route map_route page deltas gates is = absurd (none-some page is)
first_page false true whole from gate map_here delta gate_route map_route page deltas gates is = absurd (none-some page is)
first_page false false true from gate map_here delta gate_route map_route page deltas gates is = absurd (none-some page is)
first_page false false false true gate map_here delta gate_route map_route page deltas gates is = absurd (none-some page (sym deltas ∙ is))
first_page false false false false true map_here delta gate_route map_route page deltas gates is = absurd (none-some page (sym gates ∙ is))
first_page false false false false false true delta gate_route map_route page deltas gates is = (refl, refl, is)
first_page false false false false false false delta gate_route map_route page deltas gates is = absurd (none-some page is)

route_is_page : (q : Request) (page : ℕ × List ℕ) → page_asked (route_of q) ≡ Some page
    → ((not (is_get q) && not (is_head q)) ≡ false) × (is_timemap q ≡ true) × (page_asked (map_route (drop (length timemaps) q.target)) ≡ Some page)
unfolding route_of
route_is_page q page is =
    first_page (not (is_get q) && not (is_head q)) (is_state q) (is_whole_delta q) (is_delta q) (is_timegate q) (is_timemap q) _ _ (map_route (drop (length timemaps) q.target)) page
    (delta_asks_none _) (gate_asks_none q.asked _) is

-- the number and the original's text that bytes begin with
record Named (bytes : List ℕ) (number : ℕ) (original : List ℕ) : Type 0 where
  fits : number < 2 ^ 64
  named : List ℕ
  names : original_at named ≡ Some original
  whole : bytes ≡ page_part ++ (decimal number ++ slash ∷ named)

whole_asks_none : (original : Option (List ℕ)) (page : ℕ × List ℕ) → page_asked (original_route TimeMap original) ≡ Some page → ⊥
whole_asks_none None page is = none-some page is
whole_asks_none (Some original) page is = none-some page is

page_is : (k : ℕ) (found : Option (List ℕ)) (number : ℕ) (original : List ℕ) → page_asked (original_route (Page k) found) ≡ Some (number, original) → (k ≡ number) × (found ≡ Some original)
page_is k None number original is = absurd (none-some (number, original) is)
page_is k (Some o) number original is = let same = same_Some (k, o) (number, original) is in (ap (λ (p : ℕ × List ℕ). p.0) same, ap (λ (p : ℕ × List ℕ). Some p.1) same)

read_named : (bytes rest front back : List ℕ) (read : Option ℕ) (number : ℕ) (original : List ℕ) → bytes ≡ page_part ++ rest → rest ≡ front ++ slash ∷ back → number_of front ≡ read
    → page_asked (listing_route (option_map (λ (k : ℕ). (k, back)) read) bytes) ≡ Some (number, original) → Named bytes number original
read_named bytes rest front back None number original begins split reads is = absurd (whole_asks_none (original_at bytes) (number, original) is)
read_named bytes rest front back (Some k) number original begins split reads is =
    let page = page_is k (original_at back) number original is in
    let digits = (number_is front k).0 reads in
    record {
      fits = subst (λ (n : ℕ). n < 2 ^ 64) page.0 digits.0;
      named = back;
      names = page.1;
      whole = begins ∙ ap (λ (t : List ℕ). page_part ++ t) (split ∙ ap (λ (t : List ℕ). t ++ slash ∷ back) (digits.1 ∙ ap decimal page.0));
    }

split_named : (bytes rest : List ℕ) (parts : Option (List ℕ × List ℕ)) (number : ℕ) (original : List ℕ) → bytes ≡ page_part ++ rest → parts_at slash rest ≡ parts
    → page_asked (listing_route (number_and_rest parts) bytes) ≡ Some (number, original) → Named bytes number original
split_named bytes rest None number original begins at is = absurd (whole_asks_none (original_at bytes) (number, original) is)
split_named bytes rest (Some p) number original begins at is = read_named bytes rest p.0 p.1 (number_of p.0) number original begins ((parts_are slash rest p).0 at).1 refl is

map_named : (bytes : List ℕ) (number : ℕ) (original : List ℕ) → page_asked (map_route bytes) ≡ Some (number, original) → Named bytes number original
map_named bytes number original is =
    elim (cases_Bool (starts_with nat_eq bytes page_part)) [
      | inl begins ↦
          let whole = (starts_is Decides-eqb bytes page_part (starts_with nat_eq bytes page_part) refl).0 begins in
          split_named bytes (drop (length page_part) bytes) (parts_at slash (drop (length page_part) bytes)) number original whole refl (rw begins at is)
      | inr other ↦ absurd (whole_asks_none (original_at bytes) (number, original) (rw other at is))
    ]

asks_page : (q : Request) (number : ℕ) (original : List ℕ) → route_of q ≡ Page number original → AsksPage q number original
asks_page q number original is =
    let fits = route_is_page q (number, original) (ap page_asked is) in
    let bytes = drop (length timemaps) q.target in
    let page = map_named bytes number original fits.2 in
    let whole : q.target ≡ timemaps ++ bytes = (starts_is Decides-eqb q.target timemaps (is_timemap q) refl).0 fits.1 in
    record {
      method = allowed_method q (is_get q) (is_head q) refl refl fits.0;
      fits = page.fits;
      named = page.named;
      names = page.names;
      target = whole ∙ ap (λ (t : List ℕ). timemaps ++ t) page.whole ∙ sym (append_assoc (codes "/timemap/link/page/") (decimal number) (slash ∷ page.named));
    }

pub page_asked_for : (q : Request) (number : ℕ) (original : List ℕ) → (route_of q ≡ Page number original) ↔ AsksPage q number original
page_asked_for q number original = (asks_page q number original, gets_page q number original)
