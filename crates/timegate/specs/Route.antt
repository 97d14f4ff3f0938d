-- What a request asks for: the TimeGate or the TimeMap of an original, a page of the TimeMap, the state bytes, a delta,
-- or the reason that it is refused.
use Rattle.std.specs.Prelude.{◌≡◌, ℕ, Bool, not, ◌&&◌, List, [], ◌∷◌, Option, None, Some, drop, length, codes, bytes_eq}
use Rattle.std.specs.Prelude.{◌<◌, ◌^◌, ◌++◌, ◌⊎◌, IfSome, nat_eq, if◌then◌else◌}
use Rattle.std.specs.List.{starts_with}
use Rattle.std.specs.Option.{option_map}
use Rattle.std.specs.Str.{is_utf8}
use Rattle.std.specs.Fmt.{decimal}
use Rattle.memento_time.specs.SecondOf.{asked_of}
use Rattle.text_fields.specs.Decimals.{number_of}
use Rattle.text_fields.specs.Parts.{parts_at}
use Rattle.url_texts.specs.Followed.{IsFollowed}
use Rattle.timemap_reader.specs.Original.{original_of}
use Rattle.replica_exchange.specs.declared.cursor.Cursor.{Cursor}
use Rattle.timegate.specs.declared.request.Request.{Request}
use Rattle.timegate.specs.declared.route.Route.{Route}
use Rattle.timegate.specs.declared.route.Route.TheVariants.{BadMethod, State, NoRoute, BadOriginal, BadDatetime}
use Rattle.timegate.specs.declared.route.Route.TheVariants.{Delta, TimeGate, TimeMap, Page}

-- the method is GET, case-sensitive
abbrev pub is_get : Request → Bool
is_get q = bytes_eq q.method (codes "GET")

-- the method is HEAD, case-sensitive
abbrev pub is_head : Request → Bool
is_head q = bytes_eq q.method (codes "HEAD")

-- where the state bytes stand, which peers fetch
abbrev pub is_state : Request → Bool
is_state q = bytes_eq q.target (codes "/state")

-- where the delta from no cursor stands, which peers fetch
abbrev pub is_whole_delta : Request → Bool
is_whole_delta q = bytes_eq q.target (codes "/delta")

-- where the deltas from cursors stand, each followed by its cursor
abbrev pub deltas : List ℕ
deltas = codes "/delta/"

-- the target is to be that of a delta from a cursor
abbrev pub is_delta : Request → Bool
is_delta q = starts_with nat_eq q.target deltas

-- the byte between the numbers of a cursor
abbrev pub slash : ℕ
slash = 47

-- the cursor of two numbers, if both can be read
abbrev pub cursor_of : Option ℕ → Option ℕ → Option Cursor
cursor_of None number = None
cursor_of (Some incarnation) None = None
cursor_of (Some incarnation) (Some number) = Some (record { incarnation = incarnation; number = number })

-- the cursor of two parts, if both are decimals of 64 bits
abbrev pub cursor_in : Option (List ℕ × List ℕ) → Option Cursor
cursor_in None = None
cursor_in (Some parts) = cursor_of (number_of parts.0) (number_of parts.1)

-- the cursor that bytes name: its incarnation, a slash, and its number
abbrev pub cursor_at : List ℕ → Option Cursor
cursor_at bytes = cursor_in (parts_at slash bytes)

-- a delta from a cursor, if there is one
abbrev pub delta_route : Option Cursor → Route
delta_route None = NoRoute
delta_route (Some cursor) = Delta (Some cursor)

-- where TimeGates stand, each followed by its original
abbrev pub timegates : List ℕ
timegates = codes "/timegate/"

-- where TimeMaps in link-format stand, each followed by its original
abbrev pub timemaps : List ℕ
timemaps = codes "/timemap/link/"

-- the target is a TimeGate's
abbrev pub is_timegate : Request → Bool
is_timegate q = starts_with nat_eq q.target timegates

-- the target is a TimeMap's
abbrev pub is_timemap : Request → Bool
is_timemap q = starts_with nat_eq q.target timemaps

-- the original that bytes name: they are text, and it is one
abbrev pub original_at : List ℕ → Option (List ℕ)
original_at bytes = if is_utf8 bytes then original_of bytes else None

-- a TimeGate at the second that a value asks for, if it can be read; a date before 1970 asks for the first second
abbrev pub datetime_route : List ℕ → Option ℕ → Route
datetime_route original None = BadDatetime
datetime_route original (Some second) = TimeGate original (Some second)

-- a TimeGate, by the values of Accept-Datetime: none, one that can be read, or a refusal (RFC 7089, sections 2.1.1 and
-- 4.5.3)
abbrev pub timegate_route : List (List ℕ) → List ℕ → Route
timegate_route [] original = TimeGate original None
timegate_route (value ∷ []) original = datetime_route original (asked_of value)
timegate_route (value ∷ next ∷ values) original = BadDatetime

-- what stands at an original, if there is one
abbrev pub original_route : (List ℕ → Route) → Option (List ℕ) → Route
original_route route None = BadOriginal
original_route route (Some original) = route original

-- the original that is asked about, if one is
abbrev pub original_in : Route → Option (List ℕ)
original_in BadMethod = None
original_in State = None
original_in (Delta cursor) = None
original_in NoRoute = None
original_in BadOriginal = None
original_in BadDatetime = None
original_in (TimeGate original asked) = Some original
original_in (TimeMap original) = Some original
original_in (Page number original) = Some original

-- an original that is asked about: it names itself, begins with `http://` or `https://`, and has no fragment
pub record IsAsked (original : List ℕ) : Type 0 where
  pub itself : original_at original ≡ Some original
  pub followed : IsFollowed original

-- what the pages of a TimeMap have behind it, each followed by its number, a slash and the original
abbrev pub page_part : List ℕ
page_part = codes "page/"

-- the number before a slash, if it is a decimal of 64 bits, and what stands behind it
abbrev pub number_and_rest : Option (List ℕ × List ℕ) → Option (ℕ × List ℕ)
number_and_rest None = None
number_and_rest (Some parts) = option_map (λ number. (number, parts.1)) (number_of parts.0)

-- the number of a page and what stands behind it, if bytes begin with these
abbrev pub page_in : List ℕ → Option (ℕ × List ℕ)
page_in bytes =
    if starts_with nat_eq bytes page_part
    then number_and_rest (parts_at slash (drop (length page_part) bytes))
    else None

-- a page of a TimeMap, if bytes begin with its number, and else the TimeMap of the original that they name
abbrev pub listing_route : Option (ℕ × List ℕ) → List ℕ → Route
listing_route None bytes = original_route TimeMap (original_at bytes)
listing_route (Some page) bytes = original_route (Page page.0) (original_at page.1)

-- by what stands behind `/timemap/link/`
abbrev pub map_route : List ℕ → Route
map_route bytes = listing_route (page_in bytes) bytes

-- the first of these that fits
unfoldable pub route_of : Request → Route
route_of q =
    if not (is_get q) && not (is_head q) then BadMethod
    else if is_state q then State
    else if is_whole_delta q then Delta None
    else if is_delta q then delta_route (cursor_at (drop (length deltas) q.target))
    else if is_timegate q then original_route (timegate_route q.asked) (original_at (drop (length timegates) q.target))
    else if is_timemap q then map_route (drop (length timemaps) q.target)
    else NoRoute

-- the target of the delta from a cursor, or from none
abbrev pub delta_target : Option Cursor → List ℕ
delta_target None = codes "/delta"
delta_target (Some c) = deltas ++ decimal c.incarnation ++ slash ∷ decimal c.number

-- its numbers have 64 bits
abbrev pub IsCursor : Cursor → Type 0
IsCursor c = (c.incarnation < 2 ^ 64) × (c.number < 2 ^ 64)

-- a GET or HEAD of the target of this delta
pub record AsksDelta (q : Request) (cursor : Option Cursor) : Type 0 where
  pub method : (q.method ≡ codes "GET") ⊎ (q.method ≡ codes "HEAD")
  pub fits : IfSome cursor IsCursor
  pub target : q.target ≡ delta_target cursor

-- a reply follows from the harvests that were taken, and from nothing else that a replica keeps
abbrev pub IsOfTaken : Request → Type 0
IsOfTaken q = (cursor : Option Cursor) → ¬ (route_of q ≡ Delta cursor)

-- a GET or HEAD of the target of this page: its number has 64 bits and is written as its decimal, and what stands
-- behind it names the original
pub record AsksPage (q : Request) (number : ℕ) (original : List ℕ) : Type 0 where
  pub method : (q.method ≡ codes "GET") ⊎ (q.method ≡ codes "HEAD")
  pub fits : number < 2 ^ 64
  pub named : List ℕ
  pub names : original_at named ≡ Some original
  pub target : q.target ≡ codes "/timemap/link/page/" ++ decimal number ++ slash ∷ named
