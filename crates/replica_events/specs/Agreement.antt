-- When replicas agree: the same harvests, the same TimeMaps, the same replies, and redirects to nearest mementos.
use Rattle.std.specs.Prelude.{◌≡◌, ℕ, ◌↔◌, ◌==◌, ◌||◌, nat_lt, if◌then◌else◌, List, [], length, Contains, Option, Some}
use Rattle.std.specs.Prelude.{None, Ok}
use Rattle.memento_sets.specs.Sets as set
use Rattle.harvest_lattice.specs.Knowledge.{Harvested, shown}
use Rattle.timemap_writer.specs.Pages.{pages}
use Rattle.timegate.specs.declared.reply.Reply.{Reply}
use Rattle.timegate.specs.declared.request.Request.{Request}
use Rattle.timegate.specs.declared.route.Route.TheVariants.{TimeGate, TimeMap, Page}
use Rattle.timegate.specs.Route.{IsOfTaken, route_of, is_head}
use Rattle.timegate.specs.Reply.{timemap_of, page_of}
use Rattle.timegate.specs.Redirect.{Redirects, IsGateReply}
use Rattle.replica_events.specs.declared.event.Event.TheVariants.{Ask}
use Rattle.replica_events.specs.declared.event.Said.TheVariants.{Replied}
use Rattle.replica_events.specs.World.{Knowledge, World, Replica, Step, replica}

-- the same harvests, in whatever order and however often
abbrev pub SameHarvests : Knowledge → Knowledge → Type 0
SameHarvests known other = (h : Harvested) → Contains known h ↔ Contains other h

-- the replica of this number is there, and has taken these harvests since its last restart
abbrev pub HasTaken : World → ℕ → Knowledge → Type 0
HasTaken world i known = (r : Replica) × (replica world i ≡ Some r) × (r.taken ≡ known)

-- the replica of this number gives this reply if it is asked
pub record Gives (base : List ℕ) (world : World) (i : ℕ) (q : Request) (r : Reply) : Type 0 where
  pub next : World
  pub asked : Step base world (Ask i q) (Ok (Replied r)) next

-- the TimeMap of an original, or of a long one the index of its pages, if any memento of it is shown
abbrev pub timemap_at : List ℕ → Knowledge → List ℕ → Option (List ℕ)
timemap_at base known original =
    if length (set.items (shown known original)) == 0 then None else Some (timemap_of base known original)

-- the page of this number of an original's TimeMap, if it has one
abbrev pub page_at : List ℕ → Knowledge → List ℕ → ℕ → Option (List ℕ)
page_at base known original number =
    if number == 0 || nat_lt (pages (set.items (shown known original))) number then None
    else Some (page_of base known original number)

-- every request that asks for no delta has the same reply from both replicas, and so has every original the same
-- TimeMap and the same pages, or neither has them; a delta also tells of the merges by which the harvests came
pub record Agree (base : List ℕ) (world : World) (i j : ℕ) (known other : Knowledge) : Type 0 where
  pub replies : (q : Request) (r s : Reply) → IsOfTaken q → Gives base world i q r → Gives base world j q s → r ≡ s
  pub timemaps : (original : List ℕ) → timemap_at base known original ≡ timemap_at base other original
  pub pages : (original : List ℕ) (number : ℕ) → page_at base known original number ≡ page_at base other original number

-- a reply with the bytes of a TimeMap or of a page, which HEAD leaves out, or a 404 if there is none
abbrev pub Shows : Option (List ℕ) → Request → Reply → Type 0
Shows None q r = r.status ≡ 404
Shows (Some text) q r = (r.status ≡ 200) × (r.body ≡ (if is_head q then [] else text))

-- each reply to a request for the TimeMap of an original, or for a page of it
pub record ServesTimeMaps (base : List ℕ) (world : World) (i : ℕ) (known : Knowledge) : Type 0 where
  pub timemaps : (q : Request) (original : List ℕ) (r : Reply) → route_of q ≡ TimeMap original → Gives base world i q r
      → Shows (timemap_at base known original) q r
  pub pages : (q : Request) (original : List ℕ) (number : ℕ) (r : Reply) → route_of q ≡ Page number original
      → Gives base world i q r → Shows (page_at base known original number) q r

-- each reply to a request to the TimeGate of an original: a 404 if nothing is shown of it, or else a redirect to a
-- memento of its latest harvests, those not older than the greatest whole revision of their archive, than which none of
-- these is nearer
abbrev pub ServesTimeGates : List ℕ → World → ℕ → Knowledge → Type 0
ServesTimeGates base world i known =
    (q : Request) (original : List ℕ) (asked : Option ℕ) (r : Reply) → route_of q ≡ TimeGate original asked
    → Gives base world i q r → IsGateReply known original asked r

-- a reply to a request to the TimeGate of an original, that names a memento of its latest harvests than which none of
-- these is nearer
pub record NamesNearest (known : Knowledge) (q : Request) (r : Reply) : Type 0 where
  pub original : List ℕ
  pub asked : Option ℕ
  pub route : route_of q ≡ TimeGate original asked
  pub redirects : Redirects known original asked r

-- each redirect
abbrev pub RedirectsWell : List ℕ → World → ℕ → Knowledge → Type 0
RedirectsWell base world i known =
    (q : Request) (r : Reply) → Gives base world i q r → r.status ≡ 302 → NamesNearest known q r
