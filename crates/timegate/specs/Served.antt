-- What the service answers at the addresses that replies tell of an original.
use Rattle.std.specs.Prelude.{◌≡◌, ◌<◌, ◌^◌, ◌++◌, List, ℕ, codes}
use Rattle.timemap_writer.specs.TimeMap.{timegate_address, timemap_address}
use Rattle.timemap_writer.specs.Pages.{page_address}
use Rattle.timegate.specs.declared.request.Request.{Request}
use Rattle.timegate.specs.declared.route.Route.TheVariants.{TimeMap, Page}
use Rattle.timegate.specs.Route.{timegate_route, route_of}

-- a GET of the told address of the original's TimeGate asks that TimeGate, one of the told address of its TimeMap asks
-- for that TimeMap, and one of the told address of a page for that page
pub record IsServed (base original : List ℕ) : Type 0 where
  pub timegate : (q : Request) → q.method ≡ codes "GET" → base ++ q.target ≡ timegate_address base original
      → route_of q ≡ timegate_route q.asked original
  pub timemap : (q : Request) → q.method ≡ codes "GET" → base ++ q.target ≡ timemap_address base original
      → route_of q ≡ TimeMap original
  pub page : (q : Request) (number : ℕ) → number < 2 ^ 64 → q.method ≡ codes "GET"
      → base ++ q.target ≡ page_address base original number → route_of q ≡ Page number original
