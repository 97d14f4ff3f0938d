-- The reply to each request (RFC 7089, sections 4 and 5), from the state of the harvests that are known.
use Rattle.std.specs.FinMap as map
use Rattle.std.specs.Prelude.{ℕ, List, [], ◌∷◌, ◌++◌, Option, None, Some, length, codes, if◌then◌else◌, ◌==◌, ◌||◌}
use Rattle.std.specs.Prelude.{nat_lt}
use Rattle.memento_time.specs.declared.mementos.Memento.{Memento}
use Rattle.memento_sets.specs.Sets as set
use Rattle.memento_sets.specs.MementoSets.{Mementos}
use Rattle.harvest_lattice.specs.Lattice.{Entries}
use Rattle.harvest_lattice.specs.Knowledge.{Harvested, lat, shown, shown_of}
use Rattle.memento_index.specs.Choice.{nearest, last}
use Rattle.replica_exchange.specs.StateText.{state_text}
use Rattle.replica_exchange.specs.Stamps.{StampedState}
use Rattle.replica_exchange.specs.CursorRule.{delta_from}
use Rattle.replica_exchange.specs.DeltaText.{delta_text}
use Rattle.timemap_writer.specs.TimeMap.{gate_links}
use Rattle.timemap_writer.specs.Pages.{pages, page_text, listing_text}
use Rattle.timegate.specs.declared.reply.Reply.{Reply}
use Rattle.timegate.specs.declared.reply.Header.{Header}
use Rattle.timegate.specs.declared.reply.Header.TheVariants.{Allow, Vary, Location, Link, ContentType}
use Rattle.timegate.specs.declared.request.Request.{Request}
use Rattle.timegate.specs.declared.route.Route.{Route}
use Rattle.timegate.specs.declared.route.Route.TheVariants.{BadMethod, State, NoRoute, BadOriginal, BadDatetime}
use Rattle.timegate.specs.declared.route.Route.TheVariants.{Delta, TimeGate, TimeMap, Page}
use Rattle.timegate.specs.Route.{is_head, is_timegate, route_of}

-- the name of a header field
abbrev pub header_name : Header → List ℕ
header_name Allow = codes "Allow"
header_name Vary = codes "Vary"
header_name Location = codes "Location"
header_name Link = codes "Link"
header_name ContentType = codes "Content-Type"

-- header fields, in order
abbrev pub Headers : Type 0
Headers = List (Header × List ℕ)

-- HEAD has the status and the headers, and no body
abbrev pub reply_with : Request → ℕ → Headers → List ℕ → Reply
reply_with q status headers body = record { status = status; headers = headers; body = if is_head q then [] else body }

-- whatever a TimeGate says depends on the datetime that is asked for (RFC 7089, section 2.1.2)
abbrev pub vary : Request → Headers
vary q = if is_timegate q then (Vary, codes "accept-datetime") ∷ [] else []

-- a short text, behind these headers
abbrev pub short_reply : Request → ℕ → Headers → List ℕ → Reply
short_reply q status headers text =
    reply_with q status (headers ++ vary q ++ (ContentType, codes "text/plain") ∷ []) text

-- the methods that are allowed
abbrev pub bad_method : Request → Reply
bad_method q = short_reply q 405 ((Allow, codes "GET, HEAD") ∷ []) (codes "bad method\n")

-- the nearest memento to the second that is asked for, or the last if none is
abbrev pub choice_at : Mementos → Option ℕ → Option Memento
choice_at mementos None = last mementos
choice_at mementos (Some second) = nearest mementos second

-- to the chosen memento, with links to the original and its TimeMap (RFC 7089, section 4.2)
abbrev pub redirect : List ℕ → Request → List ℕ → Mementos → Option Memento → Reply
redirect base q original mementos None = short_reply q 404 [] (codes "no memento\n")
redirect base q original mementos (Some m) =
    reply_with q 302 (vary q ++ (Location, m.uri) ∷ (Link, gate_links base original (set.items mementos)) ∷ []) []

-- a text in link-format (RFC 6690, section 7.3)
abbrev pub links_reply : Request → List ℕ → Reply
links_reply q text = reply_with q 200 ((ContentType, codes "application/link-format") ∷ []) text

-- the TimeMap or the index of its pages, if any memento is shown (RFC 7089, section 5)
abbrev pub timemap : List ℕ → Request → List ℕ → List Memento → Reply
timemap base q original mementos =
    if length mementos == 0 then short_reply q 404 [] (codes "no memento\n")
    else links_reply q (listing_text base original mementos)

-- a page of the TimeMap, if any memento is shown and there is a page of this number
abbrev pub page : List ℕ → Request → ℕ → List ℕ → List Memento → Reply
page base q number original mementos =
    if length mementos == 0 then short_reply q 404 [] (codes "no memento\n")
    else if number == 0 || nat_lt (pages mementos) number then short_reply q 404 [] (codes "no such page\n")
    else links_reply q (page_text base original mementos number)

-- a text for peers
abbrev pub peer_reply : Request → List ℕ → Reply
peer_reply q text = reply_with q 200 ((ContentType, codes "text/plain") ∷ []) text

-- by what is asked for, from what is shown of each original and what is kept of all
abbrev pub reply_at : List ℕ → (List ℕ → Mementos) → StampedState → Request → Route → Reply
reply_at base shows s q BadMethod = bad_method q
reply_at base shows s q State = peer_reply q (state_text s.entries)
reply_at base shows s q (Delta cursor) = peer_reply q (delta_text (delta_from s cursor))
reply_at base shows s q NoRoute = short_reply q 404 [] (codes "no such route\n")
reply_at base shows s q BadOriginal = short_reply q 400 [] (codes "bad original\n")
reply_at base shows s q BadDatetime = short_reply q 400 [] (codes "bad datetime\n")
reply_at base shows s q (TimeGate original asked) =
    redirect base q original (shows original) (choice_at (shows original) asked)
reply_at base shows s q (TimeMap original) = timemap base q original (set.items (shows original))
reply_at base shows s q (Page number original) = page base q number original (set.items (shows original))

-- the reply of one that has this state
unfoldable pub reply_of : List ℕ → StampedState → Request → Reply
reply_of base s q = reply_at base (shown_of s.entries) s q (route_of q)

-- a state of which no merge is told
abbrev pub without_numbers : Entries → StampedState
without_numbers x = record { entries = x; stamps = map.empty; number = 0; incarnation = 0 }

-- the reply of one that has taken these harvests, as far as it follows from them alone
unfoldable pub reply : List ℕ → List Harvested → Request → Reply
reply base known q = reply_at base (shown known) (without_numbers (lat known)) q (route_of q)

-- what stands at the address of an original's TimeMap: the TimeMap, or the index of its pages
abbrev pub timemap_of : List ℕ → List Harvested → List ℕ → List ℕ
timemap_of base known original = listing_text base original (set.items (shown known original))

-- and at the address of a page
abbrev pub page_of : List ℕ → List Harvested → List ℕ → ℕ → List ℕ
page_of base known original number = page_text base original (set.items (shown known original)) number
