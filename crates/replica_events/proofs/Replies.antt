-- What the replies of a world follow from.
use Rattle.std.proofs.Common.{◌≡◌, ℕ, ◌+◌, ◌/◌, ◌==◌, ◌||◌, nat_lt, Bool, true, false, List, [], length, arith, Option, refl, ap, ◌∙◌, sym, subst, Ok, Some, None, inl, inr}
use Rattle.std.specs.Prelude.{MatchOption, if◌then◌else◌}
use Rattle.std.proofs.lemmas.Bool.{true≢false}
use Rattle.std.proofs.lemmas.Bool.Decides.{nat_tests}
use Rattle.memento_sets.specs.Sets as set
use Rattle.memento_sets.specs.MementoSets.{Mementos}
use Rattle.harvest_lattice.specs.Lattice.{Entries}
use Rattle.harvest_lattice.specs.Knowledge.{lat, shown, shown_of}
use Rattle.harvest_lattice.proofs.KnowledgeShown.{lat_same, shown-lat}
use Rattle.timemap_writer.specs.Pages.{pages, page_text, listing_text}
use Rattle.timegate.specs.declared.reply.Reply.{Reply}
use Rattle.timegate.specs.declared.request.Request.{Request}
use Rattle.timegate.specs.declared.route.Route.TheVariants.{TimeMap, Page, TimeGate, Delta}
use Rattle.timegate.specs.Route.{IsOfTaken, route_of, is_head}
use Rattle.timegate.specs.Reply.{reply, reply_of, timemap_of, page_of}
use Rattle.timegate.specs.Redirect.{IsGateReply}
use Rattle.timegate.proofs.Replies.{same_reply, reply_from_state, timemap_reply, page_reply, gate_reply, redirects, redirects_alone}
use Rattle.replica_events.specs.declared.event.Event.TheVariants.{Ask}
use Rattle.replica_events.specs.declared.event.Said.TheVariants.{Replied}
use Rattle.replica_events.specs.declared.event.Refused.TheVariants.{NoReplica}
use Rattle.replica_exchange.specs.Stamps.{StampedState, IsStamped}
use Rattle.replica_events.specs.World.{Knowledge, World, Replica, Course, Step, Refuses, Accepts, WithStamped, replica_reply, replica}
use Rattle.replica_events.specs.Agreement.{SameHarvests, HasTaken, Gives, Agree, Shows, ServesTimeMaps, ServesTimeGates, NamesNearest, RedirectsWell, timemap_at, page_at}
use Rattle.replica_events.proofs.Moments.{merges_made}
use Rattle.replica_events.proofs.Stampings.{merges_stamped}

pub same_state : (known other : Knowledge) → SameHarvests known other → lat known ≡ lat other
same_state known other same = lat_same known other (λ h. (same h).0) (λ h. (same h).1)

-- its reply is that of what it has taken
taken_reply : (base : List ℕ) (r : Replica) (s : StampedState) (q : Request) → IsOfTaken q → replica_reply base r s q ≡ reply base r.taken q
taken_reply base r s q compared = reply_from_state base r.taken (record s { entries = lat r.taken }) q refl compared

-- a replica answers so
abbrev Replies : List ℕ → World → Request → Replica → Reply → World → Type 0
Replies base world q a r next = WithStamped a (λ s. Accepts (Replied (replica_reply base a s q)) world) (Ok (Replied r)) next

replied : (base : List ℕ) (world : World) (a : Replica) (q : Request) (r : Reply) (next : World) → IsOfTaken q → Replies base world q a r next → r ≡ reply base a.taken q
replied base world a q r next compared (s, is, own, p) = let here : r ≡ replica_reply base a s q = cc in here ∙ taken_reply base a s q compared

-- one that has taken this gives the reply of what it has taken
pub given : (base : List ℕ) (world : World) (i : ℕ) (known : Knowledge) (q : Request) (r : Reply) → HasTaken world i known → IsOfTaken q → Gives base world i q r → r ≡ reply base known q
given base world i known q r is compared gives = given_by gives.next gives.asked
  where
    given_by : (next : World) → Step base world (Ask i q) (Ok (Replied r)) next → r ≡ reply base known q
    given_by next (inl effect) =
        let there : Replies base world q is.0 r next =
        subst (λ (o : Option Replica). MatchOption o (Refuses NoReplica world (Ok (Replied r)) next) (λ a. Replies base world q a r next)) is.1 effect in
        replied base world is.0 q r next compared there ∙ ap (λ (known : Knowledge). reply base known q) is.2
    given_by next (inr out) = absurd cc

-- and it may give that one
pub gives_reply : (base : List ℕ) (world : World) (i : ℕ) (known : Knowledge) (q : Request) (r : Reply) → HasTaken world i known → IsOfTaken q → r ≡ reply base known q → Gives base world i q r
gives_reply base world i known q r is compared reply_is =
    let made = merges_stamped is.0.merges is.0.incarnation in
    let own : r ≡ replica_reply base is.0 made.0 q =
    reply_is ∙ (ap (λ (known : Knowledge). reply base known q) (sym is.2) ∙ sym (taken_reply base is.0 made.0 q compared)) in
    record { next = world; asked = inl (rw is.1 (made.0, made.1, made.2, (ap (λ (r : Reply). Ok (Replied r)) own, refl))) }

same_shown : (known other : Knowledge) (original : List ℕ) → lat known ≡ lat other → shown known original ≡ shown other original
same_shown known other original same = shown-lat known original ∙ ap (λ (s : Entries). shown_of s original) same ∙ sym (shown-lat other original)

pub agreement : (base : List ℕ) (world : World) (i j : ℕ) (known other : Knowledge) → HasTaken world i known → HasTaken world j other → lat known ≡ lat other → Agree base world i j known other
agreement base world i j known other i_is j_is same = record {
  replies = λ q r s compared one two. given base world i known q r i_is compared one ∙ (same_reply base known other q same ∙ sym (given base world j other q s j_is compared two));
  timemaps = λ original.
      ap (λ (ms : Mementos). if length (set.items ms) == 0 then None else Some (listing_text base original (set.items ms))) (same_shown known other original same);
  pages = λ original number.
      ap (λ (ms : Mementos). if number == 0 || nat_lt (pages (set.items ms)) number then None else Some (page_text base original (set.items ms) number)) (same_shown known other original same);
}

shows : (b : Bool) (q : Request) (text : List ℕ) (none some : Reply) → none.status ≡ 404 → some.status ≡ 200 → some.body ≡ (if is_head q then [] else text)
    → Shows (if b then None else Some text) q (if b then none else some)
shows true q text none some missing status body = missing
shows false q text none some missing status body = (status, body)

timemap_shows : (base : List ℕ) (known : Knowledge) (q : Request) (original : List ℕ) → route_of q ≡ TimeMap original → Shows (timemap_at base known original) q (reply base known q)
timemap_shows base known q original is =
    subst (λ (r : Reply). Shows (timemap_at base known original) q r) (sym (timemap_reply base known q original is))
    (shows (length (set.items (shown known original)) == 0) q (timemap_of base known original) _ _ refl refl refl)

page_shown : (b other : Bool) (q : Request) (text : List ℕ) (x y z : Reply) → (b ≡ true → other ≡ true) → x.status ≡ 404 → y.status ≡ 404 → z.status ≡ 200 → z.body ≡ (if is_head q then [] else text)
    → Shows (if other then None else Some text) q (if b then x else if other then y else z)
page_shown true true q text x y z none empty missing status body = empty
page_shown true false q text x y z none empty missing status body = absurd (true≢false (sym (none refl)))
page_shown false other q text x y z none empty missing status body = shows other q text y z missing status body

-- where nothing is shown there is no page
no_pages : (count number : ℕ) → (count == 0) ≡ true → (number == 0 || nat_lt ((count + 999) / 1000) number) ≡ true
no_pages count number none = grind (arith, nat_tests, none)

page_shows : (base : List ℕ) (known : Knowledge) (q : Request) (original : List ℕ) (number : ℕ) → route_of q ≡ Page number original
    → Shows (page_at base known original number) q (reply base known q)
page_shows base known q original number is =
    let ms = set.items (shown known original) in
    subst (λ (r : Reply). Shows (page_at base known original number) q r) (sym (page_reply base known q number original is))
    (page_shown (length ms == 0) (number == 0 || nat_lt (pages ms) number) q (page_of base known original number) _ _ _ (no_pages (length ms) number) refl refl refl refl)

-- whoever asks for a TimeMap, a page or a TimeGate asks for no delta
timemap_asked : (q : Request) (original : List ℕ) → route_of q ≡ TimeMap original → IsOfTaken q
timemap_asked q original route cursor other = let both : TimeMap original ≡ Delta cursor = sym route ∙ other in cc

page_asked : (q : Request) (number : ℕ) (original : List ℕ) → route_of q ≡ Page number original → IsOfTaken q
page_asked q number original route cursor other = let both : Page number original ≡ Delta cursor = sym route ∙ other in cc

timegate_asked : (q : Request) (original : List ℕ) (asked : Option ℕ) → route_of q ≡ TimeGate original asked → IsOfTaken q
timegate_asked q original asked route cursor other = let both : TimeGate original asked ≡ Delta cursor = sym route ∙ other in cc

pub serves_timemaps : (base : List ℕ) (world : World) (i : ℕ) (known : Knowledge) → HasTaken world i known → ServesTimeMaps base world i known
serves_timemaps base world i known is = record {
  timemaps = λ q original r route gives.
      subst (λ (r : Reply). Shows (timemap_at base known original) q r) (sym (given base world i known q r is (timemap_asked q original route) gives))
      (timemap_shows base known q original route);
  pages = λ q original number r route gives.
      subst (λ (r : Reply). Shows (page_at base known original number) q r) (sym (given base world i known q r is (page_asked q number original route) gives))
      (page_shows base known q original number route);
}

pub serves_timegates : (base : List ℕ) (world : World) (i : ℕ) (known : Knowledge) → HasTaken world i known → ServesTimeGates base world i known
serves_timegates base world i known is q original asked r route gives =
    subst (λ (r : Reply). IsGateReply known original asked r) (sym (given base world i known q r is (timegate_asked q original asked route) gives))
    (gate_reply base known q original asked route)

-- a reply that redirects is one to a TimeGate
redirect_asked : (base : List ℕ) (world : World) (i : ℕ) (r : Replica) (q : Request) (said : Reply) → replica world i ≡ Some r → Gives base world i q said → said.status ≡ 302 → IsOfTaken q
redirect_asked base world i r q said there gives status = asked_by gives.next gives.asked
  where
    asked_in : (next : World) → Replies base world q r said next → IsOfTaken q
    asked_in next (s, is, own, p) =
        let here : said ≡ replica_reply base r s q = cc in
        let gate = redirects_alone base (record s { entries = lat r.taken }) q (subst (λ (r : Reply). r.status ≡ 302) here status) in
        timegate_asked q gate.0 gate.1 gate.2

    asked_by : (next : World) → Step base world (Ask i q) (Ok (Replied said)) next → IsOfTaken q
    asked_by next (inl effect) =
        asked_in next (subst (λ (o : Option Replica). MatchOption o (Refuses NoReplica world (Ok (Replied said)) next) (λ a. Replies base world q a said next)) there effect)
    asked_by next (inr out) = absurd cc

pub redirects_well : (base : List ℕ) (world : World) (i : ℕ) (known : Knowledge) → HasTaken world i known → RedirectsWell base world i known
redirects_well base world i known is q r gives status =
    let reply_is : r ≡ reply base known q = given base world i known q r is (redirect_asked base world i is.0 q r is.1 gives status) gives in
    let found = redirects base known q (subst (λ (r : Reply). r.status ≡ 302) reply_is status) in
    let names : NamesNearest known q (reply base known q) = record { original = found.0; asked = found.1; route = found.2; redirects = found.3 } in
    subst (λ (r : Reply). NamesNearest known q r) (sym reply_is) names

-- ---- by what the merges made

-- in a course the state of what was taken is that of the merges
own_stamps : {base : List ℕ} (course : Course base) (i : ℕ) (r : Replica) (s : StampedState) (q : Request) → replica course.world i ≡ Some r → IsStamped r.merges s
    → replica_reply base r s q ≡ reply_of base s q
own_stamps {base} course i r s q there is =
    let same : lat r.taken ≡ s.entries = sym (merges_made course i r there) ∙ sym is.entries in
    ap (λ (x : Entries). reply_of base (record s { entries = x }) q) same

pub merges_reply : {base : List ℕ} (course : Course base) (i : ℕ) (r : Replica) (q : Request) (said : Reply) → replica course.world i ≡ Some r → Gives base course.world i q said
    → (s : StampedState) × IsStamped r.merges s × (s.incarnation ≡ r.incarnation) × (said ≡ reply_of base s q)
merges_reply {base} course i r q said there gives = asked_by gives.next gives.asked
  where
    By : Type 0
    By = (s : StampedState) × IsStamped r.merges s × (s.incarnation ≡ r.incarnation) × (said ≡ reply_of base s q)

    asked_in : (next : World) → Replies base course.world q r said next → By
    asked_in next (s, is, own, p) =
        let here : said ≡ replica_reply base r s q = cc in
        (s, is, own, here ∙ own_stamps course i r s q there is)

    asked_by : (next : World) → Step base course.world (Ask i q) (Ok (Replied said)) next → By
    asked_by next (inl effect) =
        asked_in next (subst (λ (o : Option Replica). MatchOption o (Refuses NoReplica course.world (Ok (Replied said)) next) (λ a. Replies base course.world q a said next)) there effect)
    asked_by next (inr out) = absurd cc

pub reply_of_merges : {base : List ℕ} (course : Course base) (i : ℕ) (r : Replica) (q : Request) (said : Reply) → replica course.world i ≡ Some r
    → (s : StampedState) × IsStamped r.merges s × (s.incarnation ≡ r.incarnation) × (said ≡ reply_of base s q) → Gives base course.world i q said
reply_of_merges {base} course i r q said there (s, is, own, said_is) =
    let here : said ≡ replica_reply base r s q = said_is ∙ sym (own_stamps course i r s q there is) in
    record { next = course.world; asked = inl (rw there (s, is, own, (ap (λ (r : Reply). Ok (Replied r)) here, refl))) }
