-- Entries of hosts, and what is fetched where they are listed.
use Rattle.std.proofs.Common.{◌≡◌, ℕ, List, Option, Some, None, Result, Ok, Err, IfOk, true, Bor, sym, subst}
use Rattle.std.specs.Prelude.{IfSome, All, MatchOption, filter}
use Rattle.std.proofs.lemmas.List.Elements.{filter_passes}
use Rattle.std.specs.declared.net.socket_addr.SocketAddr.{SocketAddr}
use Rattle.std.specs.Net.Socket.{socket_ip}
use Rattle.url.specs.declared.host.Host.{Host}
use Rattle.url.specs.Parts.{Parts, nonempty_host, text_between}
use Rattle.url.specs.Parser.{Parsed, parse_url}
use Rattle.url_texts.specs.Reading.{IsReading}
use Rattle.url.specs.declared.slicing.Position.TheVariants.{BeforeHost, AfterPort}
use Rattle.outgoing_requests.specs.declared.hosts.AllowedHost.{AllowedHost}
use Rattle.outgoing_requests.specs.Addresses.{is_allowed}
use Rattle.outgoing_requests.specs.Hosts.{AreAllowed, IsEntryOf, IsListed, IsListedText, Spells, url_around}
use Rattle.outgoing_requests.proofs.Building.{ok_same}

-- what is left of the addresses of a listed URL's host
pub left_allowed : (hosts : Option (Bor (List AllowedHost))) (given : Bor (List AllowedHost)) (url : Parts) (host : Host (List ℕ)) (found left : List SocketAddr)
    → hosts ≡ Some given → IsListed given.now url → nonempty_host url ≡ Some host
    → left ≡ filter (λ a. is_allowed host (socket_ip a)) found
    → IfSome hosts (λ listed. AreAllowed listed.now url left)
left_allowed hosts given url host found left are listed is kept =
    let passes = filter_passes (λ (a : SocketAddr). is_allowed host (socket_ip a)) found in
    let allowed : AreAllowed given.now url left = record {
      listed = listed;
      host = host;
      host_of_url = is;
      allowed = subst (λ (xs : List SocketAddr). All (λ a. is_allowed host (socket_ip a) ≡ true) xs) (sym kept) passes;
    } in
    subst (λ (o : Option (Bor (List AllowedHost))). IfSome o (λ listed. AreAllowed listed.now url left)) (sym are) allowed

-- where the addresses are those of a listed URL, its text is one of a listed URL
pub text_listed : (hosts : Option (Bor (List AllowedHost))) (url : Parts) (text : List ℕ) (addresses : List SocketAddr)
    → parse_url None text ≡ Ok url → IfSome hosts (λ listed. AreAllowed listed.now url addresses)
    → IfSome hosts (λ listed. IsListedText listed.now text)
text_listed None url text addresses parsed allowed = allowed
text_listed (Some given) url text addresses parsed allowed = record { url = url; parsed = parsed; listed = allowed.listed }

-- what holds anyway holds of an answer
pub of_any : {A E : Type 0} (P : Type 0) (r : Result A E) → P → IfOk r (λ _. P)
of_any P (Ok x) p = p
of_any P (Err e) p = tt

-- a text that its URL's host and port aren't written as spells no entry
pub spells_none : (text : List ℕ) (url : Parts) → parse_url None (url_around text) ≡ Ok url
    → (text_between url BeforeHost AfterPort ≡ text → ⊥) → (entry : AllowedHost) → Spells text entry → ⊥
spells_none text url parsed other entry s =
    let same : s.url ≡ url = ok_same (parse_url None (url_around text)) s.url url s.parsed parsed in
    other (subst (λ (u : Parts). text_between u BeforeHost AfterPort ≡ text) same s.same)

-- the URL that was read
pub read_as : (parsed : Parsed Parts) (o : Option Parts) (url : Parts) → IsReading parsed o → o ≡ Some url → parsed ≡ Ok url
read_as parsed o url reading is = subst (λ (x : Option Parts). IsReading parsed x) is reading

-- where the URL is written as the text, the text spells its entry or none
pub spelled : {E : Type 0} (text : List ℕ) (url : Parts) (r : Result (Option AllowedHost) E) → parse_url None (url_around text) ≡ Ok url
    → text_between url BeforeHost AfterPort ≡ text
    → IfOk r (λ found. MatchOption found ((entry : AllowedHost) → IsEntryOf url entry → ⊥) (IsEntryOf url))
    → IfOk r (λ found. MatchOption found ((entry : AllowedHost) → Spells text entry → ⊥) (Spells text))
spelled text url (Err e) parsed same given = tt
spelled text url (Ok (Some entry)) parsed same given = record { url = url; parsed = parsed; same = same; entry_of = given }
spelled text url (Ok None) parsed same given = λ entry s.
    given entry (subst (λ (u : Parts). IsEntryOf u entry) (ok_same (parse_url None (url_around text)) s.url url s.parsed parsed) s.entry_of)
