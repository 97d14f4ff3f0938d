-- Which hosts archives' pages are fetched from.
use Rattle.std.specs.Prelude.{◌≡◌, ℕ, List, ◌++◌, codes, All, Any, Option, None, Some, Ok, true, option_map}
use Rattle.std.specs.Option.{option_or}
use Rattle.std.specs.declared.net.socket_addr.SocketAddr.{SocketAddr}
use Rattle.std.specs.Net.Socket.{socket_ip}
use Rattle.url.specs.Parts.{Parts, nonempty_host, text_between}
use Rattle.url.specs.Host.{host_text}
use Rattle.url.specs.declared.host.Host.{Host}
use Rattle.url.specs.Scheme.{default_port}
use Rattle.url.specs.Parser.{parse_url}
use Rattle.url.specs.declared.slicing.Position.TheVariants.{BeforeHost, AfterPort}
use Rattle.outgoing_requests.specs.declared.hosts.AllowedHost.{AllowedHost}
use Rattle.outgoing_requests.specs.Addresses.{is_allowed}

-- the host of a URL as `url` writes it
abbrev pub host_of : Parts → Option (List ℕ)
host_of url = option_map host_text (nonempty_host url)

-- the port of a URL, or that of its scheme if it names none
abbrev pub port_of : Parts → Option ℕ
port_of url = option_or url.port (default_port url.scheme)

-- the URL's host and port are those of the entry
pub record IsEntryOf (url : Parts) (entry : AllowedHost) : Type 0 where
  pub host : host_of url ≡ Some entry.host
  pub port : port_of url ≡ Some entry.port

-- an entry is the URL's
abbrev pub IsListed : List AllowedHost → Parts → Type 0
IsListed hosts url = Any (IsEntryOf url) hosts

-- the URL in which the text is what stands between the scheme and the path
abbrev pub url_around : List ℕ → List ℕ
url_around text = codes "http://" ++ text ++ codes "/"

-- The text spells the entry: the URL around it has this host and port, which are written as the text. So nothing else
-- stands in it, no user, path or query, and it is spelled as `url` spells it: in lower case, and without the port 80.
pub record Spells (text : List ℕ) (entry : AllowedHost) : Type 0 where
  pub url : Parts
  pub parsed : parse_url None (url_around text) ≡ Ok url
  pub same : text_between url BeforeHost AfterPort ≡ text
  pub entry_of : IsEntryOf url entry

-- the text is that of a URL whose host and port are listed
pub record IsListedText (hosts : List AllowedHost) (text : List ℕ) : Type 0 where
  pub url : Parts
  pub parsed : parse_url None text ≡ Ok url
  pub listed : IsListed hosts url

-- the URL's host and port are listed, and each of the addresses is allowed for its host
pub record AreAllowed (hosts : List AllowedHost) (url : Parts) (addresses : List SocketAddr) : Type 0 where
  pub listed : IsListed hosts url
  pub host : Host (List ℕ)
  pub host_of_url : nonempty_host url ≡ Some host
  pub allowed : All (λ address. is_allowed host (socket_ip address) ≡ true) addresses
