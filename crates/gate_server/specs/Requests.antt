-- What an HTTP request asks of a gate.
use Rattle.std.specs.Prelude.{◌≡◌, ℕ, List, [], map, codes, option_map, unwrap_or}
use Rattle.http.specs.declared.request.Request.{Request as HttpRequest}
use Rattle.http.specs.Request.{head_of}
use Rattle.http_header.specs.HeaderMap.{get_all}
use Rattle.http_uri.specs.declared.uri.Uri.{Uri}
use Rattle.http_uri.specs.Uri.{uri_path_and_query}
use Rattle.http_uri.specs.Grammar.{or_slash}
use Rattle.timegate.specs.declared.request.Request.{Request}

-- the path with the query; nothing if the target has neither
abbrev pub target_of : Uri → List ℕ
target_of uri = unwrap_or (option_map or_slash (uri_path_and_query uri)) []

-- the request's method, its path with the query, and each value of `Accept-Datetime` in order
pub record IsAskedBy {B : Type 0} (sent : HttpRequest B) (asked : Request) : Type 0 where
  pub method : asked.method ≡ (head_of sent).method
  pub target : asked.target ≡ target_of (head_of sent).uri
  pub values : asked.asked ≡ map (λ v. v.bytes) (get_all (head_of sent).headers (codes "accept-datetime"))
