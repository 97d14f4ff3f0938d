-- The HTTP response that a reply stands for.
use Rattle.std.specs.Prelude.{◌≡◌, ℕ, List, [], map}
use Rattle.http.specs.declared.version.TheConstants.Version.{HTTP_11}
use Rattle.http.specs.declared.response.Response.{Response}
use Rattle.http.specs.declared.response.Parts.{Parts}
use Rattle.http.specs.Response.{head_of, body_of}
use Rattle.http_header.specs.Token.{lowercase}
use Rattle.http_header.specs.FieldValue.{FieldValue, plain_value}
use Rattle.http_header.specs.HeaderMap.{append_all}
use Rattle.timegate.specs.declared.reply.Header.{Header}
use Rattle.timegate.specs.declared.reply.Reply.{Reply}
use Rattle.timegate.specs.declared.request.Request.{Request}
use Rattle.timegate.specs.Reply.{header_name}

-- the field of a header with its value; names are written in lower case
abbrev pub field_of : Header × List ℕ → List ℕ × FieldValue
field_of h = (lowercase (header_name h.0), plain_value h.1)

-- the head has the reply's status, its headers and no other
pub record IsHeadOf (reply : Reply) (head : Parts) : Type 0 where
  pub status : head.status ≡ reply.status
  pub version : head.version ≡ HTTP_11
  pub headers : head.headers ≡ append_all [] (map field_of reply.headers)

-- the response has the reply's status, its headers and no other, and its body
pub record IsFormOf (reply : Reply) (response : Response (List ℕ)) : Type 0 where
  pub head : IsHeadOf reply (head_of response)
  pub body : body_of response ≡ reply.body

-- the response that stands for a fault: 503, and nothing else
pub record IsRefusal (response : Response (List ℕ)) : Type 0 where
  pub status : (head_of response).status ≡ 503
  pub headers : (head_of response).headers ≡ []
  pub body : body_of response ≡ []

-- the response has the form of a reply to the request that some value shows
abbrev pub IsShown : {G : Type 0} → (G → Request → Reply → Type 0) → Request → Response (List ℕ) → Type 0
IsShown {G} shows request response = (it : G) × (reply : Reply) × shows it request reply × IsFormOf reply response
