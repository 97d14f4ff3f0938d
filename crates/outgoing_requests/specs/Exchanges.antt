-- What is asked for a URL, and what is taken of a response.
use Rattle.std.specs.Prelude.{◌≡◌, ℕ, List, [], ◌∷◌, map, codes, Option, None, Some}
use Rattle.http.specs.declared.request.Request.{Request}
use Rattle.http.specs.Request.{head_of}
use Rattle.http.specs.declared.response.Parts.{Parts as ResponseHead}
use Rattle.http_header.specs.FieldValue.{FieldValue, plain_value}
use Rattle.http_header.specs.HeaderMap.{append_all, get_all}
use Rattle.http_uri.specs.Uri.{Spells}
use Rattle.url.specs.Parts.{Parts, text_between}
use Rattle.url.specs.declared.slicing.Position.TheVariants.{BeforeHost, AfterPort}
use Rattle.harvester.specs.declared.fetches.Answer.{Answer}
use Rattle.outgoing_requests.specs.Targets.{target_of}

-- what a program that has a name says of itself
abbrev pub fields_of_agent : Option (List ℕ) → List (List ℕ × FieldValue)
fields_of_agent None = []
fields_of_agent (Some agent) = (codes "user-agent", plain_value agent) ∷ []

-- The fields of a request: the host with its port, no content coding but `identity`, a connection for this alone, and
-- the program's name if it has one.
abbrev pub fields_for : Parts → Option (List ℕ) → List (List ℕ × FieldValue)
fields_for address agent =
    (codes "host", plain_value (text_between address BeforeHost AfterPort))
    ∷ (codes "accept-encoding", plain_value (codes "identity"))
    ∷ (codes "connection", plain_value (codes "close"))
    ∷ fields_of_agent agent

-- a GET of the URL's target, with these fields and no other
pub record IsRequestFor {B : Type 0} (url : List ℕ) (address : Parts) (agent : Option (List ℕ)) (request : Request B)
    : Type 0 where
  pub method : (head_of request).method ≡ codes "GET"
  pub text : List ℕ
  pub names : target_of url ≡ Some text
  pub target : Spells text (head_of request).uri
  pub fields : (head_of request).headers ≡ append_all [] (fields_for address agent)

-- the response's status, the values of its Content-Encoding and of its Retry-After in order, and its body
pub record IsAnswerOf (head : ResponseHead) (sent : List ℕ) (answer : Answer) : Type 0 where
  pub status : answer.status ≡ head.status
  pub encoding : answer.encoding ≡ map (λ v. v.bytes) (get_all head.headers (codes "content-encoding"))
  pub retry_after : answer.retry_after ≡ map (λ v. v.bytes) (get_all head.headers (codes "retry-after"))
  pub body : answer.body ≡ sent
