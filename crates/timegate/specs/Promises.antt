-- What a client may rely on, whatever it asks.
use Rattle.std.specs.Prelude.{ℕ, ◌<◌, ⊤, Bool, true, false, List, [], ◌∷◌, map, codes}
use Rattle.std.specs.List.{filter}
use Rattle.timegate.specs.declared.reply.Reply.{Reply}
use Rattle.timegate.specs.declared.reply.Header.{Header}
use Rattle.timegate.specs.declared.reply.Header.TheVariants.{Allow, Vary, Location, Link, ContentType}
use Rattle.timegate.specs.declared.request.Request.{Request}
use Rattle.timegate.specs.Reply.{Headers}

-- the same asked by GET
abbrev pub as_get : Request → Request
as_get q = record { method = codes "GET"; target = q.target; asked = q.asked }

-- the same status and headers, and no body
abbrev pub without_body : Reply → Reply
without_body r = record { status = r.status; headers = r.headers; body = [] }

-- where a header field stands among the others
abbrev pub place : Header → ℕ
place Allow = 1
place Vary = 2
place Location = 3
place Link = 4
place ContentType = 5

-- each is less than the next
abbrev pub Rise : List ℕ → Type 0
Rise [] = ⊤
Rise (n ∷ []) = ⊤
Rise (n ∷ next ∷ ns) = (n < next) × Rise (next ∷ ns)

-- the header fields stand in their order, and none twice
abbrev pub AreInOrder : Headers → Type 0
AreInOrder headers = Rise (map (λ field. place field.0) headers)

-- the header field is Vary
abbrev pub is_vary : Header → Bool
is_vary Allow = false
is_vary Vary = true
is_vary Location = false
is_vary Link = false
is_vary ContentType = false

-- what a reply is said to depend on (RFC 7089, section 2.1.2)
abbrev pub vary_values : Headers → List (List ℕ)
vary_values headers = map (λ field. field.1) (filter (λ field. is_vary field.0) headers)
