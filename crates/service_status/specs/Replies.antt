-- What the status' address replies.
use Rattle.std.specs.Prelude.{◌≡◌, ℕ, not, ◌&&◌, List, [], ◌∷◌, codes, bytes_eq, if◌then◌else◌}
use Rattle.timegate.specs.declared.request.Request.{Request}
use Rattle.timegate.specs.declared.reply.Reply.{Reply}
use Rattle.timegate.specs.declared.reply.Header.TheVariants.{Allow, ContentType}
use Rattle.timegate.specs.Route.{is_get, is_head}
use Rattle.timegate.specs.Reply.{reply_with}
use Rattle.service_status.specs.declared.status.Status.{Status}
use Rattle.service_status.specs.Samples.{status_text}

-- a short text
abbrev pub text_reply : Request → ℕ → List ℕ → Reply
text_reply q status text = reply_with q status ((ContentType, codes "text/plain") ∷ []) text

-- the text of a status
abbrev pub metrics_reply : Request → Status → Reply
metrics_reply q s = reply_with q 200 ((ContentType, codes "text/plain; version=0.0.4") ∷ []) (status_text s)

-- whether something is published
abbrev pub health_reply : Request → Status → Reply
health_reply q s = if s.is_shown then text_reply q 200 (codes "ok\n") else text_reply q 503 (codes "nothing published\n")

-- the methods that are allowed
abbrev pub method_reply : Request → Reply
method_reply q =
    reply_with q 405 ((Allow, codes "GET, HEAD") ∷ (ContentType, codes "text/plain") ∷ []) (codes "bad method\n")

-- the first of these that fits
unfoldable pub reply_of : Status → Request → Reply
reply_of s q =
    if not (is_get q) && not (is_head q) then method_reply q
    else if bytes_eq q.target (codes "/metrics") then metrics_reply q s
    else if bytes_eq q.target (codes "/health") then health_reply q s
    else text_reply q 404 (codes "no such route\n")

-- the reply of some status
abbrev pub IsStatusReply : Request → Reply → Type 0
IsStatusReply q reply = (s : Status) × (reply ≡ reply_of s q)
