-- Lemmas of the replies that are made of others.
use Rattle.std.proofs.Common.{◌≡◌, ℕ, true, false, List, [], Ok, Err, Option, sym, subst, ap, ◌∙◌}
use Rattle.std.specs.Prelude.{IfOk, Result}
use Rattle.timegate.specs.declared.request.Request.{Request}
use Rattle.timegate.specs.declared.reply.Reply.{Reply}
use Rattle.timegate.specs.Route.{is_head}
use Rattle.timemap_formats.specs.declared.forms.Form.{Form}
use Rattle.timemap_formats.specs.declared.listing.Listing.{Listing}
use Rattle.timemap_formats.specs.Listing.{Lists}
use Rattle.format_gates.specs.Converted.{form_reply, listing_reply}
use Rattle.format_gates.specs.Converted.{IsConverted, head, text}

-- a HEAD's reply
pub head_made : {E : Type 0} (form : Form) (q : Request) (inner : Reply) (body : List ℕ) (r : Result Reply E)
    → inner.status ≡ 200 → is_head q ≡ true → body ≡ [] → IfOk r (λ made. made ≡ form_reply form body)
    → IfOk r (IsConverted form q inner)
head_made form q inner body (Ok made) found asked empty is =
    subst (IsConverted form q inner) (sym (is ∙ ap (form_reply form) empty)) (head found asked)
head_made form q inner body (Err e) found asked empty is = tt

-- the reply to another request
pub text_made : {E : Type 0} (form : Form) (q : Request) (inner : Reply) (listing : Option Listing) (r : Result Reply E)
    → inner.status ≡ 200 → is_head q ≡ false → Lists inner.body listing
    → IfOk r (λ made. made ≡ listing_reply form listing) → IfOk r (IsConverted form q inner)
text_made form q inner listing (Ok made) found asked lists is =
    subst (IsConverted form q inner) (sym is) (text listing found asked lists)
text_made form q inner listing (Err e) found asked lists is = tt
