-- The replies of a gate that also answers in other forms than link-format.
use Rattle.std.specs.Prelude.{◌≡◌, ◌≢◌, ℕ, Bool, true, false, List, [], ◌∷◌, ◌++◌, codes, Option, None, Some}
use Rattle.std.specs.Option.{option_map, option_or}
use Rattle.timegate.specs.declared.request.Request.{Request}
use Rattle.timegate.specs.declared.reply.Reply.{Reply}
use Rattle.timegate.specs.declared.reply.Header.TheVariants.{ContentType}
use Rattle.timegate.specs.Route.{is_head}
use Rattle.timemap_formats.specs.declared.forms.Form.{Form}
use Rattle.timemap_formats.specs.declared.forms.Form.TheVariants.{Json, Cdxj}
use Rattle.timemap_formats.specs.declared.listing.Listing.{Listing}
use Rattle.timemap_formats.specs.Forms.{front_of, media_type, listing_text}
use Rattle.timemap_formats.specs.Listing.{Lists}
use Rattle.text_fields.specs.Parts.{behind}
use Rattle.timemap_formats.specs.declared.forms.Forms.{Forms}

-- the form, if it is answered, and what a target names that asks for a TimeMap or a page in it
abbrev pub asked_in : Form → Bool → List ℕ → Option (Form × List ℕ)
asked_in form true target = option_map (λ rest. (form, rest)) (behind (front_of form) target)
asked_in form false target = None

-- in which of the forms that are answered a target asks, and what it names
unfoldable pub form_at : Forms → List ℕ → Option (Form × List ℕ)
form_at forms target = option_or (asked_in Json forms.json target) (asked_in Cdxj forms.cdxj target)

-- the request for the same in link-format
abbrev pub as_link : List ℕ → Request → Request
as_link rest q = record { method = q.method; target = codes "/timemap/link/" ++ rest; asked = [] }

-- a text in a form
abbrev pub form_reply : Form → List ℕ → Reply
form_reply form text =
    record { status = 200; headers = (ContentType, media_type form) ∷ []; body = text }

-- what is answered if a text can't be read as a listing: no text of a gate of this service is such a one
abbrev pub unread_reply : Reply
unread_reply =
    record { status = 500; headers = (ContentType, codes "text/plain") ∷ []; body = codes "not convertible\n" }

-- a listing in a form, if there is one
abbrev pub listing_reply : Form → Option Listing → Reply
listing_reply form None = unread_reply
listing_reply form (Some listing) = form_reply form (listing_text form listing)

-- What is made of the reply to the request for the same in link-format. A refusal stays as it is; a HEAD gets the
-- form's headers; and of a text the same listing is written in the form.
pub data IsConverted (form : Form) (q : Request) : Reply → Reply → Type 0 where
  refusal : {inner : Reply} → inner.status ≢ 200 → IsConverted form q inner inner
  head : {inner : Reply} → inner.status ≡ 200 → is_head q ≡ true → IsConverted form q inner (form_reply form [])
  text : {inner : Reply} (listing : Option Listing) → inner.status ≡ 200 → is_head q ≡ false
      → Lists inner.body listing → IsConverted form q inner (listing_reply form listing)

-- What a gate may reply to a request, if the gate inside gives these replies: in a form, what is made of a reply
-- that the gate inside gives to the request for the same in link-format; and else a reply of that gate.
abbrev pub RepliesBy : (Request → Reply → Type 0) → Option (Form × List ℕ) → Request → Reply → Type 0
RepliesBy gives None q made = gives q made
RepliesBy gives (Some asked) q made =
    (inner : Reply) × gives (as_link asked.1 q) inner × IsConverted asked.0 q inner made

-- the same of a gate that answers in these forms
abbrev pub ShowsInForms : (Request → Reply → Type 0) → Forms → Request → Reply → Type 0
ShowsInForms gives forms q made = RepliesBy gives (form_at forms q.target) q made

-- of one reply one is made
abbrev pub IsConvertedOnce : Type 0
IsConvertedOnce = (form : Form) (q : Request) (inner made other : Reply)
    → IsConverted form q inner made → IsConverted form q inner other → made ≡ other

-- What two gates reply with the same forms, if the gates inside give what they were asked for the same reply.
abbrev pub IsOneInForms : Type 0
IsOneInForms = (asked : Option (Form × List ℕ)) (q : Request) (inner made other : Reply)
    → RepliesBy (λ _ reply. reply ≡ inner) asked q made → RepliesBy (λ _ reply. reply ≡ inner) asked q other → made ≡ other
