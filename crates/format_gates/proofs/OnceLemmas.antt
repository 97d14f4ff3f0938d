-- Lemmas of what is made of one reply.
use Rattle.std.proofs.Common.{◌≡◌, ℕ, true, false, List, Option, Some, None, refl, sym, ap, subst, true≢false, ◌∙◌}
use Rattle.link_format.proofs.Complete.{one_reading}
use Rattle.timegate.specs.declared.request.Request.{Request}
use Rattle.timegate.specs.declared.reply.Reply.{Reply}
use Rattle.timemap_formats.specs.declared.forms.Form.{Form}
use Rattle.timemap_formats.specs.declared.listing.Listing.{Listing}
use Rattle.timemap_formats.specs.Listing.{Lists, listing_of}
use Rattle.format_gates.specs.Converted.{listing_reply, RepliesBy}
use Rattle.format_gates.specs.Converted.{IsConverted, refusal, head, text}

-- a text lists one thing
pub lists_once : (t : List ℕ) (one other : Option Listing) → Lists t one → Lists t other → one ≡ other
lists_once t (Some one) (Some other) x y = sym x.2 ∙ ap listing_of (one_reading t x.0 y.0 x.1.0 y.1.0) ∙ y.2
lists_once t (Some one) None x y = sym x.2 ∙ y x.0 x.1
lists_once t None (Some other) x y = sym (x y.0 y.1) ∙ y.2
lists_once t None None x y = refl

-- of one reply one is made
pub converted_once : {form : Form} {q : Request} {inner made other : Reply}
    → IsConverted form q inner made → IsConverted form q inner other → made ≡ other
converted_once (refusal unfound) (refusal again) = refl
converted_once (refusal unfound) (head found asked) = absurd (unfound found)
converted_once (refusal unfound) (text listing found asked lists) = absurd (unfound found)
converted_once (head found asked) (refusal unfound) = absurd (unfound found)
converted_once (head found asked) (head again too) = refl
converted_once (head found asked) (text listing again other lists) = absurd (true≢false (sym asked ∙ other))
converted_once (text listing found asked lists) (refusal unfound) = absurd (unfound found)
converted_once (text listing found asked lists) (head again other) = absurd (true≢false (sym other ∙ asked))
converted_once {form} {q} {inner} (text listing found asked lists) (text more again other too) =
    ap (listing_reply form) (lists_once inner.body listing more lists too)

-- what two gates reply is one, if it is made of one reply
pub one_in_forms : (asked : Option (Form × List ℕ)) (q : Request) (inner made other : Reply)
    → RepliesBy (λ _ reply. reply ≡ inner) asked q made → RepliesBy (λ _ reply. reply ≡ inner) asked q other → made ≡ other
one_in_forms None q inner made other x y = x ∙ sym y
one_in_forms (Some asked) q inner made other x y =
    converted_once (subst (λ it. IsConverted asked.0 q it made) x.1 x.2) (subst (λ it. IsConverted asked.0 q it other) y.1 y.2)
