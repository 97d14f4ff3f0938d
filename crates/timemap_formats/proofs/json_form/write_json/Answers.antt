use Rattle.std.proofs.Common.{List, ◌++◌, ◌∙◌, ap}
use Rattle.json.specs.Token.{Token}
use Rattle.json.specs.Layout.{pretty}
use Rattle.json.specs.Tree.{json_tokens}
use Rattle.timemap_formats.specs.Json.{json_of, json_text}
use Rattle.timemap_formats.proofs.json_form.write_json.Goals as goal

pub returns : goal.returns
unfolding json_text
returns c =
    c.into_inner.ensures.layout
    ∙ ap pretty (c.in_ok-push_listing.ensures ∙ ap (λ (ts : List Token). ts ++ json_tokens (json_of c.args.listing.now)) c.new-out.ensures)
