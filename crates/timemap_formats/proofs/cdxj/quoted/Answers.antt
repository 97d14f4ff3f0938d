use Rattle.std.proofs.Common.{List, [], ◌∷◌, ◌++◌, ◌∙◌, ap}
use Rattle.json.specs.Token.{Token, string}
use Rattle.timemap_formats.proofs.WritingLemmas.{alone}
use Rattle.timemap_formats.proofs.cdxj.quoted.Goals as goal

pub returns : goal.returns
returns c =
    c.into_inner.ensures.layout
    ∙ alone c.args.text.now _ (c.in_ok-token.ensures.ok ∙ ap (λ (ts : List Token). ts ++ string c.args.text.now ∷ []) c.new-out.ensures)
