use Rattle.std.proofs.Common.{List, ℕ, [], ◌∷◌, ◌++◌, ◌∙◌, ap, codes}
use Rattle.json.specs.Token.{key, string}
use Rattle.timemap_formats.proofs.WritingLemmas.{four_written}
use Rattle.timemap_formats.proofs.json_form.push_memento.Goals as goal

pub returns : goal.returns
returns c =
    let second = c.push_date.new.out in
    four_written c.args.out.now c.token.new.self second c.push_text.new.out c.token-2.new.self _ _ _ _
    c.in_ok-token.ensures.ok c.in_ok-push_date.ensures
    (c.in_ok-push_text.ensures ∙ ap (λ (t : List ℕ). second ++ key (codes "uri") ∷ string t ∷ []) c.as_str.ensures.value)
    c.in_ok-token-2.ensures.ok
