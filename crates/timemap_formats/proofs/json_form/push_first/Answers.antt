use Rattle.std.proofs.Common.{List, ℕ, [], ◌∷◌, ◌++◌, ◌∙◌, ap, codes}
use Rattle.json.specs.Token.{key, string}
use Rattle.timemap_formats.proofs.WritingLemmas.{three_written}
use Rattle.timemap_formats.proofs.json_form.push_first.Goals as goal

pub returns : goal.returns
returns c =
    let first = c.token.new.self in
    let second = c.push_text.new.out in
    three_written c.args.out.now first second c.push_text-2.new.out _ _ _
    c.in_ok-token.ensures.ok
    (c.in_ok-push_text.ensures ∙ ap (λ (t : List ℕ). first ++ key (codes "original_uri") ∷ string t ∷ []) c.as_str.ensures.value)
    (c.in_ok-push_text-2.ensures
    ∙ ap (λ (t : List ℕ). second ++ key (codes "self") ∷ string t ∷ []) (c.as_str-2.ensures.value ∙ c.in_ok-itself.ensures))
