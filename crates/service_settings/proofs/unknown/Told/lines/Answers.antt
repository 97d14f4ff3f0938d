use Rattle.std.proofs.Common.{◌≡◌, ◌++◌, ◌∷◌, [], ◌∙◌, ◌<◌, ◌-◌, codes, length, map, string_bytes, sym, ap, arith, append-nil}
use Rattle.std.proofs.lemmas.List.{map-append}
use Rattle.std.specs.Fmt.{decimal}
use Rattle.service_settings.proofs.ToldLemmas.{told_end, length-map_text, rest_some}
use Rattle.service_settings.proofs.unknown.Told.lines.Goals as goal

pub returns-then-more-eq0 : goal.returns-then-more-eq0
returns-then-more-eq0 c = λ all told.
    let lines = map (λ line. string_bytes line) c.args.self.lines.items in
    let few : 0 ≡ c.args.self.count - length lines = omega (arith, c.args.self.lines.ok, length-map_text c.args.self.lines.items) in
    sym (append-nil lines) ∙ told_end all lines c.args.self.count 0 told.lines told.count few

pub returns : goal.returns
returns c = λ all told.
    let lines = map (λ line. string_bytes line) c.args.self.lines.items in
    let more = c.saturating_sub-more.result in
    let rest : more ≡ c.args.self.count - length lines = omega (arith, c.args.self.lines.ok, length-map_text c.args.self.lines.items) in
    let some : 0 < more = omega arith in
    let last = c.in_ok-last.last in
    let text : string_bytes last ≡ codes "unknown keys: " ++ decimal more ++ codes " more" = c.in_ok-last.ensures.ok in
    let told_last : map (λ line. string_bytes line) c.push.new.self.items ≡ lines ++ string_bytes last ∷ [] =
    ap (map (λ line. string_bytes line)) c.in_ok-push.ensures.items ∙ map-append (λ line. string_bytes line) c.args.self.lines.items (last ∷ []) in
    told_last ∙ (ap (λ t. lines ++ t ∷ []) text ∙ (ap (λ ls. lines ++ ls) (sym (rest_some more some))
    ∙ told_end all lines c.args.self.count more told.lines told.count rest))
