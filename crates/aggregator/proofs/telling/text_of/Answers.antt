use Rattle.std.proofs.Common.{◌≡◌, ◌++◌, ◌∙◌, List, ℕ, codes, string_bytes, take, ap}
use Rattle.aggregator.specs.Telling.{all_lines}
use Rattle.aggregator.proofs.TellingLemmas.{one_more, three_behind}
use Rattle.aggregator.proofs.telling.text_of.Goals as goal

pub loop-line-preserved : goal.loop-line-preserved
loop-line-preserved c =
    let words = c.args.words.now in
    let line = string_bytes c.line-item.result in
    let before = all_lines words (take c.loop-line.line-index c.args.lines.now) in
    let one : string_bytes c.push_str.new.self ≡ before ++ words = c.in_ok-push_str.ensures.bytes ∙ ap (λ (t : List ℕ). t ++ words) c.loop-line.invariant in
    let two : string_bytes c.push_str-in-loop-line.new.self ≡ before ++ words ++ line =
    c.in_ok-push_str-2.ensures.bytes
    ∙ (ap (λ (t : List ℕ). string_bytes c.push_str.new.self ++ t) c.as_str.ensures.value ∙ ap (λ (t : List ℕ). t ++ line) one) in
    c.in_ok-push_str-3.ensures.bytes
    ∙ (ap (λ (t : List ℕ). t ++ codes "\n") two
    ∙ (three_behind before words line (codes "\n")
    ∙ one_more (λ line. words ++ string_bytes line ++ codes "\n") c.args.lines.now c.loop-line.line-index c.line-item.result c.loop-line-test.true c.line-item.is))
