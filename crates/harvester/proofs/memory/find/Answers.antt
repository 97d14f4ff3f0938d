use Rattle.std.proofs.Common.{◌≡◌, ℕ, ◌+◌, ◌<◌, cond, bytes_eq, List, ◌∷◌, length, get_or, Some, drop, sym, ap, ◌∙◌}
use Rattle.std.proofs.lemmas.List.{at_drop_more}
use Rattle.harvester.specs.Answers.{Entry}
use Rattle.harvester.specs.Memory.{answer_in}
use Rattle.harvester.proofs.memory.find.Goals as goal

-- what a row answers, or else those after it
step : (rows : List Entry) (u : List ℕ) (i : ℕ) (x : Entry) → i < length rows → x ≡ get_or rows i x
    → answer_in (drop i rows) u ≡ cond (bytes_eq u x.0) (Some x.1) (answer_in (drop (i + 1) rows) u)
step rows u i x lt is = at_drop_more (λ es. answer_in es u) rows i x lt ∙ ap (λ (y : Entry). answer_in (y ∷ drop (i + 1) rows) u) (sym is)

pub returns-then-eq : goal.returns-then-eq
returns-then-eq c =
    let x = c.row-item.result in
    let rows = c.args.rows.now in
    let next = answer_in (drop (c.loop-row.row-index + 1) rows) c.args.url.now in
    ap (λ b. cond b (Some x.1) next) c.if-eq.ensures
    ∙ (sym (step rows c.args.url.now c.loop-row.row-index x c.loop-row-test.true c.row-item.is) ∙ c.loop-row.invariant)

pub loop-row-preserved : goal.loop-row-preserved
loop-row-preserved c =
    let x = c.row-item.result in
    let rows = c.args.rows.now in
    let next = answer_in (drop (c.loop-row.row-index + 1) rows) c.args.url.now in
    ap (λ b. cond b (Some x.1) next) c.if-eq.ensures
    ∙ (sym (step rows c.args.url.now c.loop-row.row-index x c.loop-row-test.true c.row-item.is) ∙ c.loop-row.invariant)
