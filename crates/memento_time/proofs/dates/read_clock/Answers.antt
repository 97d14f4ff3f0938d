use Rattle.std.proofs.Common.{◌∙◌, ℕ, ◌-◌, drop, sym, ap}
use Rattle.memento_time.proofs.dates.read_clock.Goals as goal

pub returns-then-is_same : goal.returns-then-is_same
returns-then-is_same c =
    let last = c.in_ok-last_chunk.ensures.cases.1.same ∙ ap (λ (n : ℕ). drop (n - 12) c.args.text.now) c.told-text in
    let shown = c.is_same.ensures c.if-is_same.true in
    (c.if-secs-lt-DAY.true, sym last ∙ shown ∙ c.to_clock.ensures)
