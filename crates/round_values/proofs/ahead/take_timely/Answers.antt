use Rattle.std.proofs.Common.{◌≡◌, sym, arith}
use Rattle.round_values.specs.Ahead.{left_out}
use Rattle.round_values.proofs.AheadLemmas.{all_taken, none_left}
use Rattle.round_values.proofs.ahead.take_timely.Goals as goal

pub returns-then-left_out-eq0-clause-state : goal.returns-then-left_out-eq0-clause-state
returns-then-left_out-eq0-clause-state c =
    let test = c.if-left_out-eq0.true in
    let none : c.count_ahead-left_out.result ≡ 0 = omega (arith, test) in
    sym (all_taken c.args.last.0 c.args.state
    (none_left (left_out c.args.last.0 c.args.state) c.count_ahead-left_out.result c.count_ahead-left_out.ensures none))
