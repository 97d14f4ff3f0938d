use Rattle.std.proofs.Common.{◌≤◌, length, ap, ◌∙◌, arith}
use Rattle.link_format.specs.Bytes.{is_plain, is_target_byte}
use Rattle.link_format.specs.Scan.{past}
use Rattle.link_format.proofs.Fronts.{usual_drop}
use Rattle.link_format.proofs.blocks.skip_usual.Goals as goal

pub usual-preserved : goal.usual-preserved
usual-preserved c =
    let within : c.usual_run-run.result ≤ length c.usual.rest.now = omega arith in
    let both = usual_drop c.usual_run-run.result c.usual.rest.now c.usual_run-run.ensures.usual within in
    record {
      target = ap (past is_target_byte) c.split_at.ensures.back ∙ both.0 ∙ c.usual.invariant.target;
      plain = ap (past is_plain) c.split_at.ensures.back ∙ both.1 ∙ c.usual.invariant.plain;
    }

pub returns-then-run-lt-LANES : goal.returns-then-run-lt-LANES
returns-then-run-lt-LANES c =
    let within : c.usual_run-run.result ≤ length c.usual.rest.now = omega arith in
    let both = usual_drop c.usual_run-run.result c.usual.rest.now c.usual_run-run.ensures.usual within in
    record {
      target = ap (past is_target_byte) c.split_at.ensures.back ∙ both.0 ∙ c.usual.invariant.target;
      plain = ap (past is_plain) c.split_at.ensures.back ∙ both.1 ∙ c.usual.invariant.plain;
    }
