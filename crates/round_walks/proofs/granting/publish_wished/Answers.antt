use Rattle.std.proofs.Common.{rules}
use Rattle.round_walks.proofs.granting.publish_wished.Goals as goal

pub returns-then-is_due : goal.returns-then-is_due
returns-then-is_due g c =
    (c.now-now.result.0, λ _. (c.publish.result.published, c.publish.ensures.merger), λ never. absurd (never (search rules)))
