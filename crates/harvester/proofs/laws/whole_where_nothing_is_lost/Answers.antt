use Rattle.std.proofs.Common.{sym, ◌∙◌}
use Rattle.harvester.proofs.laws.whole_where_nothing_is_lost.Goals as goal

pub returns : goal.returns
returns g c = λ job entries lost h o.
    let whole = o.ends.2.whole in
    ((λ w. o.losses ∙ whole.0 w), (λ none. whole.1 (sym o.losses ∙ none)))
