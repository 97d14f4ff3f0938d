use Rattle.std.proofs.Common.{ap, ◌∙◌, subst}
use Rattle.published_index.specs.Cursors.{with_publish}
use Rattle.published_index.specs.Events.{RunsAsEvents}
use Rattle.published_index.specs.Views.{MergerView}
use Rattle.round_values.proofs.keeping.publish_states.Goals as goal

pub returns-clause-ok : goal.returns-clause-ok
returns-clause-ok g c = c.settle.ensures ∙ (c.in-Ok.ensures.ok ∙ ap with_publish c.in_ok-append_states.ensures.ok)

pub returns-clause-events : goal.returns-clause-events
returns-clause-events g c =
    subst (λ (m : MergerView). RunsAsEvents m.published m.pending) c.in_ok-append_states.ensures.ok c.in-Ok.ensures.events
