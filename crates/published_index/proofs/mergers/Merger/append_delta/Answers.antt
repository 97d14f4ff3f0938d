use Rattle.std.proofs.Common.{ap, ◌∙◌, drop}
use Rattle.published_index.specs.Changes.{merges_in}
use Rattle.published_index.specs.Views.{MergerView}
use Rattle.published_index.proofs.Appending.{delta_appended}
use Rattle.published_index.proofs.mergers.Merger.append_delta.Goals as goal

pub returns-clause-ok : goal.returns-clause-ok
returns-clause-ok c =
    let was = c.self.inside.writer in
    let w = c.add.new.writer in
    let log = drop w.behind w.log.items in
    let moved = c.advance.new.self in
    delta_appended c.args.self.now _ (drop was.behind was.log.items) log c.args.peer c.args.delta.now c.in-Ok-Ok.state c.in-Ok-Ok.moved moved
    (ap (λ (v : MergerView). record v { pending = merges_in log; cursors = moved }) c.self.view_is) (ap (λ (v : MergerView). v.pending) c.self.view_is)
    (c.in-Ok-Ok.ensures' ∙ ap (λ (v : MergerView). v.cursors) c.self.view_is) c.in-Ok-Ok.ensures c.in_ok-advance.ensures.taken c.in-Ok.ensures.log
