use Rattle.std.proofs.Common.{ap, drop}
use Rattle.published_index.specs.Changes.{merges_in}
use Rattle.published_index.specs.Views.{MergerView}
use Rattle.published_index.proofs.Appending.{appended}
use Rattle.published_index.proofs.Outcomes.{on_ok, on_err}
use Rattle.published_index.proofs.mergers.Merger.append.Goals as goal

pub returns-clause-ok : goal.returns-clause-ok
returns-clause-ok c =
    let was = c.self.inside.writer in
    let w = c.add.new.writer in
    let log = drop w.behind w.log.items in
    on_ok c.add.result _ _ (appended c.add.result c.args.self.now _ (drop was.behind was.log.items) log c.in_ok-copy.copy c.args.merge.now
    (ap (λ (v : MergerView). record v { pending = merges_in log }) c.self.view_is) (ap (λ (v : MergerView). v.pending) c.self.view_is)
    c.in_ok-copy.ensures c.add.ensures.log)

pub returns-clause-err : goal.returns-clause-err
returns-clause-err c =
    let was = c.self.inside.writer in
    let w = c.add.new.writer in
    let log = drop w.behind w.log.items in
    on_err c.add.result _ _ (appended c.add.result c.args.self.now _ (drop was.behind was.log.items) log c.in_ok-copy.copy c.args.merge.now
    (ap (λ (v : MergerView). record v { pending = merges_in log }) c.self.view_is) (ap (λ (v : MergerView). v.pending) c.self.view_is)
    c.in_ok-copy.ensures c.add.ensures.log)
