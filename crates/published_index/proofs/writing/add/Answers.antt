use Rattle.std.proofs.Common.{drop, ap, [], ◌∷◌}
use Rattle.memento_index.specs.declared.merge.Merge.{Merge}
use Rattle.published_index.proofs.Appending.{noted}
use Rattle.published_index.proofs.writing.add.Goals as goal

pub returns-clause-log : goal.returns-clause-log
returns-clause-log c =
    let was = c.args.writer.now in
    let w = c.note.new.writer in
    noted c.note.result (drop was.behind was.log.items) (drop w.behind w.log.items) _ _ (ap (λ (m : Merge). m ∷ []) c.in_ok-merge.ensures.ok) c.note.ensures.log
