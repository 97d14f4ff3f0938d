use Rattle.std.proofs.Common.{drop}
use Rattle.published_index.proofs.Keeping.{none_pending, ready_settled, same_settled}
use Rattle.published_index.proofs.writing.catch_up.Goals as goal

pub show-writer-requires : goal.show-writer-requires
show-writer-requires g c =
    let writer = c.args.writer in
    let changes = drop writer.behind writer.log.items in
    ready_settled writer.desk.shown.value changes (none_pending changes _ c.if-has_pending_operations.false c.has_pending_operations.ensures.1)

pub returns-clause-shown : goal.returns-clause-shown
returns-clause-shown g c =
    let w = c.args.writer in
    let w' = c.show-writer.result.0 in
    let changes = drop w.behind w.log.items in
    let none = none_pending changes _ c.if-has_pending_operations.false c.has_pending_operations.ensures.1 in
    same_settled _ _ _ _ c.show-writer.result.1 w.desk.shown.value w'.desk.shown.value changes none c.show-writer.ensures.shown
