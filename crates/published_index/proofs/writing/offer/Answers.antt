use Rattle.std.proofs.Common.{[], ◌∷◌, ◌++◌, ap, sym, ◌∙◌, drop}
use Rattle.published_index.specs.declared.marks.LogEntry.{LogEntry}
use Rattle.published_index.specs.Marks.{successes}
use Rattle.published_index.proofs.Logs.{successes-attempt}
use Rattle.published_index.proofs.Offering.{offered, offers}
use Rattle.published_index.proofs.writing.offer.Goals as goal

pub returns-clause-pending : goal.returns-clause-pending
returns-clause-pending g c = offered c.note.result _ _ _ c.note.ensures.log

pub returns-clause-mark : goal.returns-clause-mark
returns-clause-mark g c =
    let new = c.in-Some.ensures in
    (new.0, ap successes (new.1 ∙ ap (λ (e : LogEntry). c.args.mark.now.seen.log ++ e ∷ []) c.requires.entry) ∙ successes-attempt c.args.mark.now.seen.log _)

pub returns-clause-ready : goal.returns-clause-ready
returns-clause-ready g c =
    let new = c.in-Some.ensures in
    let w = c.args.writer.now in
    let w' = c.note.new.writer in
    let is = new.1 ∙ ap (λ (e : LogEntry). c.args.mark.now.seen.log ++ e ∷ []) c.requires.entry in
    let done = offers c.note.result w.desk.shown.value c.args.mark.now.seen.log (drop w.behind w.log.items) (drop w'.behind w'.log.items)
    c.in-Some.attempted (new.0 ∙ sym c.requires.shown.0) c.requires.shown.1 is (rw (← c.copy.ensures) c.note.ensures.log) in
    rw c.note.ensures.desk done
