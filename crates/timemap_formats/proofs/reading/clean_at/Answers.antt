use Rattle.std.proofs.Common.{sym, ◌∙◌, ap, Some, refl}
use Rattle.timemap_formats.proofs.ReadingLemmas.{clean_at_clean, clean_at_other}
use Rattle.timemap_formats.proofs.reading.clean_at.Goals as goal

pub returns-in-Ok : goal.returns-in-Ok
returns-in-Ok c = ap Some c.in-Ok.ensures.ok.0 ∙ sym (clean_at_clean c.args.text.now c.in-Ok.ensures.ok.1)

pub returns-in-Err-NotClean : goal.returns-in-Err-NotClean
returns-in-Err-NotClean c =
    sym (clean_at_other c.args.text.now (c.new.ensures.not_clean.0 (rw (c.in-Err-NotClean.is, c.in-Err-NotClean.field-0-is) refl)))
