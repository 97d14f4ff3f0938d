use Rattle.std.proofs.Common.{◌++◌, ◌∙◌, get_or, take, string_bytes, sym, ap, append_assoc}
use Rattle.service_settings.specs.Shown.{shown_byte, shown_bytes}
use Rattle.service_settings.proofs.ToldLemmas.{shown_bytes-more}
use Rattle.service_settings.proofs.printing.push_bytes.Goals as goal

pub loop-byte-preserved : goal.loop-byte-preserved
loop-byte-preserved c =
    let bs = c.args.bytes.now in
    let i = c.loop-byte.byte-index in
    c.in_ok-push_byte.ensures
    ∙ (ap (λ s. s ++ shown_byte (get_or bs i 0)) c.loop-byte.invariant
    ∙ (append_assoc (string_bytes c.args.shown.now) (shown_bytes (take i bs)) (shown_byte (get_or bs i 0))
    ∙ ap (λ t. string_bytes c.args.shown.now ++ t) (sym (shown_bytes-more bs i c.loop-byte-test.true))))
