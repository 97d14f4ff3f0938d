use Rattle.std.proofs.Common.{◌≡◌, ap, sym, ◌∙◌, arith}
use Rattle.std.specs.List.{list_all}
use Rattle.std.proofs.lemmas.List.{take_all}
use Rattle.memento_time.specs.Text.{is_clean_byte}
use Rattle.memento_time.proofs.CleanLemmas.{clean_bytes, are_clean}
use Rattle.memento_time.proofs.texts.are_few_clean_bytes.Goals as goal

pub returns : goal.returns
returns c =
    let whole : c.loop-byte.clean ≡ list_all is_clean_byte c.args.text.now =
    c.loop-byte.invariant ∙ ap (list_all is_clean_byte) (take_all c.loop-byte.byte-index c.args.text.now (omega arith)) in
    ((λ clean. clean_bytes c.args.text.now (sym whole ∙ clean)), (λ clean. whole ∙ are_clean c.args.text.now clean))
