use Rattle.service_settings.proofs.PlainLemmas.{shown_plain}
use Rattle.service_settings.proofs.laws.what_is_shown_is_plain.Goals as goal

pub returns : goal.returns
returns c = λ most text bytes small. shown_plain most text bytes small
