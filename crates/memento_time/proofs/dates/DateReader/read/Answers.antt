use Rattle.std.proofs.Common.{None, refl, sym}
use Rattle.memento_time.proofs.ReadLemmas.{whole_array, no_array}
use Rattle.memento_time.proofs.SecondOfLemmas.{answer-second_of, second_of-Reads}
use Rattle.memento_time.proofs.dates.DateReader.read.Goals as goal

pub returns-in_err-text : goal.returns-in_err-text
returns-in_err-text c =
    let short = no_array c.args.text.now _ c.try_into.ensures.1 c.in_err-text.ensures.value in
    let none = answer-second_of c.args.text.now None tt (λ s h. absurd (short h.len)) in
    rw c.from_residual.ensures record { read = none; day = tt; none = refl }

pub returns-in-Some : goal.returns-in-Some
returns-in-Some c =
    let same = (whole_array c.args.text.now _ _ c.try_into.ensures.1 c.in_ok-text.ensures.value).0 in
    rw (← same) record { read = sym (second_of-Reads _ _ c.in-Some.ensures.0); day = sym c.in-Some.ensures.1; none = tt }
