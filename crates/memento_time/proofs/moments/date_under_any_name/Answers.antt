use Rattle.std.proofs.Common.{◌≡◌, [], ◌++◌, drop, get_or, Some, ap, arith}
use borrow.Author.Count.{below_more}
use Rattle.httpdate.specs.Date.{date_text}
use Rattle.httpdate.specs.declared.date.HttpDate.{HttpDate}
use Rattle.memento_time.specs.Names.{day_names}
use Rattle.memento_time.proofs.ReadLemmas.{Reads_unique, Reads_shown, Reads_dated, length-day_names}
use Rattle.memento_time.proofs.moments.date_under_any_name.Goals as goal

pub returns-in-Some-clause-read : goal.returns-in-Some-clause-read
returns-in-Some-clause-read c =
    rw c.unix_secs.ensures.value
    (Reads_shown _ c.args.bytes.now c.in-Some.date (length-day_names c.loop-name.name-index c.loop-name-test.true) c.told-bytes c.requires
    c.in-Some.ensures.shown (rw (← c.unix_secs.ensures.value) c.unix_secs.ensures.bound))

pub returns-in-Some-clause-exact : goal.returns-in-Some-clause-exact
returns-in-Some-clause-exact c s h = ap Some (Reads_unique c.args.bytes.now c.unix_secs.result s (returns-in-Some-clause-read c) h)

pub loop-name-preserved : goal.loop-name-preserved
loop-name-preserved c =
    below_more (λ k. (date : HttpDate) → ¬ (get_or day_names k [] ++ drop 3 c.args.bytes.now ≡ date_text date))
    c.loop-name.name-index c.loop-name.invariant c.in_default.ensures.none

pub returns-clause-exact : goal.returns-clause-exact
returns-clause-exact c s h = absurd (Reads_dated c.args.bytes.now s h (λ k lt. c.loop-name.invariant k (omega arith)))
