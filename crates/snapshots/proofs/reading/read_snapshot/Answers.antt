use Rattle.std.proofs.Common.{◌≡◌, ◌+◌, ◌<◌, ◌^◌, List, ℕ, rules, arith, subst}
use Rattle.std.proofs.lemmas.Option.{IfSome_then}
use Rattle.replica_exchange.specs.StateText.{IsTextOf}
use Rattle.replica_exchange.specs.Faults.{IsCause}
use Rattle.snapshots.specs.Faults.{of_text}
use Rattle.snapshots.proofs.ReadingBack.{became, none_read, one_read, all_read, no_first_line, no_section, refused_text, too_many}
use Rattle.snapshots.proofs.reading.read_snapshot.Goals.{else-loop-count-test, then-loop-count-test+in_ok-text+in-Some+in_ok-state+in_ok-push+else-count-lt18446744073709551615}
use Rattle.snapshots.proofs.reading.read_snapshot.Goals as goal

pub loop-count-init : goal.loop-count-init
loop-count-init g c = none_read _ _ _ c.in_ok-read_first_line.ensures.read c.new-states.ensures.items

pub loop-count-preserved : goal.loop-count-preserved
loop-count-preserved g c =
    let lent : c.deref.result.now ≡ c.in-Some.text.items = search rules in
    let is : IsTextOf c.in-Some.text.items c.in_ok-state.state = subst (λ (t : List ℕ). IsTextOf t c.in_ok-state.state) lent c.in_ok-state.ensures.found in
    let section = rw c.in-Some.is at c.in_ok-text.ensures.read in
    let within = rw c.in-Some.is at c.in_ok-text.ensures.within in
    rw c.in_ok-push.ensures.items (one_read _ _ _ c.loop-count.count _ _ c.in_ok-state.state c.loop-count.invariant section within is)

pub returns-in_default-clause-read : goal.returns-in_default-clause-read
returns-in_default-clause-read g c =
    let few : c.loop-count.count < 2 ^ 64 = omega (arith, c.loop-count-test.true) in
    let last = rw c.in_default.is at c.in_ok-text.ensures.read in
    all_read _ _ _ c.loop-count.count _ c.loop-count.invariant few last.0 last.1

pub returns-in_err-read_first_line-clause-refused : goal.returns-in_err-read_first_line-clause-refused
returns-in_err-read_first_line-clause-refused g c is = IfSome_then _ (search rules) no_first_line

pub returns-in_err-text-clause-refused : goal.returns-in_err-text-clause-refused
returns-in_err-text-clause-refused g c is = no_section _ _ c.loop-count.count _ c.loop-count.invariant (search rules)

pub returns-in_err-state-clause-refused : goal.returns-in_err-state-clause-refused
returns-in_err-state-clause-refused g c is =
    let lent : c.deref.result.now ≡ c.in-Some.text.items = search rules in
    let section = rw c.in-Some.is at c.in_ok-text.ensures.read in
    let within = rw c.in-Some.is at c.in_ok-text.ensures.within in
    let cause = subst (λ (t : List ℕ). IsCause c.in_err-state.field-0.0 t) lent c.in_err-state.ensures.cause in
    refused_text _ _ _ c.loop-count.count _ c.in-Some.text.items c.in_err-state.field-0.0 c.loop-count.invariant section within cause
    (became c.from_residual-in_err-state.result (of_text c.in_err-state.field-0.0) c.from_residual-in_err-state.ensures.1 is)

pub returns-clause-refused : goal.returns-clause-refused
returns-clause-refused g c is = elim c.loop-count-test.branch [
  | else-loop-count-test w ↦ absurd (omega (arith, w.loop-count-test.false, c.loop-count.auto.count-end))
  | then-loop-count-test+in_ok-text+in-Some+in_ok-state+in_ok-push+else-count-lt18446744073709551615 w ↦
      let lent : w.deref.result.now ≡ w.in-Some.text.items = search rules in
      let is : IsTextOf w.in-Some.text.items w.in_ok-state.state = subst (λ (t : List ℕ). IsTextOf t w.in_ok-state.state) lent w.in_ok-state.ensures.found in
      let section = rw w.in-Some.is at w.in_ok-text.ensures.read in
      let within = rw w.in-Some.is at w.in_ok-text.ensures.within in
      too_many _ _ (c.loop-count.count + 1) _ (one_read _ _ _ c.loop-count.count _ _ w.in_ok-state.state c.loop-count.invariant section within is) (search rules)
]
