use Rattle.std.proofs.Common.{◌≡◌, ◌∙◌, ℕ, ◌+◌, ◌*◌, ◌/◌, Option, Some, None, sym, subst}
use Rattle.std.specs.Option.{SomeIff, IfSome}
use Rattle.memento_time.specs.Clock.{day_of}
use Rattle.memento_time.specs.Second.{Reads}
use Rattle.memento_time.proofs.DayLemmas.{day_of_clock, Reads_same_day}
use Rattle.memento_time.proofs.dates.DateReader.read_same_day.Goals as goal

of_value : (P : Type 0) (Q : ℕ → Type 0) (o : Option ℕ) (v : ℕ) → SomeIff o P v → Q v → IfSome o Q
of_value P Q None v h q = tt
of_value P Q (Some x) v h q = subst Q (sym h.1) q

pub returns : goal.returns
returns c =
    let same = c.is_same.ensures c.if-not-is_same.false in
    let front = sym c.in_ok-first_chunk.ensures.cases.same ∙ same ∙ c.in_ok-first_chunk-2.ensures.cases.same in
    let clock = c.in_ok-clock.ensures in
    let same_day = Reads_same_day c.args.text.now c.self.inside.text c.self.inside.moment c.in_ok-clock.clock c.self.invariant c.told-text front clock.0 clock.1 in
    let day = day_of_clock c.self.inside.moment c.in_ok-clock.clock clock.0 ∙ c.self.view_is in
    of_value _ (λ s. Reads c.args.text.now s × day_of s ≡ c.args.self.now) c.from_secs.result
    (c.secs.result / 86400 * 86400 + c.in_ok-clock.clock) c.from_secs.ensures (rw c.secs.ensures.value (same_day, day))
