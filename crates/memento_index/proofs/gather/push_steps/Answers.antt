use Rattle.std.proofs.Common.{◌≡◌, ◌++◌, List, ap, arith}
use Rattle.std.proofs.lemmas.Grind.{common_steps}
use Rattle.std.specs.Arc.{arc_value}
use Rattle.memento_time.specs.declared.mementos.Memento.{Memento}
use Rattle.memento_sets.specs.Sets as set
use Rattle.memento_index.specs.Counts.{occurrences}
use Rattle.memento_index.specs.Lists.{shared_mementos}
use Rattle.memento_index.proofs.Gathering.{stepped}
use Rattle.memento_index.proofs.gather.push_steps.Goals as goal

pub returns : goal.returns
returns c =
    let made = c.args.replacement.now in
    let more = c.in_ok-more.more.items in
    let is : c.append.new.self.items ≡ c.args.steps.now.items ++ more = grind (arith, common_steps) in
    stepped (shared_mementos made.before) (set.items (arc_value made.after)) c.args.steps.now.items more c.append.new.self.items is
    (λ m. omega (
      arith,
      c.in_ok-more.ensures.counts m,
      ap (λ (ms : List Memento). occurrences ms m) c.before-2.ensures,
      ap (λ (ms : List Memento). occurrences ms m) c.after.ensures,
    ))
    (λ m. omega (arith, c.in_ok-more.ensures.shown m, ap (λ (ms : List Memento). occurrences ms m) c.before-2.ensures))
