use Rattle.std.proofs.Common.{◌≡◌, ◌-◌, ◌<◌, ◌≤◌, List, slice_index, sym, ap, subst, arith}
use Rattle.std.specs.List.Sorted.{IsNonDecreasing}
use Rattle.memento_time.specs.declared.mementos.Memento.{Memento}
use Rattle.memento_index.specs.Probes.{Lent, datetimes}
use Rattle.memento_index.proofs.Places.{none_last, last_named, non_decreasing}
use Rattle.memento_index.proofs.last.last_in.Goals as goal

pub returns-then-len-eq0-clause-last : goal.returns-then-len-eq0-clause-last
returns-then-len-eq0-clause-last c = none_last c.args.list.now.list c.requires.in_order (omega arith)

pub first_from-requires-clause-in_order : goal.first_from-requires-clause-in_order
first_from-requires-clause-in_order c =
    let list = c.args.list.now.list in
    let same : c.at-greatest.new.self.list ≡ list = ap (λ (l : Lent). l.list) c.at-greatest.ensures.counted in
    subst (λ (ms : List Memento). IsNonDecreasing (datetimes ms)) (sym same) (non_decreasing list c.requires.in_order)

pub returns-clause-last : goal.returns-clause-last
returns-clause-last c =
    let list = c.args.list.now.list in
    let k = c.first_from.result in
    let end = c.len-len.result - 1 in
    let same : c.at-greatest.new.self.list ≡ list = ap (λ (l : Lent). l.list) c.at-greatest.ensures.counted in
    let greatest : c.at-greatest.result ≡ slice_index (datetimes list) end = c.at-greatest.ensures.datetime in
    last_named list c.requires.in_order k end (omega arith) c.first_from.ensures.within
    (λ j lt. subst (λ x. slice_index (datetimes list) j < x) greatest
    (subst (λ (ms : List Memento). slice_index (datetimes ms) j < c.at-greatest.result) same
    (c.first_from.ensures.before j lt)))
    (λ j from to. subst (λ x. x ≤ slice_index (datetimes list) j) greatest
    (subst (λ (ms : List Memento). c.at-greatest.result ≤ slice_index (datetimes ms) j) same
    (c.first_from.ensures.after j from to)))
