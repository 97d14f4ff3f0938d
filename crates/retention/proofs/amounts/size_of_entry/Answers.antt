use Rattle.std.proofs.Common.{◌≡◌, ◌≤◌, ℕ, List, [], length, drop, ap, ◌∙◌, arith}
use Rattle.std.specs.FinMap as fmap
use Rattle.std.proofs.lemmas.List.{drop_all}
use Rattle.memento_sets.specs.MementoSets.{Mementos}
use Rattle.retention.specs.Amounts.{sum_sizes}
use Rattle.retention.proofs.amounts.size_of_entry.Goals as goal

pub returns : goal.returns
returns c =
    let es : List (ℕ × Mementos) = fmap.entries c.args.entry.now.revisions in
    let all : c.revisions-k-end.result ≡ length es = c.revisions-k-end.ensures ∙ fmap.len-entries c.args.entry.now.revisions in
    let test = c.loop-k-test.false in
    let past : length es ≤ c.loop-k.k = omega (arith, all, test) in
    let none : sum_sizes (drop c.loop-k.k es) ≡ 0 = ap sum_sizes (drop_all c.loop-k.k es past) in
    let so_far = c.loop-k.invariant in
    omega (arith, so_far, none)
