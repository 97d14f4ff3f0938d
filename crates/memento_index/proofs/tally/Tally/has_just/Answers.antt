use Rattle.std.proofs.Common.{◌≡◌, ◌==◌, ℕ, List, true, length, sym, ap, ◌∙◌}
use Rattle.std.specs.List.{list_all}
use Rattle.memento_time.specs.declared.mementos.Memento.{Memento}
use Rattle.memento_index.specs.Tallies.{Tallied, each_once}
use Rattle.memento_index.proofs.Shared.{beside_ones}
use Rattle.memento_index.proofs.tally.Tally.has_just.Goals as goal

pub returns-then-are_same : goal.returns-then-are_same
returns-then-are_same c ones =
    let ms = c.self.inside.mementos.items in
    let ns = c.self.inside.counts.items in
    let all : list_all (λ n. n == 1) ns ≡ true =
    ap (λ (ks : List ℕ). list_all (λ n. n == 1) ks) (sym c.deref-then-are_same.ensures.value)
    ∙ (sym c.are_ones.ensures ∙ ones) in
    let same : ms ≡ c.args.mementos.now = sym c.deref.ensures.value ∙ c.are_same.ensures.0 c.if-are_same.true in
    let left = sym (ap (λ (xs : List Memento). length xs) c.deref.ensures.value) ∙ c.deref.ensures.len in
    let right = sym c.deref-then-are_same.ensures.len ∙ ap (λ (ks : List ℕ). length ks) c.deref-then-are_same.ensures.value in
    ap (λ (t : Tallied). t.entries) (sym c.self.view_is) ∙ (beside_ones ms ns (left ∙ (c.self.invariant ∙ right)) all
    ∙ ap (λ (xs : List Memento). each_once xs) same)
