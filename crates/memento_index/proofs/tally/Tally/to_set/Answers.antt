use Rattle.std.proofs.Common.{◌≡◌, ◌==◌, ℕ, List, Result, Ok, Err, IfSome, IfOk, true, length, sym, ap, subst, ◌∙◌, arith, rules}
use Rattle.std.specs.Arc.{arc_value}
use Rattle.std.specs.List.{list_all}
use Rattle.std.specs.Result.{result_ok}
use Rattle.memento_time.specs.Mementos.{memento_cmp}
use Rattle.memento_time.specs.declared.mementos.Memento.{Memento}
use Rattle.memento_sets.specs.Sets as set
use Rattle.memento_sets.specs.MementoSets.{Mementos}
use Rattle.memento_index.specs.Counts.{IsTally}
use Rattle.memento_index.specs.Tallies.{Tallied, beside, each_once}
use Rattle.memento_index.proofs.Shared.{ones_as_set}
use Rattle.memento_index.proofs.tally.Tally.to_set.Goals as goal

-- what holds of the value of a result holds of the value kept
kept : {A E : Type 0} (P Q : A → Type 0) (r : Result A E) → ((x : A) → P x → Q x) → IfOk r P → IfSome (result_ok r) Q
kept P Q (Ok x) f h = f x h
kept P Q (Err e) f h = tt

pub returns : goal.returns
returns c up =
    let ms = c.self.inside.mementos.items in
    let ns = c.self.inside.counts.items in
    let ones : c.are_ones.result ≡ true = search rules in
    let all : list_all (λ n. n == 1) ns ≡ true = ap (λ (ks : List ℕ). list_all (λ n. n == 1) ks) (sym c.deref.ensures.value)
    ∙ (sym c.are_ones.ensures ∙ ones) in
    let same : length ms ≡ length ns = omega (arith, c.self.inside.mementos.ok.0, c.self.inside.counts.ok.0, c.self.invariant) in
    let entries : beside ms ns ≡ c.args.self.now.entries = ap (λ (t : Tallied). t.entries) c.self.view_is in
    let once = ones_as_set ms ns same all (subst IsTally (sym entries) up) in
    subst (λ r. IfSome r (λ list. each_once (set.items (arc_value list)) ≡ c.args.self.now.entries)) (sym c.ok.ensures.value)
    (kept _ _ c.set_of.result (λ list is.
    ap (λ (s : Mementos). each_once (set.items s)) (is ∙ ap (λ (xs : List Memento). set.from_list {R = memento_cmp} xs) c.deref-2.ensures.value)
    ∙ (once ∙ entries)) c.set_of.ensures)
