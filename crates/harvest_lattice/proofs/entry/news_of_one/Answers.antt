use Rattle.std.proofs.Common.{◌≡◌, ℕ, Bool, true, false, cond, [], Option, Some, None, refl, sym, ap, ◌∙◌}
use Rattle.memento_sets.specs.MementoSets.{Mementos}
use Rattle.harvest_lattice.specs.Lattice.{Kept, whole, held, not_before}
use Rattle.harvest_lattice.specs.Lacks.{lack, stays_whole}
use Rattle.harvest_lattice.specs.Parts.{kept_in}
use Rattle.harvest_lattice.proofs.Parts.{entries_in, whole_in}
use Rattle.harvest_lattice.proofs.NewsLemmas.{news_of_one, no_news_of_one}
use Rattle.harvest_lattice.proofs.entry.news_of_one.Goals as goal

-- what isn't older stays whole
still_whole : (w : Bool) (l : Option ℕ) (r : ℕ) → not_before l r ≡ true → w ≡ stays_whole l (cond w (Some r) None)
still_whole true l r late = sym late
still_whole false l r late = refl

pub returns-then-not-is_not_before : goal.returns-then-not-is_not_before
returns-then-not-is_not_before c =
    let w = c.args.is_whole in
    let p : ℕ × Mementos = c.args.part.now in
    let old = sym (c.is_not_before.ensures ∙ (λ i. not_before (c.whole.ensures i) (c.revision.ensures i))) ∙ c.if-not-is_not_before.true in
    c.of_part.ensures ∙ ((λ i. kept_in w (c.in_ok-copy.ensures i) [])
    ∙ no_news_of_one c.args.standing.now (kept_in w p []) p (entries_in w p [] tt) old)

pub returns : goal.returns
returns c =
    let w = c.args.is_whole in
    let a : Kept = c.args.standing.now in
    let p : ℕ × Mementos = c.args.part.now in
    let late = sym (c.is_not_before.ensures ∙ (λ i. not_before (c.whole.ensures i) (c.revision.ensures i))) ∙ c.if-not-is_not_before.false in
    let stays : w ≡ stays_whole (whole a) (whole (kept_in w p [])) = still_whole w (whole a) p.0 late ∙ ap (stays_whole (whole a)) (sym (whole_in w p [] tt)) in
    c.of_part-2.ensures ∙ ((λ i. kept_in (stays i) (c.in_ok-news.ensures i) [])
    ∙ ((λ i. kept_in (stays_whole (whole a) (whole (kept_in w p []))) (p.0, lack (held (c.reading.ensures i) p.0) p.1) [])
    ∙ news_of_one a (kept_in w p []) p (entries_in w p [] tt) late))
