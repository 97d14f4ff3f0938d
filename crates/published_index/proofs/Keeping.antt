-- The steps keep the rule.
use Rattle.std.proofs.Common.{◌≡◌, ◌≢◌, ℕ, ◌<◌, List, [], ◌∷◌, ◌++◌, set, true, false, refl, sym, ap, ◌∙◌, subst, ⊎_elim, arith}
use Rattle.std.proofs.Common.{Bool, IsTrue, Result, Ok, Err, MatchResult, fold, length, true≢false}
use mathlib.Core.Option.{some, some-ne-none}
use lib.ListN.{get_elem?}
use Rattle.crossbeam_utils.specs.Register.{Admits, TurnsAt, Turns, Forks, Merges}
use Rattle.atomic_table.proofs.Lists.{at_set, at_snoc}
use Rattle.published_index.specs.declared.editions.Edition.{Edition}
use Rattle.published_index.specs.declared.views.ReaderView.{ReaderView}
use Rattle.published_index.specs.declared.editions.Change.{Change}
use Rattle.published_index.specs.Changes.{IsWhole, batches_of, after_change}
use Rattle.published_index.specs.Passes.{no_view, opening_of}
use Rattle.published_index.specs.Rule.{Covers, Keeps, Enters, Shows, IsReady, view_at, view_of_note}
use Rattle.published_index.proofs.Fronts.{prefix_self, prefix_trans}

abbrev AllCovered : Edition → List ReaderView → Type 0
AllCovered x passes = (seat : ℕ) (p : ReaderView) → get_elem? passes seat ≡ some p → Covers x p

covered_set : (x : Edition) (passes : List ReaderView) (seat : ℕ) (w : ReaderView) → AllCovered x passes → Covers x w → AllCovered x (set passes seat w)
covered_set x passes seat w all here j p at = ⊎_elim (λ (t : (j ≡ seat) × (w ≡ p)). subst (Covers x) t.1 here)
    (λ (t : (j ≢ seat) × (get_elem? passes j ≡ some p)). all j p t.1) (at_set passes seat j w p at)

covered_snoc : (x : Edition) (passes : List ReaderView) (w : ReaderView) → AllCovered x passes → Covers x w → AllCovered x (passes ++ w ∷ [])
covered_snoc x passes w all here j p at = ⊎_elim (all j p) (λ (same : w ≡ p). subst (Covers x) same here) (at_snoc passes w p j at)

nothing_covered : (x : Edition) → Covers x no_view
nothing_covered x = ((batches_of x, refl), (λ (named : false ≡ true). absurd cc))

covered_itself : (x : Edition) → Covers x (view_at x)
covered_itself x = (prefix_self (batches_of x), (λ _. (refl, refl)))

covers_next : (x y : Edition) → IsReady x y → (p : ReaderView) → Covers x p → Covers y p
covers_next x y ready p c = (prefix_trans p.front (batches_of x) (batches_of y) c.0 ready.batches, (λ named. ((c.1 named).0 ∙ ap opening_of (sym ready.book), (c.1 named).1 ∙ sym ready.incarnation)))

pub admits : Admits Keeps no_view
admits x passes h = (h.0, covered_snoc x passes no_view h.1 (nothing_covered x))

pub enters : (seat : ℕ) (v : ReaderView) → Turns Keeps seat v (λ x. x) Enters
enters seat v x passes h at = (view_at x, (h.0, covered_set x passes seat (view_at x) h.1 (covered_itself x)), (refl, h.0, h.1 seat v at))

pub shows : (seat : ℕ) (v : ReaderView) (x y : Edition) → IsReady x y → TurnsAt Keeps seat v x y Shows
shows seat v x y ready passes h at =
    (view_at y, (ready.whole h.0, covered_set y passes seat (view_at y) (λ j p there. covers_next x y ready p (h.1 j p there)) (covered_itself y)), refl)

pub forks : (seat : ℕ) (p : ReaderView) → Forks Keeps seat p p p
forks seat p x passes h at = let c = h.1 seat p at in (h.0, covered_snoc x (set passes seat p) p (covered_set x passes seat p h.1 c) c)

pub merges : (seat : ℕ) (p : ReaderView) (other : ℕ) (q : ReaderView) → Merges Keeps seat p other q (view_of_note p q) no_view
merges seat p other q x passes h at apart there =
    let d : Covers x q = ⊎_elim (λ (t : (other ≡ seat) × (view_of_note p q ≡ q)). absurd (apart t.0))
    (λ (t : (other ≢ seat) × (get_elem? passes other ≡ some q)). h.1 other q t.1) (at_set passes seat other (view_of_note p q) q there) in
    (h.0, covered_set x (set passes seat (view_of_note p q)) other no_view (covered_set x passes seat (view_of_note p q) h.1 d) (nothing_covered x))

pub opens : (x : Edition) → IsWhole x → Keeps x (no_view ∷ [])
opens x whole = (whole, covered_snoc x [] no_view (λ j p at. absurd (some-ne-none p (sym at))) (nothing_covered x))

pub ready_itself : (x : Edition) → IsReady x x
ready_itself x = record { book = refl; incarnation = refl; batches = prefix_self (batches_of x); whole = λ w. w }

-- no change is pending where one would be told
pub none_pending : (changes : List Change) (told : Bool) → told ≡ false → (0 < length changes → IsTrue told) → changes ≡ []
none_pending [] told is tells = refl
none_pending (c ∷ cs) told is tells = absurd (true≢false (sym (subst IsTrue is (tells (omega arith)))))

-- without a change a copy may be shown after itself
pub ready_settled : (x : Edition) (changes : List Change) → changes ≡ [] → IsReady x (fold after_change x changes)
ready_settled x changes none = subst (λ (cs : List Change). IsReady x (fold after_change x cs)) (sym none) (ready_itself x)

-- and what is shown then is what was shown, whether showing was refused or not
pub same_settled : {E : Type 0} → (A B C D : Type 0) (r : Result (Unit {0}) E) (x y : Edition) (changes : List Change) → changes ≡ []
    → MatchResult r (λ _. (y ≡ fold after_change x changes) × A × B) (λ _. (y ≡ x) × C × D) → y ≡ x
same_settled A B C D (Ok o) x y changes none shown = shown.0 ∙ ap (fold after_change x) none
same_settled A B C D (Err e) x y changes none shown = shown.0
