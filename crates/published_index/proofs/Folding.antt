-- What the changes of one batch do to a copy.
use Rattle.std.proofs.Common.{◌≡◌, List, [], ◌∷◌, ◌++◌, fold, refl, sym, ap, ◌∙◌, append_assoc, append-nil, subst, Contains, box_value}
use Rattle.std.proofs.lemmas.List.Elements.{Contains-append_left}
use mathlib.Core.List.{IsPrefix}
use Rattle.memento_index.specs.declared.merge.Merge.{Merge}
use Rattle.harvest_lattice.specs.Knowledge.{Harvested}
use Rattle.memento_index.specs.Merges.{adds_of}
use Rattle.published_index.specs.declared.editions.Edition.{Edition}
use Rattle.published_index.specs.declared.editions.Change.{Change}
use Rattle.published_index.specs.declared.editions.Change.TheVariants.{Reach, Add}
use Rattle.published_index.specs.declared.marks.Mark.{Mark}
use Rattle.published_index.specs.Batches.{Batch, merges_of, harvests_of, fold_of}
use Rattle.published_index.specs.Changes.{after_change, merges_in}
use Rattle.published_index.specs.Stamping.{stamped_with}

pub merges-append : (list : List Batch) (batch : Batch) → merges_of (list ++ batch ∷ []) ≡ merges_of list ++ batch
merges-append [] batch = append-nil batch
merges-append (b ∷ bs) batch = ap (λ (m : Batch). b ++ m) (merges-append bs batch) ∙ sym (append_assoc b (merges_of bs) batch)

harvests-append : (ms ns : List Merge) → harvests_of (ms ++ ns) ≡ harvests_of ms ++ harvests_of ns
harvests-append [] ns = refl
harvests-append (m ∷ ms) ns = ap (λ (h : List Harvested). adds_of m ++ h) (harvests-append ms ns) ∙ sym (append_assoc (adds_of m) (harvests_of ms) (harvests_of ns))

pub fold-batch : (list : List Batch) (batch : Batch) → fold_of (list ++ batch ∷ []) ≡ fold_of list ++ harvests_of batch
fold-batch list batch = ap harvests_of (merges-append list batch) ∙ harvests-append (merges_of list) batch

-- changes whose last is a mark: what they add is absorbed, and the mark is the last
pub changes : (x : Edition) (cs : List Change) (mark : Mark) → fold after_change x (cs ++ Reach mark ∷ []) ≡ record { stamped = fold stamped_with x.stamped (merges_in cs); mark = mark }
changes x [] mark = refl
changes x (Reach m ∷ cs) mark = changes (record { stamped = x.stamped; mark = m }) cs mark
changes x (Add m ∷ cs) mark = changes (record { stamped = stamped_with x.stamped (box_value m); mark = x.mark }) cs mark

pub merges_in-append : (cs ds : List Change) → merges_in (cs ++ ds) ≡ merges_in cs ++ merges_in ds
merges_in-append [] ds = refl
merges_in-append (Reach mark ∷ cs) ds = merges_in-append cs ds
merges_in-append (Add m ∷ cs) ds = ap (λ (ms : List Merge). box_value m ∷ ms) (merges_in-append cs ds)

pub merges_in-reach : (cs : List Change) (mark : Mark) → merges_in (cs ++ Reach mark ∷ []) ≡ merges_in cs
merges_in-reach cs mark = merges_in-append cs (Reach mark ∷ []) ∙ append-nil (merges_in cs)

-- what is taken, merge by merge
pub taken-all : (taken : List Harvested) (batch : Batch) → fold (λ (t : List Harvested) (m : Merge). t ++ adds_of m) taken batch ≡ taken ++ harvests_of batch
taken-all taken [] = sym (append-nil taken)
taken-all taken (m ∷ ms) = taken-all (taken ++ adds_of m) ms ∙ append_assoc taken (adds_of m) (harvests_of ms)

merges-more : (list more : List Batch) → merges_of (list ++ more) ≡ merges_of list ++ merges_of more
merges-more [] more = refl
merges-more (b ∷ bs) more = ap (λ (m : Batch). b ++ m) (merges-more bs more) ∙ sym (append_assoc b (merges_of bs) (merges_of more))

-- a list has the merges of its beginnings
pub merges_of_prefix : (list front : List Batch) → IsPrefix list front → (m : Merge) → Contains (merges_of list) m → Contains (merges_of front) m
merges_of_prefix list front p m at = subst (λ (l : List Batch). Contains (merges_of l) m) p.1
    (subst (λ (ms : List Merge). Contains ms m) (sym (merges-more list p.0)) (Contains-append_left (merges_of list) (merges_of p.0) m at))

-- and their harvests
pub harvests_of_prefix : (list front : List Batch) → IsPrefix list front → (h : Harvested) → Contains (fold_of list) h → Contains (fold_of front) h
harvests_of_prefix list front p h at =
    let all : fold_of (list ++ p.0) ≡ fold_of list ++ fold_of p.0 = ap harvests_of (merges-more list p.0) ∙ harvests-append (merges_of list) (merges_of p.0) in
    subst (λ (l : List Batch). Contains (fold_of l) h) p.1 (subst (λ (hs : List Harvested). Contains hs h) (sym all) (Contains-append_left (fold_of list) (fold_of p.0) h at))
