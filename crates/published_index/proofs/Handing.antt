-- What a merger is handed is published.
use Rattle.std.proofs.Common.{◌≡◌, List, [], ◌∷◌, ◌++◌, fold, sym, ap, ◌∙◌, append_assoc, append-nil, subst, Contains}
use Rattle.std.specs.List.{flat_map}
use Rattle.std.proofs.lemmas.List.Elements.{Contains-append_right}
use Rattle.std.proofs.lemmas.List.Sums.{fold-append}
use mathlib.Core.List.{IsPrefix}
use Rattle.memento_index.specs.declared.merge.Merge.{Merge}
use Rattle.memento_index.specs.declared.merge.Merge.TheVariants.{State}
use Rattle.published_index.specs.Batches.{merges_of}
use Rattle.published_index.specs.Cursors.{MergerCall, Append, AppendDelta, MoveCursor, Publish, after_call, handed_by, merges_with_pending, receipt_of, with_publish}
use Rattle.published_index.specs.Views.{MergerView}
use Rattle.published_index.proofs.Folding.{merges-append}
use Rattle.published_index.proofs.Fronts.{prefix_append, prefix_self, prefix_trans}

hands : (m : MergerView) (call : MergerCall) → merges_with_pending (after_call m call) ≡ merges_with_pending m ++ handed_by call
hands m (Append merge) = sym (append_assoc (merges_of m.published) m.pending (merge ∷ []))
hands m (AppendDelta peer d) = sym (append_assoc (merges_of m.published) m.pending (State d.state ∷ []))
hands m (MoveCursor peer d) = sym (append-nil (merges_with_pending m))
hands m Publish = ap (λ (l : List Merge). l ++ []) (merges-append m.published m.pending)

pub handed : (m : MergerView) (calls : List MergerCall) → merges_with_pending (fold after_call m calls) ≡ merges_with_pending m ++ flat_map handed_by calls
handed m [] = sym (append-nil (merges_with_pending m))
handed m (call ∷ calls) =
    handed (after_call m call) calls
    ∙ (ap (λ (l : List Merge). l ++ flat_map handed_by calls) (hands m call) ∙ append_assoc (merges_with_pending m) (handed_by call) (flat_map handed_by calls))

pub all_published : (m : MergerView) (calls : List MergerCall) → merges_of (fold after_call m (calls ++ Publish ∷ [])).published ≡ merges_with_pending m ++ flat_map handed_by calls
all_published m calls =
    let last : MergerView = fold after_call m calls in
    ap (λ (v : MergerView). merges_of v.published) (fold-append after_call m calls (Publish ∷ [])) ∙ (merges-append last.published last.pending ∙ handed m calls)

starts : (m : MergerView) (call : MergerCall) → IsPrefix m.published (after_call m call).published
starts m (Append merge) = prefix_self m.published
starts m (AppendDelta peer d) = prefix_self m.published
starts m (MoveCursor peer d) = prefix_self m.published
starts m Publish = prefix_append m.published (m.pending ∷ [])

pub stays_at_start : (m : MergerView) (calls : List MergerCall) → IsPrefix m.published (fold after_call m calls).published
stays_at_start m [] = prefix_self m.published
stays_at_start m (call ∷ calls) =
    let next : MergerView = after_call m call in
    prefix_trans m.published next.published (fold after_call next calls).published (starts m call) (stays_at_start next calls)

pub in_the_receipt : (m : MergerView) (merge : Merge) → Contains m.pending merge → Contains (merges_of (receipt_of (with_publish m)).batches) merge
in_the_receipt m merge at =
    subst (λ (l : List Merge). Contains l merge) (sym (merges-append m.published m.pending)) (Contains-append_right (merges_of m.published) m.pending merge at)
