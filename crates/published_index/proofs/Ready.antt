-- A try's mark, put behind what is pending, makes a copy that may be shown.
use Rattle.std.proofs.Common.{◌≡◌, ℕ, List, [], ◌∷◌, ◌++◌, fold, sym, ap, ◌∙◌, subst}
use Rattle.replica_exchange.specs.Stamps.{IsStamped}
use Rattle.replica_exchange.proofs.StampLemmas.{stamped_at_first}
use Rattle.published_index.specs.declared.editions.Edition.{Edition}
use Rattle.published_index.specs.declared.editions.Change.{Change}
use Rattle.published_index.specs.declared.editions.Change.TheVariants.{Reach}
use Rattle.published_index.specs.declared.marks.Mark.{Mark}
use Rattle.published_index.specs.declared.marks.LogEntry.{LogEntry}
use Rattle.published_index.specs.declared.marks.LogEntry.TheVariants.{Attempt}
use Rattle.published_index.specs.Batches.{Batch, merges_of}
use Rattle.published_index.specs.Stamping.{nothing_merged, stamped_with}
use Rattle.published_index.specs.Changes.{after_change, merges_in, batches_of, book_of, IsWhole}
use Rattle.published_index.specs.Marks.{successes, successes_with_last}
use Rattle.published_index.specs.Rule.{IsReady}
use Rattle.published_index.proofs.Folding.{changes, merges-append}
use Rattle.published_index.proofs.Stamping.{absorbs_batch, batch_keeps_incarnation}
use Rattle.published_index.proofs.Logs.{successes_with_last-attempt}

-- the batches of a copy with this mark
pub batches_next : (log : List LogEntry) (batch : Batch) (mark : Mark) → mark.seen.log ≡ log ++ Attempt batch ∷ [] → successes_with_last mark.seen.log ≡ successes log ++ batch ∷ []
batches_next log batch mark is = ap successes_with_last is ∙ successes_with_last-attempt log batch

pub ready : (x : Edition) (log : List LogEntry) (cs : List Change) (mark : Mark) → mark.seen.book ≡ book_of x → batches_of x ≡ successes log → mark.seen.log ≡ log ++ Attempt (merges_in cs) ∷ []
    → IsReady x (fold after_change x (cs ++ Reach mark ∷ []))
ready x log cs mark book all is =
    let y : Edition = record { stamped = fold stamped_with x.stamped (merges_in cs); mark = mark } in
    let next : batches_of y ≡ batches_of x ++ merges_in cs ∷ [] = batches_next log (merges_in cs) mark is ∙ ap (λ (l : List Batch). l ++ merges_in cs ∷ []) (sym all) in
    let more : merges_of (batches_of x) ++ merges_in cs ≡ merges_of (batches_of y) = sym (merges-append (batches_of x) (merges_in cs)) ∙ ap merges_of (sym next) in
    subst (IsReady x) (sym (changes x cs mark)) (record {
      book = book;
      incarnation = batch_keeps_incarnation (merges_in cs) x.stamped;
      batches = (merges_in cs ∷ [], sym next);
      whole = λ (whole : IsWhole x). subst (λ (l : Batch). IsStamped l y.stamped) more (absorbs_batch (merges_of (batches_of x)) (merges_in cs) x.stamped whole);
    })

-- with no tries a copy that absorbed nothing is what its batches made
pub nothing_whole : (x : Edition) (mark : Mark) (incarnation : ℕ) → x ≡ record { stamped = nothing_merged incarnation; mark = mark } → mark.seen.log ≡ [] → IsWhole x
nothing_whole x mark incarnation is log =
    subst IsWhole (sym is) (subst (λ (l : List LogEntry). IsStamped (merges_of (successes_with_last l)) (nothing_merged incarnation)) (sym log) (stamped_at_first incarnation))
