use Rattle.std.proofs.Common.{◌≡◌, inl, sym, ap, subst, ◌∙◌, ◌++◌, append-nil}
use Rattle.replica_exchange.specs.Stamps.{state_after}
use Rattle.published_index.specs.Batches.{Batch, fold_of, merges_of}
use Rattle.published_index.specs.Cursors.{state_of}
use Rattle.published_index.specs.Exchanges.{IsMadeOf, published_by}
use Rattle.published_index.proofs.Exchanging.{few_batches, made_of_own, no_merge, stays_made, told_is_made}
use Rattle.published_index.proofs.laws.exchanges_have_a_last_merge.Goals as goal

pub returns-clause-batches : goal.returns-clause-batches
returns-clause-batches c harvests unknown m calls none are cover = few_batches harvests m calls unknown (inl none) are cover

pub returns-clause-silent : goal.returns-clause-silent
returns-clause-silent c = no_merge

pub returns-clause-made : goal.returns-clause-made
returns-clause-made c harvests m within = made_of_own harvests (fold_of m.published) within

pub returns-clause-told : goal.returns-clause-told
returns-clause-told c = told_is_made

pub returns-clause-stays : goal.returns-clause-stays
returns-clause-stays c harvests m calls none made are =
    let same : published_by m ≡ state_of m = sym (ap state_after (ap (λ (b : Batch). merges_of m.published ++ b) none ∙ append-nil (merges_of m.published))) in
    stays_made harvests m calls made (subst (IsMadeOf harvests) same made) are
