-- What is known by a merger that began anew.
use Rattle.std.proofs.Common.{◌≡◌, ℕ, List, Option, Some, None, IfSome, take, refl, sym, ap, ◌∙◌, subst, append-nil, true, Result, Ok, Err, IfOk, ◌⊎◌, inl, inr}
use Rattle.std.proofs.lemmas.Option.{none-some}
use Rattle.harvest_lattice.specs.Lattice.{Entries, Key, AtMost}
use Rattle.harvest_lattice.specs.Knowledge.{adds, lat, shown_of}
use Rattle.harvest_lattice.proofs.Knowledge.{lat-adds}
use Rattle.memento_index.specs.declared.merge.Merge.{Merge}
use Rattle.replica_exchange.specs.Stamps.{state_after}
use Rattle.published_index.specs.Batches.{Batch, fold_of}
use Rattle.published_index.specs.Views.{MergerView}
use Rattle.retention.specs.Restriction.{Rule, restrict}
use Rattle.retention.specs.Rules.{Withdrawal}
use Rattle.retention.specs.declared.forgetting.Remainder.{Remainder}
use Rattle.retention.proofs.RestrictionLemmas.{get-kept, same_state, shown-kept, still_reached}
use Rattle.retention_laws.specs.Cursors.{HasReachedWithin}
use Rattle.retention_laws.proofs.ReplyLemmas.{replies_kept}
use Rattle.forgetting.specs.Renewing.{Forgets, ForgetsSome, IsBegun, IsUnnoticed, known, rule_of}

-- what one batch of one state makes known is the state
pub begun_known : (x : Entries) (n : MergerView) → IsBegun x n → known n ≡ x
begun_known x n is = ap (λ (list : List Batch). lat (fold_of list)) is.published ∙ (ap lat (append-nil (adds x)) ∙ lat-adds x)

pub forgotten_known : (rule : Rule) (m n : MergerView) → Forgets rule m n → known n ≡ restrict rule (known m)
forgotten_known rule m n is = begun_known (restrict rule (known m)) n is

pub unnoticed : (rule : Rule) (m n : MergerView) → Forgets rule m n → IsUnnoticed rule m n
unnoticed rule m n is = record {
  shown = λ original kept. ap (λ (x : Entries). shown_of x original) (forgotten_known rule m n is) ∙ shown-kept rule (known m) original kept;
  replies = λ base s t q original before after named kept.
      replies_kept base rule s t q original
      (after.entries ∙ (forgotten_known rule m n is ∙ ap (restrict rule) (sym before.entries))) named kept;
}

pub cursors_stay : (rule : Rule) (m n : MergerView) (merges : List Merge) (count : ℕ) → Forgets rule m n
    → HasReachedWithin rule merges count (known m) → HasReachedWithin rule merges count (known n)
cursors_stay rule m n merges count is reached =
    subst (λ (x : Entries). AtMost (restrict rule (state_after (take count merges))) x) (sym (forgotten_known rule m n is))
    (still_reached rule rule (state_after (take count merges)) (known m) (λ k same. same) reached)

-- where the rule isn't known, all is kept
pub all_is_kept : (w : Option Withdrawal) (l : Option (List (List ℕ))) (wanted : List (List ℕ)) (x : Entries)
    → (w ≡ None) ⊎ (l ≡ None) → restrict (rule_of w l wanted) x ≡ x
all_is_kept w l wanted x unknown = same_state (restrict (rule_of w l wanted) x) x (λ k. get-kept (rule_of w l wanted) x k (is_kept w l k unknown))
  where
    is_kept : (w : Option Withdrawal) (l : Option (List (List ℕ))) (k : Key) → (w ≡ None) ⊎ (l ≡ None) → rule_of w l wanted k ≡ true
    is_kept None l k unknown = refl
    is_kept (Some w) None k unknown = refl
    is_kept (Some w) (Some l) k (inl none) = absurd (none-some w (sym none))
    is_kept (Some w) (Some l) k (inr none) = absurd (none-some l (sym none))

-- so a copy of the state is what is kept
pub copy_is_kept : {E : Type 0} (copied : Result Entries E) (w : Option Withdrawal) (l : Option (List (List ℕ))) (wanted : List (List ℕ)) (x : Entries)
    → (w ≡ None) ⊎ (l ≡ None) → IfOk copied (λ copy. copy ≡ x) → IfOk copied (λ kept. kept ≡ restrict (rule_of w l wanted) x)
copy_is_kept (Ok copy) w l wanted x unknown is = is ∙ sym (all_is_kept w l wanted x unknown)
copy_is_kept (Err refused) w l wanted x unknown is = tt

-- who begins anew with what a service's rule keeps forgets by it
pub some_forgotten : (w : Option Withdrawal) (l : Option (List (List ℕ))) (wanted : List (List ℕ)) (x : Entries) (m n : MergerView)
    → x ≡ restrict (rule_of w l wanted) (known m) → IsBegun x n → ForgetsSome w l m n
some_forgotten w l wanted x m n is begun = record {
  wanted = wanted;
  forgets = subst (λ (y : Entries). IsBegun y n) is begun;
}

-- the same of what is found to stay, if something is, and of a call that may forget nothing
pub rest_forgotten : {T : Type 0} (w : Option Withdrawal) (l : Option (List (List ℕ))) (m n : MergerView)
    (found : Option Remainder) (rest : Remainder) (ended : Option T)
    → IfSome found (λ it. it.state ≡ restrict (rule_of w l it.wanted) (known m))
    → found ≡ Some rest → IfSome ended (λ _. IsBegun rest.state n) → IfSome ended (λ _. ForgetsSome w l m n)
rest_forgotten w l m n found rest (Some _) kept is begun =
    some_forgotten w l rest.wanted rest.state m n
    (subst (λ (o : Option Remainder). IfSome o (λ it. it.state ≡ restrict (rule_of w l it.wanted) (known m))) is kept)
    begun
rest_forgotten w l m n found rest None kept is begun = tt
