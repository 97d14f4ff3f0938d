-- What a gate knows after an answer.
use Rattle.std.proofs.Common.{◌≡◌, ℕ, ap, ◌∙◌, true, List, [], Result, Ok, Err, IfOk, IfErr, refl, sym, subst}
use mathlib.Core.List.{IsPrefix}
use Rattle.replica_exchange.specs.Stamps.{StampedState, IsStamped}
use Rattle.timegate.specs.declared.request.Request.{Request}
use Rattle.timegate.specs.Reply.{reply_of}
use Rattle.published_index.specs.declared.editions.Edition.{Edition}
use Rattle.published_index.specs.declared.views.ReaderView.{ReaderView}
use Rattle.published_index.specs.Replies.{IsMadeFrom}
use Rattle.published_index.specs.Rule.{Enters}
use Rattle.published_index.specs.Batches.{Batch, merges_of}
use Rattle.timegate.specs.declared.reply.Reply.{Reply}
use Rattle.published_index.specs.declared.faults.GateFault.{GateFault}
use Rattle.published_index.specs.declared.faults.GateFault.TheVariants.{NoMemory}
use Rattle.published_index.specs.Passes.{Pass, Advances, AfterFault}
use Rattle.published_index.proofs.Fronts.{prefix_trans}

pub advances : (old : Pass) (before front : List Batch) → IsPrefix old.front before → IsPrefix before front → IsPrefix old.told front → Advances old (record { front = front; told = [] })
advances old before front seen next told = record { seen = prefix_trans old.front before front seen next; told = told; settled = refl }

pub ok_after : {A : Type 0} (r : Result A GateFault) (old new : Pass) (P : A → Type 0) → Advances old new → IfOk r P → IfOk r (λ x. Advances old new × P x)
ok_after (Ok x) old new P adv p = (adv, p)
ok_after (Err f) old new P adv p = tt

pub err_after : {A : Type 0} (r : Result A GateFault) (old new : Pass) → Advances old new → IfErr r (λ f. f ≡ NoMemory) → IfErr r (λ f. AfterFault f old new)
err_after (Ok x) old new adv is = tt
err_after (Err f) old new adv is = subst (λ (g : GateFault). AfterFault g old new) (sym is) adv

-- what was made of the copy that was entered is made from its front
pub made_from : {A : Type 0} (is_made : StampedState → A → Type 0) (old inside after : ReaderView) (x y edition : Edition) (made : A) → old.named ≡ true → Enters old x y inside → after ≡ inside
    → edition ≡ y → is_made edition.stamped made → IsMadeFrom is_made old.incarnation after.front made
made_from is_made old inside after x y edition made named entered left same is = record {
  stamped = y.stamped;
  merges = subst (λ (v : ReaderView). IsStamped (merges_of v.front) y.stamped) (sym (left ∙ entered.0)) entered.1;
  own = sym (entered.2.1 named).1;
  is = subst (λ (e : Edition). is_made e.stamped made) same is;
}
