-- What a run of calls keeps: a list that the pass has, in its front or among what it was told, begins each later front.
use Rattle.std.proofs.Common.{◌≡◌, ◌⊎◌, inl, inr, ⊎_elim, List, [], ◌∷◌, ◌++◌, refl, sym, subst}
use mathlib.Core.List.{IsPrefix}
use Rattle.published_index.specs.Batches.{Batch}
use Rattle.published_index.specs.Calls.{Call, Learn, Answer, Refusal, Leads, Calls}
use Rattle.published_index.specs.Passes.{Pass, Advances, AfterFault}
use Rattle.published_index.specs.declared.faults.GateFault.{GateFault}
use Rattle.published_index.specs.declared.faults.GateFault.TheVariants.{NoMemory, Closed}
use Rattle.published_index.proofs.Fronts.{prefix_self, prefix_trans}

-- the list begins the pass's front, or the longest list that it was told
abbrev Holds : List Batch → Pass → Type 0
Holds list pass = IsPrefix list pass.front ⊎ IsPrefix list pass.told

-- an entry brings it to the front
to_front : (list : List Batch) (old new : Pass) → Advances old new → Holds list old → IsPrefix list new.front
to_front list old new advances =
    ⊎_elim (λ (seen : IsPrefix list old.front). prefix_trans list old.front new.front seen advances.seen) (λ (told : IsPrefix list old.told). prefix_trans list old.told new.front told advances.told)

along : (list front front' : List Batch) → front' ≡ front → IsPrefix list front → IsPrefix list front'
along list front front' same here = subst (λ (f : List Batch). IsPrefix list f) (sym same) here

holds_on : (list : List Batch) (old : Pass) (call : Call) (new : Pass) → Leads old call new → Holds list old → Holds list new
holds_on list old (Learn told) new learns =
    ⊎_elim (λ (seen : IsPrefix list old.front). inl (along list old.front new.front learns.front seen)) (λ (was : IsPrefix list old.told). inr (prefix_trans list old.told new.told was learns.before))
holds_on list old (Answer front) new answers = λ here. inl (to_front list old new answers.0 here)
holds_on list old Refusal new refused = λ here.
    after_fault refused.0 refused.1 here
  where
    after_fault : (fault : GateFault) → AfterFault fault old new → Holds list old → Holds list new
    after_fault NoMemory advances was = inl (to_front list old new advances was)
    after_fault Closed same was = subst (Holds list) (sym same) was

-- a run is a beginning and what follows it
parts : (start end : Pass) (before after : List Call) → Calls start (before ++ after) end → (mid : Pass) × Calls start before mid × Calls mid after end
parts start end [] after run = (start, refl, run)
parts start end (call ∷ before) after run = let rest = parts run.0 end before after run.2 in (rest.0, (run.0, run.1, rest.1), rest.2)

holds_along : (list : List Batch) (start end : Pass) (calls : List Call) → Calls start calls end → Holds list start → Holds list end
holds_along list start end [] run here = subst (Holds list) (sym run) here
holds_along list start end (call ∷ calls) run here = holds_along list run.0 end calls run.2 (holds_on list start call run.0 run.1 here)

-- a list that the pass has begins each later front
pub begins_later : (list : List Batch) (start end : Pass) (between after : List Call) (front : List Batch) → Calls start (between ++ Answer front ∷ after) end → Holds list start → IsPrefix list front
begins_later list start end between after front run here =
    let later = parts start end between (Answer front ∷ after) run in
    let at : Holds list later.0 = holds_along list start later.0 between later.1 here in
    along list later.2.0.front front (sym later.2.1.1) (to_front list later.0 later.2.0 later.2.1.0 at)

pub after_answer : (start end : Pass) (before between after : List Call) (earlier later : List Batch)
    → Calls start (before ++ Answer earlier ∷ (between ++ Answer later ∷ after)) end → IsPrefix earlier later
after_answer start end before between after earlier later run =
    let here = parts start end before (Answer earlier ∷ (between ++ Answer later ∷ after)) run in
    let mid = here.2.0 in
    begins_later earlier mid end between after later here.2.2 (inl (along earlier earlier mid.front here.2.1.1 (prefix_self earlier)))

pub after_learning : (start end : Pass) (before between after : List Call) (list front : List Batch) → Calls start (before ++ Learn list ∷ (between ++ Answer front ∷ after)) end → IsPrefix list front
after_learning start end before between after list front run =
    let here = parts start end before (Learn list ∷ (between ++ Answer front ∷ after)) run in
    begins_later list here.2.0 end between after front here.2.2 (inr here.2.1.told)
