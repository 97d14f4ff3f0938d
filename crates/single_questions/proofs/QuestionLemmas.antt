-- What is known of a question is the state of walks for its original, from the first walk to the answer.
use Rattle.std.proofs.Common.{◌≡◌, ℕ, List, [], ◌∷◌, ◌++◌, Option, Result, Ok, Err, IfOk, OnOk, OnErr, sym, ap, subst, ◌∙◌}
use Rattle.std.proofs.Math.Logic.{∥∥₁_map}
use Rattle.std.specs.FinMap as fmap
use Rattle.std.proofs.lemmas.List.Elements.{All-append, All-cons, All-nil}
use Rattle.memento_sets.specs.MementoSets.{Mementos}
use Rattle.harvest_lattice.specs.Knowledge.{Harvested, lat, shown_of}
use Rattle.harvest_lattice.specs.Lattice.{Entries, join}
use Rattle.harvest_lattice.proofs.Knowledge.{lat-append, lat-nil}
use Rattle.harvest_lattice.proofs.KnowledgeShown.{shown-lat}
use Rattle.harvester.specs.declared.fetches.Answer.{Answer}
use Rattle.harvester.specs.declared.faults.FetchFault.{FetchFault}
use Rattle.harvester.specs.declared.faults.WalkFault.{WalkFault}
use Rattle.harvester.specs.declared.jobs.Job.{Job}
use Rattle.harvester.specs.Unkept.{Comes}
use Rattle.harvest_workers.specs.declared.errands.Errand.{Errand}
use Rattle.single_questions.specs.Gathered.{IsAnswer, IsGathered, IsWalked, known_after}
use Rattle.single_questions.specs.Wants.{answer_text}
use Rattle.single_questions.specs.declared.wants.Want.{Want}

-- nothing is the state of no walks
pub nothing_known : (jobs : Errand → Job → Type 0) (answers : List ℕ → Answer → Type 0) (faults : List ℕ → FetchFault → Type 0)
    (original : List ℕ) → IsGathered jobs answers faults original fmap.empty
nothing_known jobs answers faults original = record {
  harvests = [];
  walked = All-nil (IsWalked jobs answers faults original);
  state = sym lat-nil;
}

-- a walk for the original is one more
pub one_more : (jobs : Errand → Job → Type 0) (answers : List ℕ → Answer → Type 0) (faults : List ℕ → FetchFault → Type 0)
    (original : List ℕ) (known : Entries) (errand : Errand) (job : Job) (begun : ℕ) (result : Result Harvested WalkFault) (asked : Option ℕ)
    → ∥ jobs errand job ∥₁ → job.original ≡ original → ∥ Comes answers faults job begun result asked ∥₁
    → IsGathered jobs answers faults original known → IsGathered jobs answers faults original (known_after result known)
one_more jobs answers faults original known errand job begun (Ok h) asked own is_for comes gathered = record {
  harvests = gathered.harvests ++ (h ∷ []);
  walked = All-append (IsWalked jobs answers faults original) gathered.harvests (h ∷ []) gathered.walked
      (All-cons (IsWalked jobs answers faults original) h [] (record {
        errand = errand;
        job = job;
        begun = begun;
        asked = asked;
        own = own;
        is_for = is_for;
        comes = comes;
      }) (All-nil (IsWalked jobs answers faults original)));
  state = ap (λ (x : Entries). join x (lat (h ∷ []))) gathered.state ∙ sym (lat-append gathered.harvests (h ∷ []));
}
one_more jobs answers faults original known errand job begun (Err fault) asked own is_for comes gathered = gathered

-- what is written of the state is written of the walks
pub answered : (jobs : Errand → Job → Type 0) (answers : List ℕ → Answer → Type 0) (faults : List ℕ → FetchFault → Type 0)
    (want : Want) (base original text : List ℕ) (known : Entries) → IsGathered jobs answers faults original known
    → text ≡ answer_text want base original (shown_of known original) → IsAnswer jobs answers faults want base original text
answered jobs answers faults want base original text known gathered is = record {
  harvests = gathered.harvests;
  walked = gathered.walked;
  text_is = is ∙ ap (λ (ms : Mementos). answer_text want base original ms)
      (ap (λ (x : Entries). shown_of x original) gathered.state ∙ sym (shown-lat gathered.harvests original));
}

-- the same of a text that memory may be refused for
pub answered_if : {T E : Type 0} (bytes : T → List ℕ) (result : Result T E)
    (jobs : Errand → Job → Type 0) (answers : List ℕ → Answer → Type 0) (faults : List ℕ → FetchFault → Type 0)
    (want : Want) (base original : List ℕ) (known : Entries) → ∥ IsGathered jobs answers faults original known ∥₁
    → IfOk result (λ text. bytes text ≡ answer_text want base original (shown_of known original))
    → IfOk result (λ text. ∥ IsAnswer jobs answers faults want base original (bytes text) ∥₁)
answered_if bytes (Ok text) jobs answers faults want base original known gathered is =
    ∥∥₁_map gathered (λ g. answered jobs answers faults want base original (bytes text) known g is)
answered_if bytes (Err refused) jobs answers faults want base original known gathered is = tt

-- what is known stays the state of walks for the original, whether one more was taken in or not
pub taken_in : {T E : Type 0} (taken : Result T E) (jobs : Errand → Job → Type 0) (answers : List ℕ → Answer → Type 0)
    (faults : List ℕ → FetchFault → Type 0) (original : List ℕ) (known new : Entries) (errand : Errand) (job : Job) (begun : ℕ)
    (result : Result Harvested WalkFault) (asked : Option ℕ)
    → ∥ jobs errand job ∥₁ → job.original ≡ original → ∥ Comes answers faults job begun result asked ∥₁
    → OnOk taken (new ≡ known_after result known) → OnErr taken (new ≡ known)
    → ∥ IsGathered jobs answers faults original known ∥₁ → ∥ IsGathered jobs answers faults original new ∥₁
taken_in (Ok done) jobs answers faults original known new errand job begun result asked own is_for comes now same gathered =
    ∥∥₁_map gathered (λ g. subst (λ (x : Entries). IsGathered jobs answers faults original x) (sym now)
    (one_more jobs answers faults original known errand job begun result asked own is_for comes g))
taken_in (Err refused) jobs answers faults original known new errand job begun result asked own is_for comes now same gathered =
    subst (λ (x : Entries). ∥ IsGathered jobs answers faults original x ∥₁) (sym same) gathered
