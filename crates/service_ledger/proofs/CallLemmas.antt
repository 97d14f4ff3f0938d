-- What each call of a ledger makes of its merger is what a service may make of it.
use Rattle.std.proofs.Common.{◌≡◌, ℕ, Bool, true, false, List, Option, Some, None, Result, Ok, Err, IfOk, IfSome, OnOk, OnErr, refl, sym, ap, subst, ◌∙◌}
use Rattle.std.proofs.Math.Logic.{∥∥₁_map, ∥∥₁_map₂}
use Rattle.std.specs.FinMap as map
use Rattle.harvest_lattice.specs.Lattice.{Entries}
use Rattle.harvest_lattice.specs.Knowledge.{Harvested}
use Rattle.memento_index.specs.declared.merge.Merge.TheVariants.{Harvest, State}
use Rattle.harvester.specs.declared.fetches.Answer.{Answer}
use Rattle.harvester.specs.declared.faults.FetchFault.{FetchFault}
use Rattle.harvester.specs.declared.faults.WalkFault.{WalkFault}
use Rattle.harvester.specs.declared.jobs.Job.{Job}
use Rattle.harvester.specs.Unkept.{Comes}
use Rattle.harvest_workers.specs.declared.errands.Errand.{Errand}
use Rattle.replica_exchange.specs.declared.delta.Delta.{Delta}
use Rattle.replica_exchange.specs.CursorRule.{fits}
use Rattle.outgoing_requests.specs.Pulls.{IsPartBrought, IsPulled}
use Rattle.outgoing_requests.specs.declared.pulls.Pulled.{Pulled}
use Rattle.outgoing_requests.specs.declared.pulls.Pulled.TheVariants.{Whole, InPart}
use Rattle.delta_parts.specs.declared.part.Part.{Part}
use Rattle.delta_parts.specs.declared.walk.Walk.{Walk}
use Rattle.delta_parts.specs.PartRule.{walk_end}
use Rattle.published_index.specs.declared.mergers.TakenAs.{TakenAs}
use Rattle.published_index.specs.declared.mergers.TakenAs.TheVariants.{News, Known}
use Rattle.published_index.specs.Cursors.{IsTaken, with_delta, with_merge, with_publish}
use Rattle.published_index.specs.Views.{MergerView}
use Rattle.retention.specs.Restriction.{Rule, restrict}
use Rattle.retention.specs.Rules.{Withdrawal}
use Rattle.round_values.specs.Ahead.{taken}
use Rattle.round_values.specs.declared.rounds.Round.{Round}
use Rattle.round_values.specs.Pulls.{Pulls, PullsNothing, PullsSome}
use Rattle.forgetting.specs.Renewing.{ForgetsSome, rule_of}
use Rattle.forgetting.specs.Sifting.{TakesAs}
use Rattle.service_ledger.specs.Leads.{IsPart, brought, stepped, kept, timely, IsWalked, Leads, begins, walked, takes, follows, moves, publishes, forgets}

-- what a walk gave, if it gave a harvest
pub walk_gave : (jobs : Errand → Job → Type 0) (answers : List ℕ → Answer → Type 0) (faults : List ℕ → FetchFault → Type 0)
    (errand : Errand) (job : Job) (begun : ℕ) (result : Result Harvested WalkFault) (asked : Option ℕ) (h : Harvested) → result ≡ Ok h
    → ∥ jobs errand job ∥₁ → ∥ Comes answers faults job begun result asked ∥₁ → ∥ IsWalked jobs answers faults h ∥₁
walk_gave jobs answers faults errand job begun result asked h gave own comes = ∣ record {
  errand = errand;
  job = job;
  begun = begun;
  asked = asked;
  own = own;
  comes = subst (λ (r : Result Harvested WalkFault). ∥ Comes answers faults job begun r asked ∥₁) gave comes;
} ∣₁

-- what an answer brought, if it brought a whole delta
pub pulled_whole : {E : Type 0} (answer : Result Pulled E) (d : Delta) → answer ≡ Ok (Whole d) → ∥ IfOk answer IsPulled ∥₁ → ∥ IsPart d ∥₁
pulled_whole answer d is came = ∥∥₁_map came (λ b. brought d (subst (λ r. IfOk r IsPulled) is b))

-- and if it brought a part
pub pulled_part : {E : Type 0} (answer : Result Pulled E) (p : Part) → answer ≡ Ok (InPart p) → ∥ IfOk answer IsPulled ∥₁ → ∥ IsPartBrought p ∥₁
pulled_part answer p is came = ∥∥₁_map came (λ b. subst (λ r. IfOk r IsPulled) is b)

-- the delta of which a walk tells with a part
pub was_stepped : (w : Option Walk) (p : Part) (d : Delta) → d ≡ walk_end w p → ∥ IsPartBrought p ∥₁ → ∥ IsPart d ∥₁
was_stepped w p d is came = subst (λ (e : Delta). ∥ IsPart e ∥₁) (sym is) (∥∥₁_map came (λ b. stepped w p b))

-- what a rule keeps of it
pub part_kept : (keeps : Rule) (d some : Delta) → some ≡ record d { state = some.state } → some.state ≡ restrict keeps d.state → ∥ IsPart d ∥₁ → ∥ IsPart some ∥₁
part_kept keeps d some rest is part =
    subst (λ (e : Delta). ∥ IsPart e ∥₁) (sym (rest ∙ ap (λ (x : Entries). record d { state = x }) is)) (∥∥₁_map part (λ p. kept keeps d p))

-- what of it isn't ahead
pub part_timely : (last : ℕ) (d : Delta) (x : Entries) → x ≡ taken last d.state → ∥ IsPart d ∥₁ → ∥ IsPart (record d { state = x }) ∥₁
part_timely last d x is part =
    subst (λ (x : Entries). ∥ IsPart (record d { state = x }) ∥₁) (sym is) (∥∥₁_map part (λ p. timely last d p))

-- at a start it is what it began with
pub at_start : (jobs : Errand → Job → Type 0) (answers : List ℕ → Answer → Type 0) (faults : List ℕ → FetchFault → Type 0) (begun m : MergerView)
    → m ≡ begun → ∥ Leads jobs answers faults begun m ∥₁
at_start jobs answers faults begun m is = subst (λ (k : MergerView). ∥ Leads jobs answers faults begun k ∥₁) (sym is) ∣ begins ∣₁

module _ (jobs : Errand → Job → Type 0) (answers : List ℕ → Answer → Type 0) (faults : List ℕ → FetchFault → Type 0) (begun m n : MergerView)
    (led : ∥ Leads jobs answers faults begun m ∥₁) where
  abbrev Led : MergerView → Type 0
  Led k = ∥ Leads jobs answers faults begun k ∥₁

  to : (k : MergerView) → n ≡ k → Led k → Led n
  to k is = subst (λ (k : MergerView). Led k) (sym is)

  pub after_walk : {T E : Type 0} (result : Result T E) (h : Harvested) → ∥ IsWalked jobs answers faults h ∥₁
      → OnOk result (n ≡ with_merge m (Harvest h)) → OnErr result (n ≡ m) → Led n
  after_walk (Ok done) h own ok err = to (with_merge m (Harvest h)) ok (∥∥₁_map₂ led own (λ l w. walked m h l w))
  after_walk (Err refused) h own ok err = to m err led

  pub after_publish : (is_published : Bool) → (is_published ≡ true → n ≡ with_publish m) → (is_published ≡ false → n ≡ m) → Led n
  after_publish true ok err = to (with_publish m) (ok refl) (∥∥₁_map led (λ l. publishes m l))
  after_publish false ok err = to m (err refl) led

  pub after_pull : {T E : Type 0} (result : Result T E) (peer : ℕ) (round next : Round)
      → OnOk result (Pulls peer round m next n) → OnErr result (PullsNothing round m next n) → Led n
  after_pull (Ok taken) peer round next ok err =
      to (with_delta m peer ok.delta) ok.merger (∥∥₁_map led (λ l. follows m peer ok.delta l (brought ok.delta ok.brought) ok.follows))
  after_pull (Err fault) peer round next ok err = to m err.merger led

  pub after_append : {T E : Type 0} (result : Result T E) (peer : ℕ) (d : Delta) (round next : Round) → ∥ IsPart d ∥₁
      → OnOk result (n ≡ with_delta m peer d) → OnOk result (fits (map.get m.cursors peer) d ≡ true)
      → OnErr result (PullsNothing round m next n) → Led n
  after_append (Ok taken) peer d round next part ok fit err = to (with_delta m peer d) ok (∥∥₁_map₂ led part (λ l p. follows m peer d l p fit))
  after_append (Err fault) peer d round next part ok fit err = to m err.merger led

  pub after_take : {E : Type 0} (result : Result TakenAs E) (peer : ℕ) (d : Delta) (round next : Round) → ∥ IsPart d ∥₁
      → IfOk result (λ taken. IsTaken taken m peer d n) → OnOk result (fits (map.get m.cursors peer) d ≡ true)
      → OnErr result (PullsNothing round m next n) → Led n
  after_take (Ok News) peer d round next part ok fit err = to (with_delta m peer d) ok.1 (∥∥₁_map₂ led part (λ l p. follows m peer d l p fit))
  after_take (Ok Known) peer d round next part ok fit err =
      subst (λ (k : MergerView). Led k) (sym ok.1) (∥∥₁_map₂ led part (λ l p. moves m peer d l p fit ok.0))
  after_take (Err fault) peer d round next part ok fit err = to m err.merger led

  pub after_some : {T E : Type 0} (result : Result T E) (d : Delta) (round next : Round) → ∥ IsPart d ∥₁
      → OnOk result (PullsSome d.state round m next n) → OnErr result (PullsNothing round m next n) → Led n
  after_some (Ok taken) d round next part ok err = to (with_merge m (State d.state)) ok.merger (∥∥₁_map₂ led part (λ l p. takes m d l p))
  after_some (Err fault) d round next part ok err = to m err.merger led

  pub after_kept : {E : Type 0} (result : Result TakenAs E) (d : Delta) (round next : Round) → ∥ IsPart d ∥₁
      → IfOk result (λ taken. TakesAs taken d.state round m next n) → OnErr result (PullsNothing round m next n) → Led n
  after_kept (Ok News) d round next part ok err = to (with_merge m (State d.state)) ok.merger (∥∥₁_map₂ led part (λ l p. takes m d l p))
  after_kept (Ok Known) d round next part ok err = to m ok.1.merger led
  after_kept (Err fault) d round next part ok err = to m err.merger led

  pub after_forgetting : {T E : Type 0} (result : Result (Option T) E) (w : Option Withdrawal) (l : Option (List (List ℕ)))
      → IfOk result (λ it. IfSome it (λ _. ForgetsSome w l m n)) → IfOk result (λ it. it ≡ None → n ≡ m) → OnErr result (n ≡ m) → Led n
  after_forgetting (Ok (Some forgot)) w l some none err = ∥∥₁_map led (λ leads. forgets (rule_of w l some.wanted) m n leads some.forgets)
  after_forgetting (Ok None) w l some none err = to m (none refl) led
  after_forgetting (Err refused) w l some none err = to m err led
