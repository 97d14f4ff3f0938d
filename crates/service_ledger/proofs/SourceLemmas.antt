-- What a service knows is made of harvests that were given.
use Rattle.std.proofs.Common.{◌≡◌, inl, inr, ℕ, List, [], ◌∷◌, ◌++◌, refl, sym, ap, subst, ◌∙◌, append_assoc, append-nil, Contains, All}
use Rattle.std.proofs.lemmas.List.Elements.{All-append, All-cons, All-contains_itself, All-nil, All-weaker, Contains-append_left}
use Rattle.harvest_lattice.specs.Lattice.{Entries, join}
use Rattle.harvest_lattice.specs.Knowledge.{Harvested, adds, lat}
use Rattle.memento_index.specs.declared.merge.Merge.{Merge}
use Rattle.memento_index.specs.declared.merge.Merge.TheVariants.{Harvest, State}
use Rattle.memento_index.specs.Merges.{adds_of}
use Rattle.harvester.specs.declared.fetches.Answer.{Answer}
use Rattle.harvester.specs.declared.faults.FetchFault.{FetchFault}
use Rattle.harvester.specs.declared.jobs.Job.{Job}
use Rattle.harvest_workers.specs.declared.errands.Errand.{Errand}
use Rattle.replica_exchange.specs.declared.delta.Delta.{Delta}
use Rattle.replica_exchange.specs.Stamps.{state_after}
use Rattle.replica_exchange.proofs.StampLemmas.{state_push}
use Rattle.published_index.specs.Batches.{Batch, fold_of, harvests_of, merges_of}
use Rattle.published_index.specs.Cursors.{merges_with_pending, state_of, with_delta, with_merge, with_publish}
use Rattle.published_index.specs.Exchanges.{IsMadeOf, published_by}
use Rattle.published_index.specs.Views.{MergerView}
use Rattle.published_index.proofs.Exchanging.{made_of_own}
use Rattle.published_index.proofs.Folding.{fold-batch, merges-append}
use Rattle.published_index.proofs.Reaching.{joined, published}
use Rattle.retention.specs.Restriction.{restrict}
use Rattle.forgetting.specs.Renewing.{IsBegun, known}
use Rattle.forgetting.proofs.RenewingLemmas.{begun_known}
use Rattle.service_ledger.specs.Leads.{IsPart, IsWalked, Leads, begins, walked, takes, follows, moves, publishes, forgets}
use Rattle.service_ledger.specs.Sources.{HasSources, IsGiven}
use Rattle.service_ledger.proofs.MadeLemmas.{made_of_both, made_of_itself, made_of_kept, made_of_more}

-- what is published by a publish
shows_all : (m : MergerView) → published_by (with_publish m) ≡ state_of m
shows_all m = ap state_after (merges-append m.published m.pending)

-- with one merge more
with_one : (m : MergerView) (merge : Merge) → state_of (with_merge m merge) ≡ join (state_of m) (lat (adds_of merge))
with_one m merge =
    ap state_after (sym (append_assoc (merges_of m.published) m.pending (merge ∷ [])))
    ∙ state_push (merges_of m.published ++ m.pending) merge

-- the harvests of all merges, published and pending
all_harvests : (m : MergerView) → fold_of m.published ++ harvests_of m.pending ≡ harvests_of (merges_with_pending m)
all_harvests m = sym (fold-batch m.published m.pending) ∙ ap harvests_of (merges-append m.published m.pending)

-- who begins anew with a state has that state
begun_state : (x : Entries) (n : MergerView) → IsBegun x n → state_of n ≡ x
begun_state x n is =
    ap (λ (batch : Batch). state_after (merges_of n.published ++ batch)) is.pending
    ∙ (ap state_after (append-nil (merges_of n.published)) ∙ begun_known x n is)

module _ (jobs : Errand → Job → Type 0) (answers : List ℕ → Answer → Type 0) (faults : List ℕ → FetchFault → Type 0) (begun : MergerView) where
  abbrev Given : Harvested → Type 0
  Given h = IsGiven jobs answers faults begun h

  abbrev Sources : MergerView → Type 0
  Sources m = HasSources jobs answers faults begun m

  -- what it began with
  first : Sources begun
  first = record {
    harvests = harvests_of (merges_with_pending begun);
    given = All-weaker (Contains (harvests_of (merges_with_pending begun))) Given (λ h at. inl at) _ (All-contains_itself (harvests_of (merges_with_pending begun)));
    published = made_of_own (harvests_of (merges_with_pending begun)) (fold_of begun.published) (λ h at.
        subst (λ (hs : List Harvested). Contains hs h) (all_harvests begun) (Contains-append_left (fold_of begun.published) (harvests_of begun.pending) h at));
    pending = made_of_own (harvests_of (merges_with_pending begun)) (harvests_of (merges_with_pending begun)) (λ h at. at);
  }

  -- with a state more that is made of harvests that were given
  one_more : (m n : MergerView) (hs : List Harvested) (x : Entries) → All Given hs → IsMadeOf hs x
      → published_by n ≡ published_by m → state_of n ≡ join (state_of m) x → Sources m → Sources n
  one_more m n hs x given made same more s = record {
    harvests = s.harvests ++ hs;
    given = All-append Given s.harvests hs s.given given;
    published = made_of_more s.harvests (s.harvests ++ hs) (published_by n) (λ h at. Contains-append_left s.harvests hs h at)
        (subst (IsMadeOf s.harvests) (sym same) s.published);
    pending = subst (IsMadeOf (s.harvests ++ hs)) (sym more) (made_of_both s.harvests hs (state_of m) x s.pending made);
  }

  one_walk : (h : Harvested) → IsWalked jobs answers faults h → All Given (h ∷ [])
  one_walk h own = All-cons Given h [] (inr (inl own)) (All-nil Given)

  -- all harvests of what was taken of an answer
  told : (d : Delta) → IsPart d → All Given (adds d.state)
  told d part = All-weaker (Contains (adds d.state)) Given
      (λ h at. inr (inr (record { delta = d; part = part; has = at }))) (adds d.state) (All-contains_itself (adds d.state))

  one_part : (m n : MergerView) (d : Delta) → IsPart d → published_by n ≡ published_by m → state_of n ≡ join (state_of m) d.state → Sources m → Sources n
  one_part m n d part same more s = one_more m n (adds d.state) d.state (told d part) (made_of_itself d.state) same more s

  pub sources : (m : MergerView) → Leads jobs answers faults begun m → Sources m
  sources m begins = first
  sources m (walked before h leads own) =
      one_more before (with_merge before (Harvest h)) (h ∷ []) (lat (h ∷ [])) (one_walk h own) (made_of_own (h ∷ []) (h ∷ []) (λ g at. at)) refl (with_one before (Harvest h))
      (sources before leads)
  sources m (takes before d leads part) =
      one_part before (with_merge before (State d.state)) d part refl (joined before 0 d) (sources before leads)
  sources m (follows before peer d leads part fit) = one_part before (with_delta before peer d) d part refl (joined before peer d) (sources before leads)
  sources m (moves before peer d leads part fit is_known) =
      let s = sources before leads in
      record { harvests = s.harvests; given = s.given; published = s.published; pending = s.pending }
  sources m (publishes before leads) =
      let s = sources before leads in
      record {
        harvests = s.harvests;
        given = s.given;
        published = subst (IsMadeOf s.harvests) (sym (shows_all before)) s.pending;
        pending = subst (λ (list : List Merge). IsMadeOf s.harvests (state_after list)) (published before) s.pending;
      }
  sources m (forgets keeps before n leads forgot) =
      let s = sources before leads in
      let kept : IsMadeOf s.harvests (restrict keeps (known before)) = made_of_kept s.harvests keeps (known before) s.published in
      record {
        harvests = s.harvests;
        given = s.given;
        published = subst (IsMadeOf s.harvests) (sym (begun_known (restrict keeps (known before)) n forgot)) kept;
        pending = subst (IsMadeOf s.harvests) (sym (begun_state (restrict keeps (known before)) n forgot)) kept;
      }
