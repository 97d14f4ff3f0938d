-- An event that the world answers, and the harvest of a page.
use Rattle.std.proofs.Common.{◌≡◌, ◌≢◌, ℕ, ◌<◌, ◌≤◌, ◌⊎◌, List, length, Option, Some, None, Result, Ok, Err, inl, inr, refl, sym, ap, ◌∙◌, subst}
use Rattle.std.specs.Prelude.{MatchOption, IfOk, OnOk, codes}
use Rattle.std.specs.Option.{SomeIff}
use Rattle.std.specs.List.Sorted.{IsStrictlySortedBy}
use Rattle.memento_time.specs.Mementos.{memento_cmp}
use Rattle.memento_time.specs.Text.{IsArchiveName}
use Rattle.memento_time.specs.declared.mementos.Memento.{Memento}
use Rattle.timemap_reader.specs.Answer.{IsAnswer}
use Rattle.timemap_reader.specs.declared.page.Page.{Page}
use Rattle.memento_sets.specs.Sets as set
use Rattle.memento_sets.proofs.Ordered.{items_in_order}
use Rattle.harvest_lattice.specs.Knowledge.{Harvested}
use Rattle.replica_events.specs.declared.event.Event.{Event}
use Rattle.replica_events.specs.declared.event.Event.TheVariants.{Take}
use Rattle.replica_events.specs.declared.event.Refused.TheVariants.{NoMemory}
use Rattle.replica_events.specs.World.{World, EventAnswer, Effect, RunsOut}
use Rattle.replica_world.specs.Stands.{Kept, Steps}
use Rattle.replica_world.specs.Fields.{utf8_text}
use Rattle.timegate.specs.Route.{original_at}
use Rattle.replica_world.specs.Script as script
use Rattle.replica_world.specs.Script.{Taking}
use Rattle.replica_world.specs.Output.{Happens, IsPage, answer_text, accepted_line, taken_line, harvest_of, refusal_text}
use Rattle.replica_world.specs.Performing.{IsHappening, IsHarvestTaken, IsPageTaken, IsPerformed}

-- any other answer is the event's effect
took_effect : (base : List ℕ) (w : World) (event : Event) (answer : EventAnswer) (next : World) → answer ≢ Err NoMemory → Effect base w event answer next ⊎ RunsOut w event answer next
    → Effect base w event answer next
took_effect base w event answer next memory (inl effect) = effect
took_effect base w event answer next memory (inr out) = absurd (memory out.0)

-- the event happened in each world that is stood for
happened : (old new : Kept) (accepted : List ℕ) (event : Event) (answer : EventAnswer) (text : List ℕ) → Steps old event answer new → answer ≢ Err NoMemory → text ≡ answer_text accepted answer
    → IsHappening old accepted event text new
happened old new accepted event answer text steps memory text_is = (
  steps.base,
  λ w stands. let leads = steps.leads w stands in record {
    next = leads.next;
    written = (answer, took_effect old.base w event answer leads.next memory leads.step, text_is);
    kept = leads.stands;
  },
)

pub happened_if : {V E : Type 0} (items : V → List ℕ) (old new : Kept) (accepted : List ℕ) (event : Event) (answer : EventAnswer) (result : Result V E) → Steps old event answer new
    → IfOk result (λ text. items text ≡ answer_text accepted answer) → OnOk result (answer ≢ Err NoMemory) → IfOk result (λ text. IsHappening old accepted event (items text) new)
happened_if items old new accepted event answer (Ok text) steps text_is memory = happened old new accepted event answer (items text) steps memory text_is
happened_if items old new accepted event answer (Err e) steps text_is memory = tt

-- the mementos of a page are as many as their set has
set_of_page : (list : List Memento) → IsStrictlySortedBy memento_cmp list → length (set.items (set.from_list {R = memento_cmp} list)) ≡ length list
set_of_page list sorted = ap (λ (l : List Memento). length l) (items_in_order list sorted)

-- the event that takes a harvest takes the page's
harvest_taken : (old new : Kept) (t : Taking) (original : List ℕ) (page : Page) (harvest : Harvested) (text : List ℕ) → IsArchiveName t.archive → IsStrictlySortedBy memento_cmp page.mementos
    → harvest ≡ harvest_of t original page → length (set.items harvest.mementos) ≤ 100000 → IsHappening old (taken_line page) (Take t.replica harvest) text new
    → IsHarvestTaken old t original page text new
harvest_taken old new t original page harvest text name sorted harvest_is few happening =
    let same : length (set.items harvest.mementos) ≡ length page.mementos = ap (λ (h : Harvested). length (set.items h.mementos)) harvest_is ∙ set_of_page page.mementos sorted in
    let short : length page.mementos ≤ 100000 = subst (λ (n : ℕ). n ≤ 100000) same few in (
      happening.0,
      λ w stands. let reached = happening.1 w stands in record {
        next = reached.next;
        written = inr (name, inr (short, subst (λ (h : Harvested). Happens old.base w (taken_line page) (Take t.replica h) text reached.next) harvest_is reached.written));
        kept = reached.kept;
      },
    )

pub harvest_taken_if : {V E : Type 0} (items : V → List ℕ) (old new : Kept) (t : Taking) (original : List ℕ) (page : Page) (archive : List ℕ)
    (mementos : List Memento) (harvest : Harvested) (accepted : List ℕ) (result : Result V E)
    → SomeIff (Some archive) (IsArchiveName t.archive) t.archive → IsStrictlySortedBy memento_cmp page.mementos
    → harvest ≡ record { archive = archive; original = original; revision = t.revision; is_whole = t.is_whole; mementos = set.from_list mementos } → mementos ≡ page.mementos
    → length (set.items harvest.mementos) ≤ 100000 → accepted ≡ taken_line page
    → IfOk result (λ text. IsHappening old accepted (Take t.replica harvest) (items text) new)
    → IfOk result (λ text. IsHarvestTaken old t original page (items text) new)
harvest_taken_if items old new t original page archive mementos harvest accepted (Err e) name sorted harvest_is mementos_are few accepted_is happening = tt
harvest_taken_if items old new t original page archive mementos harvest accepted (Ok text) name sorted harvest_is mementos_are few accepted_is happening =
    harvest_taken old new t original page harvest (items text) name.0 sorted
    (harvest_is ∙ (λ i. record { archive = name.1 i; original = original; revision = t.revision; is_whole = t.is_whole; mementos = set.from_list (mementos_are i) }))
    few
    (subst (λ (a : List ℕ). IsHappening old a (Take t.replica harvest) (items text) new) accepted_is happening)

-- a page of too many mementos is refused
pub harvest_too_large_if : {V E : Type 0} (items : V → List ℕ) (old new : Kept) (t : Taking) (original : List ℕ) (page : Page) (archive : List ℕ) (mementos : List Memento) (result : Result V E)
    → SomeIff (Some archive) (IsArchiveName t.archive) t.archive → IsStrictlySortedBy memento_cmp page.mementos → mementos ≡ page.mementos
    → 100000 < length (set.items (set.from_list {R = memento_cmp} mementos)) → IfOk result (λ text. items text ≡ refusal_text (codes "too many")) → new ≡ old
    → IfOk result (λ text. IsHarvestTaken old t original page (items text) new)
harvest_too_large_if items old new t original page archive mementos (Err e) name sorted mementos_are many refusal same = tt
harvest_too_large_if items old new t original page archive mementos (Ok text) name sorted mementos_are many refusal same =
    let many_in_page : 100000 < length (set.items (set.from_list {R = memento_cmp} page.mementos)) =
    subst (λ (list : List Memento). 100000 < length (set.items (set.from_list {R = memento_cmp} list))) mementos_are many in
    let long : 100000 < length page.mementos = subst (λ (n : ℕ). 100000 < n) (set_of_page page.mementos sorted) many_in_page in
    subst (λ (new : Kept). IsHarvestTaken old t original page (items text) new) (sym same)
    (refl, λ w stands. record { next = w; written = inr (name.0, inl (long, (refusal, refl))); kept = stands })

-- the mementos of a page are in order
pub page_sorted : (address body : List ℕ) (page : Page) → IsPage address body page → IsStrictlySortedBy memento_cmp page.mementos
page_sorted address body page = sorted (utf8_text address) where
  sorted : (o : Option (List ℕ)) → MatchOption o ⊥ (λ base. IsAnswer base body (Ok page)) → IsStrictlySortedBy memento_cmp page.mementos
  sorted None is = absurd is
  sorted (Some base) (links, url, short, read, at, is) = is.mementos.sorted

-- what was written of the harvest of a page, under the original that is named, was written of the page
pub page_taken_if : {E : Type 0} (old new : Kept) (t : Taking) (original : List ℕ) (page : Page) (result : Result (List ℕ) E) → original_at t.original ≡ Some original → IsPage t.address t.body page
    → IfOk result (λ text. IsHarvestTaken old t original page text new) → IfOk result (λ text. IsPageTaken old t text new)
page_taken_if old new t original page (Err e) named read taken = tt
page_taken_if old new t original page (Ok text) named read taken = (
  taken.0,
  λ w stands. let reached = taken.1 w stands in record {
    next = reached.next;
    written = rw named (inr (page, read, reached.written));
    kept = reached.kept;
  },
)

-- so a command that takes a page is performed
pub taking_performed_if : {E : Type 0} (old new : Kept) (t : Taking) (result : Result (List ℕ) E) → IfOk result (λ text. IsPageTaken old t text new)
    → IfOk result (λ text. IsPerformed old (script.Take t) text new)
taking_performed_if old new t (Err e) taken = tt
taking_performed_if old new t (Ok text) taken = taken

-- and one that is an event
pub step_performed_if : {E : Type 0} (old new : Kept) (accepted : List ℕ) (event : Event) (result : Result (List ℕ) E) → accepted ≡ accepted_line event
    → IfOk result (λ text. IsHappening old accepted event text new) → IfOk result (λ text. IsPerformed old (script.Step event) text new)
step_performed_if old new accepted event (Err e) is happening = tt
step_performed_if old new accepted event (Ok text) is happening = subst (λ (a : List ℕ). IsHappening old a event text new) is happening
