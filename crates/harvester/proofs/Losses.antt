-- A URL whose answer is good isn't lost.
use Rattle.std.proofs.Common.{◌≡◌, ℕ, List, [], ◌∷◌, ◌++◌, Contains, Result, Ok, Err, ⊎_elim, sym, ap, subst, ◌∙◌, append-nil}
use Rattle.std.proofs.lemmas.List.Elements.{Contains-append_cases}
use Rattle.timemap_reader.specs.declared.page.Page.{Page}
use Rattle.harvest_lattice.specs.Knowledge.{Harvested}
use Rattle.harvester.specs.declared.faults.FetchFault.{FetchFault}
use Rattle.harvester.specs.declared.faults.WalkFault.{WalkFault}
use Rattle.harvester.specs.declared.faults.WalkFault.TheVariants.{Fetch, Status, Encoded, Page as NoPage, TooManyPages, TooManyMementos, NoMemory}
use Rattle.harvester.specs.declared.fetches.Answer.{Answer}
use Rattle.harvester.specs.declared.jobs.Job.{Job}
use Rattle.harvester.specs.Answers.{Entry, Says}
use Rattle.harvester.specs.Closure.{Lost, urls}
use Rattle.harvester.specs.Tries.{Came, Try, HasCome, answer_of, loss_of, answers_of, losses_of}
use Rattle.harvester.specs.Tries.Came.{Good, Failing, Unanswered}
use Rattle.harvester.specs.Walks.{IsReached, EndsIn, IsOutcome}
use Rattle.harvester.proofs.Failing.{says_or_fails}
use Rattle.harvester.proofs.Reach.{came, fresh, same_try}
use Rattle.harvester.proofs.Tried.{entry_of, try_answered, try_lost, loss_tried}
use Rattle.memento_time.proofs.ListFacts.{no_element, first_or_later}

-- of one URL there is no good answer and a loss
good_or_loss : (faults : List ℕ → FetchFault → Type 0) (job : Job) (u : List ℕ) (c : Came) (e : Entry) (page : Page) (l : Lost) → HasCome faults job u c → Contains (answer_of u c) e
    → Says job e page → Contains (loss_of u c) l → ⊥
good_or_loss faults job u (Good a p) e page l h c says d = no_element l d
good_or_loss faults job u (Failing a f) e page l h c says d =
    let here : (u, a) ≡ e = ⊎_elim (λ at. at) (λ none. absurd (no_element e none)) (first_or_later (u, a) [] e c) in
    says_or_fails job (u, a) page f (subst (λ (x : Entry). Says job x page) (sym here) says) h.1
good_or_loss faults job u (Unanswered f) e page l h c says d = no_element e c

good_is_kept : (faults : List ℕ → FetchFault → Type 0) (job : Job) (ts : List Try) → IsReached faults job ts → (e : Entry) (page : Page) → Contains (answers_of ts) e → Says job e page
    → Contains (urls (losses_of ts)) e.0 → ⊥
good_is_kept faults job ts r e page c says lost =
    let t = try_answered ts e c in
    let l = entry_of (losses_of ts) e.0 lost in
    let s = try_lost ts l.0 l.1 in
    let same : t.0 ≡ s.0 = same_try faults job ts t.0 s.0 r t.1 s.1 (t.3 ∙ sym (s.3 ∙ l.2)) in
    good_or_loss faults job t.0.0 t.0.1 e page l.0 (came faults job ts r t.0 t.1) t.2 says (subst (λ (x : Try). Contains (loss_of x.0 x.1) l.0) (sym same) s.2)

-- a list of one element has no other
one_of : (es : List Entry) (x e : Entry) → es ≡ x ∷ [] → Contains es e → x ≡ e
one_of es x e is c = ⊎_elim (λ at. at) (λ none. absurd (no_element e none)) (first_or_later x [] e (subst (λ (ys : List Entry). Contains ys e) is c))

none_of_none : {A : Type 0} (es : List A) (e : A) → es ≡ [] → Contains es e → ⊥
none_of_none {A} es e is c = no_element e (subst (λ (ys : List A). Contains ys e) is c)

module _ (answers : List ℕ → Answer → Type 0) (faults : List ℕ → FetchFault → Type 0) (job : Job) (ts : List Try) (unread : List Entry) where
  -- nothing was tried before
  untried : (u : List ℕ) → ts ≡ [] → Contains (urls ts) u → ⊥
  untried u none c = no_element u (subst (λ (xs : List Try). Contains (urls xs) u) none c)

  -- an answer that wasn't used is that of a URL that isn't tried
  unread_untried : (x : Result Harvested WalkFault) → EndsIn answers faults job ts unread x → (e : Entry) → Contains unread e → Contains (urls ts) e.0 → ⊥
  unread_untried (Ok h) end e c d = none_of_none unread e end.0 c
  unread_untried (Err (Fetch f)) end e c d = none_of_none unread e end.0 c
  unread_untried (Err (Status f)) end e c d = untried e.0 end.0 d
  unread_untried (Err Encoded) end e c d = untried e.0 end.0 d
  unread_untried (Err (NoPage f)) end e c d = untried e.0 end.0 d
  unread_untried (Err TooManyPages) end e c d = none_of_none unread e end.0 c
  unread_untried (Err TooManyMementos) end e c d = none_of_none unread e end.0 c
  unread_untried (Err NoMemory) end e c d =
      ⊎_elim
      (λ none. none_of_none unread e none c)
      (λ one. fresh job ts one.0.0 one.2 (subst (λ (x : Entry). Contains (urls ts) x.0) (sym (one_of unread one.0 e one.1 c)) d))
      end

module _ (answers : List ℕ → Answer → Type 0) (faults : List ℕ → FetchFault → Type 0) (job : Job) (es : List Entry) (lost : List Lost) where
  pub never_lost : (x : Result Harvested WalkFault) → IsOutcome answers faults job es lost x → (e : Entry) (page : Page) → Contains es e → Says job e page → Contains (urls lost) e.0 → ⊥
  never_lost x o e page c says d =
      let gone : Contains (urls (losses_of o.tries)) e.0 = subst (λ (ls : List Lost). Contains (urls ls) e.0) o.losses d in
      ⊎_elim
      (λ read. good_is_kept faults job o.tries o.reached e page read says gone)
      (λ left. unread_untried answers faults job o.tries o.unread x o.ends e left (loss_tried o.tries e.0 gone))
      (Contains-append_cases (answers_of o.tries) o.unread e (subst (λ (ys : List Entry). Contains ys e) o.fetched c))

  -- the record of a harvest is what the tries give
  pub all_read : (h : Harvested) (o : IsOutcome answers faults job es lost (Ok h)) → answers_of o.tries ≡ es
  all_read h o = sym (o.fetched ∙ (ap (λ (ys : List Entry). answers_of o.tries ++ ys) o.ends.0 ∙ append-nil (answers_of o.tries)))
