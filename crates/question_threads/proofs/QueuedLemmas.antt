-- What is written of the questions that wait, step by step.
use Rattle.std.proofs.Common.{◌≡◌, ℕ, ◌==◌, List, [], ◌∷◌, ◌++◌, ◌<◌, false, Option, Result, Ok, Err, OnErr, All, ne_eqb, map, set}
use Rattle.std.proofs.Common.{length, drop, get_or, refl, sym, ap, subst, ◌∙◌, append-nil, append_assoc, length-append, take, take-append-drop, zero-lt-suc, true≢false, true, eqb-true, arith}
use Rattle.std.specs.List.{flat_map}
use Rattle.std.specs.Io.KnownBytes.{Appends, Keeps}
use Rattle.std.proofs.Math.Seq.{map-set_same}
use Rattle.std.proofs.KnownBytes.{Appends-nil, Appends-trans, Appends-kept}
use Rattle.std.proofs.lemmas.List.{map-append}
use Rattle.std.proofs.lemmas.List.Elements.{All-append, All-cons, All-nil}
use Rattle.std.proofs.lemmas.List.Concat.{flat_map-append}
use Rattle.harvest_lattice.specs.Knowledge.{shown}
use Rattle.harvester.specs.declared.fetches.Answer.{Answer}
use Rattle.harvester.specs.declared.faults.FetchFault.{FetchFault}
use Rattle.harvester.specs.declared.jobs.Job.{Job}
use Rattle.harvest_workers.specs.declared.errands.Errand.{Errand}
use Rattle.single_questions.specs.Gathered.{IsWalked}
use Rattle.single_questions.specs.Wants.{answer_text}
use Rattle.single_questions.specs.declared.wants.Want.{Want}
use Rattle.question_threads.specs.Queued.{Queued, without_first, AppendsBeginning, Answers, AreWritten, AreBegun, OneIsWritten, OneIsBegun, Writes, IsNext, BreaksOff, AsksTheSame}

-- ---- beginnings

-- nothing is a beginning
pub nothing_begun : (out : Option (List ℕ)) (text : List ℕ) → AppendsBeginning out out text
nothing_begun out text = ([], text, refl, Appends-nil out)

-- all is a beginning
pub all_begun : (old mid new : Option (List ℕ)) (text : List ℕ) → Appends old mid text → Keeps mid new → AppendsBeginning old new text
all_begun old mid new text appended kept = (text, [], sym (append-nil text), Appends-kept old mid new text appended kept)

-- a beginning that comes where nothing was written before
pub begun_behind : (old mid new : Option (List ℕ)) (text : List ℕ) → Appends old mid [] → AppendsBeginning mid new text → AppendsBeginning old new text
begun_behind old mid new text none (done, left, is, appended) = (done, left, is, Appends-trans old mid new [] done none appended)

-- what a step wrote and what it left are the text
pub write_more : (old mid new : Option (List ℕ)) (text rest after : List ℕ) (n : ℕ)
    → ((done : List ℕ) × (text ≡ done ++ rest) × Appends old mid done) → Appends mid new (take n rest) → after ≡ drop n rest
    → (done : List ℕ) × (text ≡ done ++ after) × Appends old new done
write_more old mid new text rest after n (done, is, before) appended e =
    let whole : take n rest ++ after ≡ rest = ap (λ (l : List ℕ). take n rest ++ l) e ∙ take-append-drop n rest in (
      done ++ take n rest,
      is ∙ ap (λ (l : List ℕ). done ++ l) (sym whole) ∙ sym (append_assoc done (take n rest) after),
      Appends-trans old mid new done (take n rest) before appended,
    )

-- an error that is passed on
pub on_err : {T E : Type 0} (result : Result T E) (P : Type 0) → P → OnErr result P
on_err (Ok x) P given = tt
on_err (Err e) P given = given

-- ---- the questions behind a queue

abbrev queued_of : Want → List ℕ → List (List ℕ) → Queued
queued_of want base originals = record { want = want; base = base; originals = originals }

-- a question that was changed is for the original that it was for
pub one_changed : {X : Type 0} (xs : List X) (f : X → List ℕ) (place : ℕ) (x y : X) (want : Want) (base : List ℕ) (now : Queued) → x ≡ get_or xs place x → f y ≡ f x
    → queued_of want base (map f xs) ≡ now → queued_of want base (map f (set xs place y)) ≡ now
one_changed xs f place x y want base now at same is = ap (queued_of want base) (map-set_same f xs place y x (same ∙ ap f at)) ∙ is

first_is : {X : Type 0} (xs : List X) (f : X → List ℕ) (x : X) → 0 < length xs → x ≡ get_or xs 0 x → map f xs ≡ f x ∷ map f (drop 1 xs)
first_is [] f x some at = absurd (omega (arith, some))
first_is (y ∷ ys) f x some at = ap (λ h. f h ∷ map f ys) (sym at)

-- of one original none is answered while one waits
none_of : (original : List ℕ) (answered : List (List ℕ × List ℕ)) (later : List (List ℕ)) → original ∷ [] ≡ map (λ a. a.0) answered ++ later
    → (length later == 0) ≡ false → (answered ≡ []) × (later ≡ original ∷ [])
none_of original [] later e n = (refl, sym e)
none_of original (a ∷ more) [] e n = absurd (true≢false n)
none_of original (a ∷ more) (l ∷ later) e n =
    absurd (omega (arith, ap length e, length-append (map (λ (a : List ℕ × List ℕ). a.0) more) (l ∷ later)))

module _ (jobs : Errand → Job → Type 0) (answers : List ℕ → Answer → Type 0) (faults : List ℕ → FetchFault → Type 0) where
  -- a question has an answer, also while nothing is known
  pub some_answer : (want : Want) (base original : List ℕ) → Answers jobs answers faults want base original (answer_text want base original (shown [] original))
  some_answer want base original = ∣ record {
    harvests = [];
    walked = All-nil (IsWalked jobs answers faults original);
    text_is = refl;
  } ∣₁

  -- the first question is for the first original
  pub next_of : {X : Type 0} (xs : List X) (f : X → List ℕ) (x : X) (want : Want) (base text : List ℕ) (now : Queued) → queued_of want base (map f xs) ≡ now
      → 0 < length xs → x ≡ get_or xs 0 x → Answers jobs answers faults want base (f x) text → IsNext jobs answers faults now text
  next_of xs f x want base text now is some at answer = (
    f x,
    map f (drop 1 xs),
    ap (λ (q : Queued). q.originals) (sym is) ∙ first_is xs f x some at,
    subst (λ (q : Queued). Answers jobs answers faults q.want q.base (f x) text) is answer,
  )

  -- ---- answers that were written

  pub none_written : (want : Want) (base : List ℕ) (out : Option (List ℕ)) → AreWritten jobs answers faults want base out out
  none_written want base out = record {
    answered = [];
    each = All-nil (λ a. Answers jobs answers faults want base a.0 a.1);
    written = Appends-nil out;
  }

  -- and no more was begun
  pub none_begun : (want : Want) (base : List ℕ) (old new : Option (List ℕ)) → AreWritten jobs answers faults want base old new
      → AreBegun jobs answers faults want base old new
  none_begun want base old new written = record {
    between = new;
    whole = written;
    original = [];
    text = answer_text want base [] (shown [] []);
    answer = some_answer want base [];
    begun = nothing_begun new (answer_text want base [] (shown [] []));
  }

  -- more was written behind it
  both_written : (want : Want) (base : List ℕ) (old mid new : Option (List ℕ)) (first second : List (List ℕ × List ℕ))
      → Appends old mid (flat_map (λ a. a.1) first) → Appends mid new (flat_map (λ a. a.1) second) → Appends old new (flat_map (λ a. a.1) (first ++ second))
  both_written want base old mid new first second before after =
      subst (Appends old new) (sym (flat_map-append (λ (a : List ℕ × List ℕ). a.1) first second))
      (Appends-trans old mid new (flat_map (λ (a : List ℕ × List ℕ). a.1) first) (flat_map (λ (a : List ℕ × List ℕ). a.1) second) before after)

  each_still : (before after : Queued) (answered : List (List ℕ × List ℕ)) → AsksTheSame before after → All (λ a. Answers jobs answers faults after.want after.base a.0 a.1) answered
      → All (λ a. Answers jobs answers faults before.want before.base a.0 a.1) answered
  each_still before after answered (want, base) each =
      subst (λ w. All (λ a. Answers jobs answers faults w before.base a.0 a.1) answered) want
      (subst (λ b. All (λ a. Answers jobs answers faults after.want b a.0 a.1) answered) base each)

  -- ---- the queue

  pub writes_nothing : (queued : Queued) (out : Option (List ℕ)) → Writes jobs answers faults queued queued out out
  writes_nothing queued out = record {
    answered = [];
    each = All-nil (λ a. Answers jobs answers faults queued.want queued.base a.0 a.1);
    written = Appends-nil out;
    left = refl;
    same = (refl, refl);
  }

  -- the first was answered
  pub writes_next : (before after : Queued) (text : List ℕ) (old new : Option (List ℕ)) → IsNext jobs answers faults before text → Appends old new text
      → after ≡ without_first before → Writes jobs answers faults before after old new
  writes_next before after text old new (original, later, is, answer) appended e =
      subst (λ (q : Queued). Writes jobs answers faults before q old new) (sym e) (record {
        answered = (original, text) ∷ [];
        each = All-cons (λ a. Answers jobs answers faults before.want before.base a.0 a.1) (original, text) [] answer
            (All-nil (λ a. Answers jobs answers faults before.want before.base a.0 a.1));
        written = subst (Appends old new) (sym (append-nil text)) appended;
        left = is ∙ ap (λ (l : List (List ℕ)). original ∷ l) (sym (ap (drop 1) is));
        same = (refl, refl);
      })

  -- and then further ones
  pub writes_more : (before mid after : Queued) (old between new : Option (List ℕ)) → Writes jobs answers faults before mid old between
      → Writes jobs answers faults mid after between new → Writes jobs answers faults before after old new
  writes_more before mid after old between new first second =
      let f : List ℕ × List ℕ → List ℕ = λ a. a.0 in
      record {
        answered = first.answered ++ second.answered;
        each = All-append (λ a. Answers jobs answers faults before.want before.base a.0 a.1) first.answered second.answered first.each
            (each_still before mid second.answered first.same second.each);
        written = both_written before.want before.base old between new first.answered second.answered first.written second.written;
        left = first.left ∙ ap (λ (l : List (List ℕ)). map f first.answered ++ l) second.left
            ∙ sym (append_assoc (map f first.answered) (map f second.answered) after.originals)
            ∙ ap (λ (l : List (List ℕ)). l ++ after.originals) (sym (map-append f first.answered second.answered));
        same = (second.same.0 ∙ first.same.0, second.same.1 ∙ first.same.1);
      }

  -- a beginning of the next was written
  pub breaks_next : (before : Queued) (text : List ℕ) (old new : Option (List ℕ)) → IsNext jobs answers faults before text → AppendsBeginning old new text
      → BreaksOff jobs answers faults before old new
  breaks_next before text old new next begun = record {
    between = before;
    meanwhile = old;
    whole = writes_nothing before old;
    text = text;
    next = next;
    begun = begun;
  }

  -- further ones were answered before
  pub breaks_later : (before mid : Queued) (old between new : Option (List ℕ)) → Writes jobs answers faults before mid old between
      → BreaksOff jobs answers faults mid between new → BreaksOff jobs answers faults before old new
  breaks_later before mid old between new first broken = record {
    between = broken.between;
    meanwhile = broken.meanwhile;
    whole = writes_more before mid broken.between old between broken.meanwhile first broken.whole;
    text = broken.text;
    next = broken.next;
    begun = broken.begun;
  }

  -- ---- one question

  -- nothing was written while it waits
  pub one_waits : (before after : Queued) (original : List ℕ) (old new : Option (List ℕ)) → before.originals ≡ original ∷ []
      → Writes jobs answers faults before after old new → (length after.originals == 0) ≡ false → (after.originals ≡ original ∷ []) × Appends old new []
  one_waits before after original old new one wrote waits =
      let none = none_of original wrote.answered after.originals (sym one ∙ wrote.left) waits in
      (none.1, subst (λ (l : List (List ℕ × List ℕ)). Appends old new (flat_map (λ a. a.1) l)) none.0 wrote.written)

  one_of : (want : Want) (base original : List ℕ) (answered : List (List ℕ × List ℕ)) (old new : Option (List ℕ)) → original ∷ [] ≡ map (λ a. a.0) answered ++ []
      → All (λ a. Answers jobs answers faults want base a.0 a.1) answered → Appends old new (flat_map (λ a. a.1) answered) → OneIsWritten jobs answers faults want base original old new
  one_of want base original [] old new e each written = absurd (omega (arith, ap length e))
  one_of want base original (a ∷ []) old new e each written = (
    a.1,
    subst (λ (o : List ℕ). Answers jobs answers faults want base o a.1) (sym (ap (λ (l : List (List ℕ)). get_or l 0 []) e)) (each 0 a (zero-lt-suc 0)),
    subst (Appends old new) (append-nil a.1) written,
  )
  one_of want base original (a ∷ b ∷ more) old new e each written = absurd (omega (arith, ap length e))

  -- its answer was written once it waits no longer
  pub one_answered : (before after : Queued) (original : List ℕ) (old new : Option (List ℕ)) → before.originals ≡ original ∷ []
      → Writes jobs answers faults before after old new → after.originals ≡ [] → OneIsWritten jobs answers faults before.want before.base original old new
  one_answered before after original old new one wrote done =
      one_of before.want before.base original wrote.answered old new
      (sym one ∙ wrote.left ∙ ap (λ (l : List (List ℕ)). map (λ (a : List ℕ × List ℕ). a.0) wrote.answered ++ l) done) wrote.each wrote.written

  -- a beginning of its answer was written, and nothing else
  broken_of : (before between : Queued) (original later_of : List ℕ) (later : List (List ℕ)) (text : List ℕ) (old mid new : Option (List ℕ))
      → before.originals ≡ original ∷ [] → Writes jobs answers faults before between old mid → between.originals ≡ later_of ∷ later
      → Answers jobs answers faults between.want between.base later_of text → AppendsBeginning mid new text
      → OneIsBegun jobs answers faults before.want before.base original old new
  broken_of before between original next later text old mid new one wrote is answer begun =
      let waits = one_waits before between original old mid one wrote (ap (λ (l : List (List ℕ)). length l == 0) is ∙ ne_eqb (length (next ∷ later)) 0 (λ e. omega (arith, e))) in
      let same : next ≡ original = ap (λ (l : List (List ℕ)). get_or l 0 []) (sym is ∙ waits.0) in (
        text,
        subst (λ (o : List ℕ). Answers jobs answers faults before.want before.base o text) same
            (subst (λ (w : Want). Answers jobs answers faults w before.base next text) wrote.same.0
            (subst (λ (b : List ℕ). Answers jobs answers faults between.want b next text) wrote.same.1 answer)),
        begun_behind old mid new text waits.1 begun,
      )

  pub one_broken : (before : Queued) (original : List ℕ) (start old new : Option (List ℕ)) → before.originals ≡ original ∷ [] → Appends start old []
      → BreaksOff jobs answers faults before old new → OneIsBegun jobs answers faults before.want before.base original start new
  one_broken before original start old new one none broken =
      let begun = broken_of before broken.between original broken.next.0 broken.next.1 broken.text old broken.meanwhile new one broken.whole
      broken.next.2 broken.next.3 broken.begun in
      (begun.0, begun.1, begun_behind start old new begun.0 none begun.2)

  -- nothing of its answer was written
  pub one_unbegun : (want : Want) (base original : List ℕ) (old new : Option (List ℕ)) → Appends old new [] → OneIsBegun jobs answers faults want base original old new
  one_unbegun want base original old new none =
      let text = answer_text want base original (shown [] original) in
      (text, some_answer want base original, begun_behind old new new text none (nothing_begun new text))

  -- ---- the questions of a list

  -- what the queue answered was written behind what was written before
  pub written_on : (start before after : Queued) (out old new : Option (List ℕ)) → AsksTheSame start before → AreWritten jobs answers faults start.want start.base out old
      → Writes jobs answers faults before after old new → AreWritten jobs answers faults start.want start.base out new
  written_on start before after out old new same written wrote = record {
    answered = written.answered ++ wrote.answered;
    each = All-append (λ a. Answers jobs answers faults start.want start.base a.0 a.1) written.answered wrote.answered written.each
        (each_still start before wrote.answered same wrote.each);
    written = both_written start.want start.base out old new written.answered wrote.answered written.written wrote.written;
  }

  -- and a beginning of the next
  pub begun_on : (start before : Queued) (out old new : Option (List ℕ)) → AsksTheSame start before → AreWritten jobs answers faults start.want start.base out old
      → BreaksOff jobs answers faults before old new → AreBegun jobs answers faults start.want start.base out new
  begun_on start before out old new (want, base) written broken = record {
    between = broken.meanwhile;
    whole = written_on start before broken.between out old broken.meanwhile (want, base) written broken.whole;
    original = broken.next.0;
    text = broken.text;
    answer = subst (λ (w : Want). Answers jobs answers faults w start.base broken.next.0 broken.text) (broken.whole.same.0 ∙ want)
        (subst (λ (b : List ℕ). Answers jobs answers faults broken.between.want b broken.next.0 broken.text) (broken.whole.same.1 ∙ base) broken.next.3);
    begun = broken.begun;
  }

  -- ---- the turns of the loop that asks one question

  none_left : (l : List (List ℕ)) → (length l == 0) ≡ true → l ≡ []
  none_left [] is = refl
  none_left (x ∷ xs) is = absurd (omega (arith, eqb-true (length (x ∷ xs)) 0 is))

  -- a beginning was written in a turn
  pub turn_broken : (before queue : Queued) (want : Want) (base original : List ℕ) (start old new : Option (List ℕ)) → before ≡ queue
      → queue.want ≡ want → queue.base ≡ base → queue.originals ≡ original ∷ [] → Appends start old [] → BreaksOff jobs answers faults before old new
      → OneIsBegun jobs answers faults want base original start new
  turn_broken before queue want base original start old new same is_want is_base one none broken =
      subst (λ (w : Want). OneIsBegun jobs answers faults w base original start new) (ap (λ (q : Queued). q.want) same ∙ is_want)
      (subst (λ (b : List ℕ). OneIsBegun jobs answers faults before.want b original start new) (ap (λ (q : Queued). q.base) same ∙ is_base)
      (one_broken before original start old new (ap (λ (q : Queued). q.originals) same ∙ one) none broken))

  -- the answer was written in a turn
  pub turn_answered : (before queue after : Queued) (want : Want) (base original : List ℕ) (start old new : Option (List ℕ)) → before ≡ queue
      → queue.want ≡ want → queue.base ≡ base → queue.originals ≡ original ∷ [] → Appends start old [] → Writes jobs answers faults before after old new
      → (length after.originals == 0) ≡ true → OneIsWritten jobs answers faults want base original start new
  turn_answered before queue after want base original start old new same is_want is_base one none wrote done =
      let written = one_answered before after original old new (ap (λ (q : Queued). q.originals) same ∙ one) wrote (none_left after.originals done) in (
        written.0,
        subst (λ (w : Want). Answers jobs answers faults w base original written.0) (ap (λ (q : Queued). q.want) same ∙ is_want)
            (subst (λ (b : List ℕ). Answers jobs answers faults before.want b original written.0) (ap (λ (q : Queued). q.base) same ∙ is_base) written.1),
        Appends-trans start old new [] written.0 none written.2,
      )

  -- the question waits after a turn
  pub turn_waits : (before queue after last : Queued) (want : Want) (base original : List ℕ) (start old new : Option (List ℕ)) → before ≡ queue
      → queue.want ≡ want → queue.base ≡ base → queue.originals ≡ original ∷ [] → Appends start old [] → Writes jobs answers faults before after old new
      → (length after.originals == 0) ≡ false → last ≡ after
      → (last.want ≡ want) × (last.base ≡ base) × (last.originals ≡ original ∷ []) × Appends start new []
  turn_waits before queue after last want base original start old new same is_want is_base one none wrote waits end =
      let still = one_waits before after original old new (ap (λ (q : Queued). q.originals) same ∙ one) wrote waits in (
        ap (λ (q : Queued). q.want) end ∙ wrote.same.0 ∙ ap (λ (q : Queued). q.want) same ∙ is_want,
        ap (λ (q : Queued). q.base) end ∙ wrote.same.1 ∙ ap (λ (q : Queued). q.base) same ∙ is_base,
        ap (λ (q : Queued). q.originals) end ∙ still.0,
        Appends-trans start old new [] [] none still.1,
      )

-- what is asked stays from one queue to the next
pub same_trans : (start before after : Queued) → AsksTheSame start before → AsksTheSame before after → AsksTheSame start after
same_trans start before after first second = (second.0 ∙ first.0, second.1 ∙ first.1)

pub same_still : (start before after : Queued) → AsksTheSame start before → after ≡ before → AsksTheSame start after
same_still start before after same is = subst (λ (q : Queued). AsksTheSame start q) (sym is) same

module _ (jobs : Errand → Job → Type 0) (answers : List ℕ → Answer → Type 0) (faults : List ℕ → FetchFault → Type 0) where
  -- ---- the turns of the loop that asks the questions of a list: lines are read, walks end and are handed out, and
  -- answers are written

  abbrev asked_at_first : Want → List ℕ → Queued
  asked_at_first want base = queued_of want base []

  turn_asks : (queue read taken handed : Queued) (want : Want) (base : List ℕ) → queue.want ≡ want → queue.base ≡ base → AsksTheSame queue read → taken ≡ read → handed ≡ taken
      → AsksTheSame (asked_at_first want base) handed
  turn_asks queue read taken handed want base is_want is_base lines walks hands =
      same_still (asked_at_first want base) taken handed
      (same_still (asked_at_first want base) read taken (same_trans (asked_at_first want base) queue read (is_want, is_base) lines) walks) hands

  pub turn_written : (queue read taken handed after : Queued) (want : Want) (base : List ℕ) (start old new : Option (List ℕ)) → queue.want ≡ want → queue.base ≡ base
      → AreWritten jobs answers faults want base start old → AsksTheSame queue read → taken ≡ read → handed ≡ taken → Writes jobs answers faults handed after old new
      → AreWritten jobs answers faults want base start new
  turn_written queue read taken handed after want base start old new is_want is_base written lines walks hands wrote =
      written_on jobs answers faults (asked_at_first want base) handed after start old new (turn_asks queue read taken handed want base is_want is_base lines walks hands) written wrote

  pub turn_begun : (queue read taken handed : Queued) (want : Want) (base : List ℕ) (start old new : Option (List ℕ)) → queue.want ≡ want → queue.base ≡ base
      → AreWritten jobs answers faults want base start old → AsksTheSame queue read → taken ≡ read → handed ≡ taken → BreaksOff jobs answers faults handed old new
      → AreBegun jobs answers faults want base start new
  turn_begun queue read taken handed want base start old new is_want is_base written lines walks hands broken =
      begun_on jobs answers faults (asked_at_first want base) handed start old new (turn_asks queue read taken handed want base is_want is_base lines walks hands) written broken

  pub turn_goes_on : (queue read taken handed after last : Queued) (want : Want) (base : List ℕ) (start old new : Option (List ℕ)) → queue.want ≡ want → queue.base ≡ base
      → AreWritten jobs answers faults want base start old → AsksTheSame queue read → taken ≡ read → handed ≡ taken → Writes jobs answers faults handed after old new
      → AsksTheSame after last → (last.want ≡ want) × (last.base ≡ base) × AreWritten jobs answers faults want base start new
  turn_goes_on queue read taken handed after last want base start old new is_want is_base written lines walks hands wrote more =
      let asks = turn_asks queue read taken handed want base is_want is_base lines walks hands in
      let still = same_trans (asked_at_first want base) after last (same_trans (asked_at_first want base) handed after asks wrote.same) more in
      (still.0, still.1, turn_written queue read taken handed after want base start old new is_want is_base written lines walks hands wrote)
