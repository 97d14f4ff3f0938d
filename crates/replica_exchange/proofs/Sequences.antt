-- Written values one after the other, and readers of such texts.
use Rattle.std.proofs.Common.{◌≡◌, ℕ, ◌+◌, ◌<◌, ◌≤◌, List, [], ◌∷◌, ◌++◌, length, refl, sym, ap, subst, ◌∙◌, append_assoc, arith}
use Rattle.std.specs.Prelude.{All, Result, Ok, Err, IfErr}
use Rattle.std.specs.Result.{IsErrAnd}
use Rattle.std.specs.List.{flat_map}
use Rattle.std.proofs.lemmas.List.{append-nil, length_push}
use Rattle.std.proofs.lemmas.Grind.{flat_map-append}
use Rattle.std.proofs.lemmas.List.Elements.{All-nil, All-head, All-tail, All-push}
use Rattle.replica_exchange.specs.declared.fault.StateFault.{StateFault}
use Rattle.replica_exchange.specs.declared.fault.StateFault.TheVariants.{TooLong, NotState, NoMemory}
use Rattle.replica_exchange.specs.Spelling.{Spelling, Begins, Refuses, RefusesWhole}
use Rattle.replica_exchange.specs.Parts.{many}
use Rattle.replica_exchange.proofs.SpellingLemmas.{Once}

-- ---- what refuses a part refuses the whole

module _ {A B : Type 0} (s : Spelling A) (t : Spelling B) where
  -- where each text that begins with the whole leaves the part to read
  abbrev pub Leaves : List ℕ → List ℕ → Type 0
  Leaves text left = (b : B) (rest : List ℕ) → Begins t text b rest → (a : A) × (after : List ℕ) × Begins s left a after

  pub refused_with : (text left : List ℕ) → Leaves text left → (fault : StateFault) → Refuses s left fault → Refuses t text fault
  refused_with text left leaves TooLong refused = refused
  refused_with text left leaves NotState refused = λ b rest begins. let part = leaves b rest begins in refused part.0 part.1 part.2
  refused_with text left leaves NoMemory refused = tt

  abbrev pub LeavesWhole : List ℕ → List ℕ → Type 0
  LeavesWhole text left = (b : B) → Begins t text b [] → (a : A) × (after : List ℕ) × Begins s left a after

  pub refused_whole : (text left : List ℕ) → LeavesWhole text left → (fault : StateFault) → Refuses s left fault → RefusesWhole t text fault
  refused_whole text left leaves TooLong refused = refused
  refused_whole text left leaves NotState refused = λ b begins. let part = leaves b begins in refused part.0 part.1 part.2
  refused_whole text left leaves NoMemory refused = tt

-- the exit of a `?` passes the fault on
pub passed_on : {X A : Type 0} (t : Spelling A) (text : List ℕ) (r : Result X StateFault) (fault : StateFault) → IsErrAnd r (λ e. e ≡ fault) → Refuses t text fault → IfErr r (λ f. Refuses t text f)
passed_on t text (Ok x) fault out refused = tt
passed_on t text (Err e) fault out refused = subst (Refuses t text) (sym out) refused

pub passed_on_whole : {X A : Type 0} (t : Spelling A) (text : List ℕ) (r : Result X StateFault) (fault : StateFault) → IsErrAnd r (λ e. e ≡ fault) → RefusesWhole t text fault
    → IfErr r (λ f. RefusesWhole t text f)
passed_on_whole t text (Ok x) fault out refused = tt
passed_on_whole t text (Err e) fault out refused = subst (RefusesWhole t text) (sym out) refused

-- a fault that is NotState
pub malformed : {A : Type 0} (t : Spelling A) (text : List ℕ) (fault : StateFault) → fault ≡ NotState → ((b : A) (rest : List ℕ) → ¬ Begins t text b rest) → Refuses t text fault
malformed t text fault is none = subst (Refuses t text) (sym is) none

pub malformed_whole : {A : Type 0} (t : Spelling A) (text : List ℕ) (fault : StateFault) → fault ≡ NotState → ((b : A) → ¬ Begins t text b []) → RefusesWhole t text fault
malformed_whole t text fault is none = subst (RefusesWhole t text) (sym is) none

-- ---- one value, and then another

abbrev pub seq : {A B : Type 0} → Spelling A → Spelling B → Spelling (A × B)
seq s t = record { Is = λ p. s.Is p.0 × t.Is p.1; spelled = λ p. s.spelled p.0 ++ t.spelled p.1 }

module _ {A B : Type 0} (s : Spelling A) (t : Spelling B) where
  pub seq_found : (text mid rest : List ℕ) (a : A) (b : B) → Begins s text a mid → Begins t mid b rest → Begins (seq s t) text (a, b) rest
  seq_found text mid rest a b first then = record {
    is = (first.is, then.is);
    whole = first.whole ∙ (ap (λ (u : List ℕ). s.spelled a ++ u) then.whole ∙ sym (append_assoc (s.spelled a) (t.spelled b) rest));
  }

  pub seq_first : (text rest : List ℕ) (a : A) (b : B) → Begins (seq s t) text (a, b) rest → Begins s text a (t.spelled b ++ rest)
  seq_first text rest a b begins = record { is = begins.is.0; whole = begins.whole ∙ append_assoc (s.spelled a) (t.spelled b) rest }

  pub seq_then : Once s → (text mid rest : List ℕ) (a x : A) (b : B) → Begins s text x mid → Begins (seq s t) text (a, b) rest → (a ≡ x) × Begins t mid b rest
  seq_then once text mid rest a x b first begins =
      let same = once text a x (t.spelled b ++ rest) mid (seq_first text rest a b begins) first in
      (same.0, record { is = begins.is.1; whole = sym same.1 })

  pub seq_once : Once s → Once t → Once (seq s t)
  seq_once once_s once_t text x y r u bx by =
      let first = seq_first text u y.0 y.1 by in
      let part = seq_then once_s text (t.spelled y.1 ++ u) r x.0 y.0 x.1 first bx in
      let second = once_t (t.spelled y.1 ++ u) x.1 y.1 r u part.1 (record { is = by.is.1; whole = refl }) in
      ((λ i. (part.0 i, second.0 i)), second.1)

-- ---- so many values

module _ {A : Type 0} (s : Spelling A) where
  pub many_none : (text : List ℕ) → Begins (many 0 s) text [] text
  many_none text = record { is = (refl, All-nil s.Is); whole = refl }

  flat_push : (xs : List A) (x : A) → flat_map s.spelled (xs ++ x ∷ []) ≡ flat_map s.spelled xs ++ s.spelled x
  flat_push xs x = flat_map-append s.spelled xs (x ∷ []) ∙ ap (λ (u : List ℕ). flat_map s.spelled xs ++ u) (append-nil (s.spelled x))

  pub many_more : (i : ℕ) (text left rest : List ℕ) (xs : List A) (x : A) → Begins (many i s) text xs left → Begins s left x rest → Begins (many (i + 1) s) text (xs ++ x ∷ []) rest
  many_more i text left rest xs x so_far next = record {
    is = (length_push xs x ∙ ap (λ n. n + 1) so_far.is.0, All-push s.Is xs x so_far.is.1 next.is);
    whole =
        so_far.whole
        ∙ (ap (λ (u : List ℕ). flat_map s.spelled xs ++ u) next.whole
        ∙ (sym (append_assoc (flat_map s.spelled xs) (s.spelled x) rest) ∙ ap (λ (u : List ℕ). u ++ rest) (sym (flat_push xs x))));
  }

  pub many_done : (count i : ℕ) (text left : List ℕ) (xs : List A) → count ≤ i → i ≤ count → Begins (many i s) text xs left → Begins (many count s) text xs left
  many_done count i text left xs over under begins = let same : i ≡ count = omega arith in record { is = (begins.is.0 ∙ same, begins.is.1); whole = begins.whole }

  -- of two readings of a text the longer goes on where the shorter ends
  goes_on : Once s → (xs ys : List A) (r u : List ℕ) → length xs < length ys → All s.Is xs → All s.Is ys → flat_map s.spelled xs ++ r ≡ flat_map s.spelled ys ++ u
      → (y : A) × (after : List ℕ) × Begins s r y after
  goes_on once [] [] r u less ix iy e = absurd (omega arith)
  goes_on once [] (y ∷ ys) r u less ix iy e =
      (y, flat_map s.spelled ys ++ u, record { is = All-head s.Is y ys iy; whole = e ∙ append_assoc (s.spelled y) (flat_map s.spelled ys) u })
  goes_on once (x ∷ xs) [] r u less ix iy e = absurd (omega arith)
  goes_on once (x ∷ xs) (y ∷ ys) r u less ix iy e =
      let text : List ℕ = flat_map s.spelled (x ∷ xs) ++ r in
      let front : Begins s text x (flat_map s.spelled xs ++ r) = record { is = All-head s.Is x xs ix; whole = append_assoc (s.spelled x) (flat_map s.spelled xs) r } in
      let other : Begins s text y (flat_map s.spelled ys ++ u) = record { is = All-head s.Is y ys iy; whole = e ∙ append_assoc (s.spelled y) (flat_map s.spelled ys) u } in
      let same = once text x y (flat_map s.spelled xs ++ r) (flat_map s.spelled ys ++ u) front other in
      goes_on once xs ys r u (omega arith) (All-tail s.Is x xs ix) (All-tail s.Is y ys iy) same.1

  pub many_leaves : Once s → (count i : ℕ) (text left : List ℕ) (xs : List A) → i < count → Begins (many i s) text xs left → Leaves s (many count s) text left
  many_leaves once count i text left xs less so_far ys rest whole =
      let short : length xs ≡ i = so_far.is.0 in
      let long : length ys ≡ count = whole.is.0 in
      goes_on once xs ys left rest (omega (arith, short, long, less)) so_far.is.1 whole.is.1 (sym so_far.whole ∙ whole.whole)

  all_once : Once s → (xs ys : List A) (r u : List ℕ) → length xs ≡ length ys → All s.Is xs → All s.Is ys → flat_map s.spelled xs ++ r ≡ flat_map s.spelled ys ++ u → (xs ≡ ys) × (r ≡ u)
  all_once once [] [] r u same ix iy e = (refl, e)
  all_once once [] (y ∷ ys) r u same ix iy e = absurd (omega arith)
  all_once once (x ∷ xs) [] r u same ix iy e = absurd (omega arith)
  all_once once (x ∷ xs) (y ∷ ys) r u same ix iy e =
      let text : List ℕ = flat_map s.spelled (x ∷ xs) ++ r in
      let front : Begins s text x (flat_map s.spelled xs ++ r) = record { is = All-head s.Is x xs ix; whole = append_assoc (s.spelled x) (flat_map s.spelled xs) r } in
      let other : Begins s text y (flat_map s.spelled ys ++ u) = record { is = All-head s.Is y ys iy; whole = e ∙ append_assoc (s.spelled y) (flat_map s.spelled ys) u } in
      let head = once text x y (flat_map s.spelled xs ++ r) (flat_map s.spelled ys ++ u) front other in
      let tail = all_once once xs ys r u (omega arith) (All-tail s.Is x xs ix) (All-tail s.Is y ys iy) head.1 in
      ((λ i. head.0 i ∷ tail.0 i), tail.1)

  pub many_once : (count : ℕ) → Once s → Once (many count s)
  many_once count once text xs ys r u bx by = all_once once xs ys r u (bx.is.0 ∙ sym by.is.0) bx.is.1 by.is.1 (sym bx.whole ∙ by.whole)
