-- What is read of a delta's text, and the one delta of a text.
use Rattle.std.proofs.Common.{◌≡◌, ℕ, ◌≤◌, List, [], ◌∷◌, ◌++◌, length, Result, Ok, Err, IfErr, refl, sym, ap, subst, ◌∙◌, append_assoc, inl, inr, arith}
use Rattle.std.specs.Prelude.{◌⊎◌, codes}
use Rattle.std.specs.Result.{IsErrAnd}
use Rattle.std.specs.Fmt.{decimal}
use Rattle.std.proofs.lemmas.List.{append-nil, append_cancel_left}
use Rattle.harvest_lattice.specs.Lattice.{Entries}
use Rattle.replica_exchange.specs.declared.delta.Delta.{Delta}
use Rattle.replica_exchange.specs.declared.format.Format.{Format}
use Rattle.replica_exchange.specs.declared.format.Format.TheVariants.{One, Two}
use Rattle.replica_exchange.specs.StateText.{IsOld}
use Rattle.replica_exchange.specs.DeltaText.{from_line, delta_text, old_delta_text, IsDelta, IsDeltaText}
use Rattle.replica_exchange.specs.declared.fault.StateFault.{StateFault}
use Rattle.replica_exchange.specs.declared.fault.StateFault.TheVariants.{TooLong, NotState, NoMemory}
use Rattle.replica_exchange.specs.Faults.{IsDeltaCause, longest_text}
use Rattle.replica_exchange.specs.Spelling.{Spelling, Begins, Refuses, RefusesWhole, number}
use Rattle.replica_exchange.specs.Parts.{entries_in, span, first_line}
use Rattle.replica_exchange.proofs.SpellingLemmas.{Once, number_once, ended_apart}
use Rattle.replica_exchange.proofs.Sequences.{Leaves, seq, seq_found, seq_first, seq_then, seq_once}
use Rattle.replica_exchange.proofs.FormatLemmas.{format_once}
use Rattle.replica_exchange.proofs.StateLemmas.{stated_is, stated_old, old_stated, new_stated, stated_once}

-- ---- the line of the incarnation, the start and the end

abbrev start_and_end : Spelling (ℕ × ℕ)
start_and_end = seq (number 32) (number 10)

abbrev numbers : Spelling (ℕ × (ℕ × ℕ))
numbers = seq (number 32) start_and_end

span_parts : (s : ℕ × (ℕ × ℕ)) → from_line s.0 s.1.0 s.1.1 ≡ codes "from " ++ numbers.spelled s
span_parts s =
    ap (λ (u : List ℕ). codes "from " ++ u)
    (ended_apart (decimal s.0) 32 (decimal s.1.0 ++ 32 ∷ (decimal s.1.1 ++ 10 ∷ []))
    ∙ ap (λ (u : List ℕ). (decimal s.0 ++ 32 ∷ []) ++ u) (ended_apart (decimal s.1.0) 32 (decimal s.1.1 ++ 10 ∷ [])))

span_whole : (text rest : List ℕ) (s : ℕ × (ℕ × ℕ)) → Begins span text s rest → text ≡ codes "from " ++ (numbers.spelled s ++ rest)
span_whole text rest s begins = begins.whole ∙ (ap (λ (u : List ℕ). u ++ rest) (span_parts s) ∙ append_assoc (codes "from ") (numbers.spelled s) rest)

-- the line begins with its word
pub span_has_front : (text : List ℕ) → ((rest : List ℕ) → ¬ (text ≡ codes "from " ++ rest)) → (s : ℕ × (ℕ × ℕ)) (rest : List ℕ) → ¬ Begins span text s rest
span_has_front text none s rest begins = none (numbers.spelled s ++ rest) (span_whole text rest s begins)

module _ (text left : List ℕ) (front : text ≡ codes "from " ++ left) where
  pub span_numbers : (s : ℕ × (ℕ × ℕ)) (rest : List ℕ) → Begins span text s rest → Begins numbers left s rest
  span_numbers s rest begins = record {
    is = (begins.is.0.0, (let order = begins.is.0.1 in let end = begins.is.1 in omega (arith, order, end), begins.is.1));
    whole = append_cancel_left (codes "from ") left (numbers.spelled s ++ rest) (sym front ∙ span_whole text rest s begins);
  }

  -- and goes on with the incarnation
  pub span_leaves_incarnation : Leaves (number 32) span text left
  span_leaves_incarnation s rest begins = (s.0, start_and_end.spelled s.1 ++ rest, seq_first (number 32) start_and_end left rest s.0 s.1 (span_numbers s rest begins))

  module _ (incarnation : ℕ) (left_1 : List ℕ) (first : Begins (number 32) left incarnation left_1) where
    past_incarnation : (s : ℕ × (ℕ × ℕ)) (rest : List ℕ) → Begins span text s rest → (s.0 ≡ incarnation) × Begins start_and_end left_1 s.1 rest
    past_incarnation s rest begins = seq_then (number 32) start_and_end (number_once 32 (omega arith)) left left_1 rest s.0 incarnation s.1 first (span_numbers s rest begins)

    -- and the start
    pub span_leaves_start : Leaves (number 32) span text left_1
    span_leaves_start s rest begins = (s.1.0, (number 10).spelled s.1.1 ++ rest, seq_first (number 32) (number 10) left_1 rest s.1.0 s.1.1 (past_incarnation s rest begins).1)

    module _ (start : ℕ) (left_2 : List ℕ) (second : Begins (number 32) left_1 start left_2) where
      past_start : (s : ℕ × (ℕ × ℕ)) (rest : List ℕ) → Begins span text s rest → (s.1.0 ≡ start) × Begins (number 10) left_2 s.1.1 rest
      past_start s rest begins = seq_then (number 32) (number 10) (number_once 32 (omega arith)) left_1 left_2 rest s.1.0 start s.1.1 second (past_incarnation s rest begins).1

      -- and the end
      pub span_leaves_end : Leaves (number 10) span text left_2
      span_leaves_end s rest begins = (s.1.1, rest, (past_start s rest begins).1)

      module _ (end : ℕ) (rest : List ℕ) (third : Begins (number 10) left_2 end rest) where
        pub span_found : start ≤ end → Begins span text (incarnation, (start, end)) rest
        span_found order =
            let two = seq_found (number 32) (number 10) left_1 left_2 rest start end second third in
            let all = seq_found (number 32) start_and_end left left_1 rest incarnation (start, end) first two in
            record {
              is = ((first.is, order), third.is);
              whole = front ∙ (ap (λ (u : List ℕ). codes "from " ++ u) all.whole
                  ∙ (sym (append_assoc (codes "from ") (numbers.spelled (incarnation, (start, end))) rest)
                  ∙ ap (λ (u : List ℕ). u ++ rest) (sym (span_parts (incarnation, (start, end))))));
            }

        -- a start after the end stands in no delta
        pub span_backwards : ¬ (start ≤ end) → (s : ℕ × (ℕ × ℕ)) (after : List ℕ) → ¬ Begins span text s after
        span_backwards none s after begins =
            let starts = past_start s after begins in
            let ends = number_once 10 (omega arith) left_2 s.1.1 end after rest starts.1 third in
            let order : s.1.0 ≤ s.1.1 = begins.is.0.1 in
            none (omega (arith, order, starts.0, ends.0))

pub span_once : Once span
span_once text x y r u bx by =
    let left : List ℕ = numbers.spelled y ++ u in
    let front = span_whole text u y by in
    let same = seq_once (number 32) start_and_end (number_once 32 (omega arith)) (seq_once (number 32) (number 10) (number_once 32 (omega arith)) (number_once 10 (omega arith)))
    left x y r u (span_numbers text left front x r bx) (span_numbers text left front y u by) in
    (same.0, same.1)

-- ---- a delta

abbrev word : List ℕ
word = codes "memento-delta"

abbrev span_of : Delta → ℕ × (ℕ × ℕ)
span_of d = (d.incarnation, (d.start, d.end))

abbrev span_line : Delta → List ℕ
span_line d = from_line d.incarnation d.start d.end

-- a text of a delta begins with the line of a format, and goes on with its own line and the entries in that format
record IsIn (text : List ℕ) (d : Delta) : Type 0 where
  format : Format
  is : (entries_in format).Is d.state
  whole : text ≡ first_line word format ++ (span_line d ++ (entries_in format).spelled d.state)

in_format : (text : List ℕ) (d : Delta) → IsDeltaText text d → IsIn text d
in_format text d of = from of.text
  where
    from : (text ≡ delta_text d) ⊎ (IsOld d.state × (text ≡ old_delta_text d)) → IsIn text d
    from (inl same) = record { format = Two; is = new_stated d.state of.delta.state; whole = same }
    from (inr (old, same)) = record { format = One; is = old_stated d.state of.delta.state old; whole = same }

written_in : (f : Format) (text : List ℕ) (d : Delta) → IsDelta d → (entries_in f).Is d.state → text ≡ first_line word f ++ (span_line d ++ (entries_in f).spelled d.state) → IsDeltaText text d
written_in One text d delta is whole = record { delta = delta; text = inr (stated_old d.state is, whole) }
written_in Two text d delta is whole = record { delta = delta; text = inl whole }

-- what a text without the first line is not
pub delta_has_front : (text : List ℕ) → ((f : Format) (rest : List ℕ) → ¬ (text ≡ first_line word f ++ rest)) → (d : Delta) → ¬ IsDeltaText text d
delta_has_front text none d of = let its = in_format text d of in none its.format (span_line d ++ (entries_in its.format).spelled d.state) its.whole

module _ (f : Format) (text left : List ℕ) (front : text ≡ first_line word f ++ left) where
  -- a text of a delta goes on with its line
  record Follows (d : Delta) : Type 0 where
    entries : List ℕ
    line : Begins span left (span_of d) entries
    state : Begins (entries_in f) entries d.state []

  follows : (d : Delta) → IsDeltaText text d → Follows d
  follows d of =
      let its = in_format text d of in
      let entries : List ℕ = (entries_in its.format).spelled d.state in
      let same = format_once word its.format f (span_line d ++ entries) left (sym its.whole ∙ front) in
      record {
        entries = entries;
        line = record { is = ((of.delta.incarnation, of.delta.order), of.delta.end); whole = sym same.1 };
        state = subst (λ (g : Format). Begins (entries_in g) entries d.state []) same.0 (record { is = its.is; whole = sym (append-nil entries) });
      }

  -- what refuses the line refuses the delta
  pub delta_refused_line : length text ≤ longest_text → (fault : StateFault) → Refuses span left fault → IsDeltaCause fault text
  delta_refused_line small TooLong refused = absurd refused
  delta_refused_line small NotState refused = (small, λ d of. let its = follows d of in refused (span_of d) its.entries its.line)
  delta_refused_line small NoMemory refused = small

  module _ (s : ℕ × (ℕ × ℕ)) (rest : List ℕ) (line : Begins span left s rest) where
    -- and so does what refuses the entries
    pub delta_refused : length text ≤ longest_text → (fault : StateFault) → RefusesWhole (entries_in f) rest fault → IsDeltaCause fault text
    delta_refused small TooLong refused = absurd refused
    delta_refused small NotState refused = (
      small,
      λ d of.
          let its = follows d of in
          let same = span_once left (span_of d) s its.entries rest its.line line in
          refused d.state (subst (λ (u : List ℕ). Begins (entries_in f) u d.state []) same.1 its.state),
    )
    delta_refused small NoMemory refused = small

    pub delta_found : (state : Entries) → Begins (entries_in f) rest state [] → IsDeltaText text (record { incarnation = s.0; start = s.1.0; end = s.1.1; state = state })
    delta_found state begins =
        let d : Delta = record { incarnation = s.0; start = s.1.0; end = s.1.1; state = state } in
        written_in f text d (record { incarnation = line.is.0.0; order = line.is.0.1; end = line.is.1; state = stated_is f state begins.is }) begins.is
        (front ∙ ap (λ (u : List ℕ). first_line word f ++ u) (line.whole ∙ ap (λ (u : List ℕ). span_line d ++ u) (begins.whole ∙ append-nil ((entries_in f).spelled state))))

-- no two deltas have a text
pub one_delta_text : (text : List ℕ) (x y : Delta) → IsDeltaText text x → IsDeltaText text y → x ≡ y
one_delta_text text x y of_x of_y =
    let format = (in_format text y of_y).format in
    let left : List ℕ = span_line y ++ (entries_in format).spelled y.state in
    let front = (in_format text y of_y).whole in
    let its_x = follows format text left front x of_x in
    let its_y = follows format text left front y of_y in
    let spans = span_once left (span_of x) (span_of y) its_x.entries its_y.entries its_x.line its_y.line in
    let states = stated_once format its_y.entries x.state y.state (subst (λ (u : List ℕ). Begins (entries_in format) u x.state []) spans.1 its_x.state) its_y.state in
    λ i. record { incarnation = (spans.0 i).0; start = (spans.0 i).1.0; end = (spans.0 i).1.1; state = states i }

pub one_delta : (x y : Delta) → IsDelta x → IsDelta y → delta_text x ≡ delta_text y → x ≡ y
one_delta x y is_x is_y same = one_delta_text (delta_text x) x y (record { delta = is_x; text = inl refl }) (record { delta = is_y; text = inl same })

-- a fault that a `?` passes on
pub delta_cause_passed : {X : Type 0} (text : List ℕ) (r : Result X StateFault) (fault : StateFault) → IsErrAnd r (λ e. e ≡ fault) → IsDeltaCause fault text → IfErr r (λ f. IsDeltaCause f text)
delta_cause_passed text (Ok x) fault out cause = tt
delta_cause_passed text (Err e) fault out cause = subst (λ f. IsDeltaCause f text) (sym out) cause
