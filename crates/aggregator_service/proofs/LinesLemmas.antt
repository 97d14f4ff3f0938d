-- The lines of rounds that were made.
use Rattle.std.proofs.Common.{◌≡◌, ℕ, ◌+◌, List, [], ◌∷◌, ◌++◌, Option, refl, sym, ap, subst, ◌∙◌, append_assoc, append-nil, length, length-append, arith}
use Rattle.std.specs.Io.KnownBytes.{Appends}
use Rattle.std.proofs.KnownBytes.{Appends-nil, Appends-trans}
use Rattle.round_values.specs.Lines.{round_line}
use Rattle.round_values.specs.declared.rounds.Round.{Round}
use Rattle.aggregator_service.specs.Lines.{round_lines}

-- with one round more there is one line more
lines_more : (number : ℕ) (made : List Round) (round : Round)
    → round_lines number (made ++ round ∷ []) ≡ round_lines number made ++ round_line (number + length made) round
unfolding round_lines
lines_more number [] round =
    let first : number ≡ number + length {A = Round} [] = omega (arith) in
    append-nil (round_line number round) ∙ ap (λ (k : ℕ). round_line k round) first
lines_more number (first ∷ made) round =
    let next : number + 1 + length made ≡ number + length (first ∷ made) = omega (arith) in
    ap (λ (rest : List ℕ). round_line number first ++ rest) (lines_more (number + 1) made round)
    ∙ sym (append_assoc (round_line number first) (round_lines (number + 1) made) (round_line (number + 1 + length made) round))
    ∙ ap (λ (k : ℕ). (round_line number first ++ round_lines (number + 1) made) ++ round_line k round) next

-- so many rounds were made, and a line was written for each
abbrev pub AreWritten : Option (List ℕ) → Option (List ℕ) → ℕ → Type 0
AreWritten start now count = (made : List Round) × (length made ≡ count) × Appends start now (round_lines 1 made)

pub none_written : (start : Option (List ℕ)) → AreWritten start start 0
unfolding round_lines
none_written start = ([], refl, Appends-nil start)

pub one_more_written : (start old now : Option (List ℕ)) (count number : ℕ) (round : Round) → number ≡ count + 1
    → AreWritten start old count → Appends old now (round_line number round) → AreWritten start now (count + 1)
one_more_written start old now count number round next (made, is, before) line =
    let at : number ≡ 1 + length made = omega (arith, next, is) in
    let longer : length (made ++ round ∷ []) ≡ count + 1 = length-append made (round ∷ []) ∙ ap (λ (n : ℕ). n + 1) is in
    let line_at = subst (λ (k : ℕ). Appends old now (round_line k round)) at line in (
      made ++ round ∷ [],
      longer,
      subst (Appends start now) (sym (lines_more 1 made round))
          (Appends-trans start old now (round_lines 1 made) (round_line (1 + length made) round) before line_at),
    )
