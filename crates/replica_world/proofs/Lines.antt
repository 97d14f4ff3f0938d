-- Lines that are read one after another.
use Rattle.std.proofs.Common.{◌≡◌, ℕ, suc, ◌+◌, ◌-◌, ◌<◌, List, [], ◌∷◌, ◌++◌, Option, Some, None, refl, sym, ap, ◌∙◌, append_assoc, append-nil}
use Rattle.std.proofs.Common.{arith, drop, Bool, ◌==◌, true, false, nat_eq, if◌then◌else◌}
use Rattle.std.specs.List.{starts_with}
use Rattle.std.proofs.lemmas.Grind.{common_steps}
use Rattle.replica_world.specs.Fields.{line_of, lines_of, after_empty_lines}
use Rattle.link_format.specs.Scan.{◌>>=◌}

-- lines that were read before those that are found
abbrev pub lines_after : List (List ℕ) → Option (List (List ℕ) × List ℕ) → Option (List (List ℕ) × List ℕ)
lines_after before None = None
lines_after before (Some more) = Some (before ++ more.0, more.1)

-- no line before
lines_after-nil : (found : Option (List (List ℕ) × List ℕ)) → lines_after [] found ≡ found
lines_after-nil None = refl
lines_after-nil (Some more) = refl

-- as the first line is looked for
pub lines_after-start : (count : ℕ) (before : List (List ℕ)) (text : List ℕ) → before ≡ [] → lines_after before (lines_of (count - 0) text) ≡ lines_of count text
lines_after-start count before text none =
    let all : count - 0 ≡ count = omega arith in
    ap (λ (b : List (List ℕ)). lines_after b (lines_of (count - 0) text)) none ∙ lines_after-nil (lines_of (count - 0) text) ∙ ap (λ (n : ℕ). lines_of n text) all

-- a line that is found stands behind those before
lines_after-one : (before : List (List ℕ)) (line : List ℕ) (found : Option (List (List ℕ) × List ℕ))
    → lines_after before (found >>= λ more. Some (line ∷ more.0, more.1)) ≡ lines_after (before ++ line ∷ []) found
lines_after-one before line None = refl
lines_after-one before line (Some more) = ap (λ (l : List (List ℕ)). Some (l, more.1)) (sym (append_assoc before (line ∷ []) more.0))

-- one line fewer to find
counted : (count done : ℕ) → done < count → count - done ≡ suc (count - (done + 1))
counted count done h = omega arith

-- a line is found
pub lines_after-line : (count done : ℕ) (before : List (List ℕ)) (rest line after : List ℕ) → done < count → line_of rest ≡ Some (line, after)
    → lines_after before (lines_of (count - done) rest) ≡ lines_after (before ++ line ∷ []) (lines_of (count - (done + 1)) after)
unfolding lines_of
lines_after-line count done before rest line after h is =
    ap (λ (n : ℕ). lines_after before (lines_of n rest)) (counted count done h)
    ∙ ap (λ (l : Option (List ℕ × List ℕ)). lines_after before (l >>= λ line. lines_of (count - (done + 1)) line.1 >>= λ more. Some (line.0 ∷ more.0, more.1))) is
    ∙ lines_after-one before line (lines_of (count - (done + 1)) after)

-- a line is missing
pub lines_after-none : (count done : ℕ) (before : List (List ℕ)) (rest : List ℕ) → done < count → line_of rest ≡ None
    → lines_after before (lines_of (count - done) rest) ≡ None
unfolding lines_of
lines_after-none count done before rest h is =
    ap (λ (n : ℕ). lines_after before (lines_of n rest)) (counted count done h)
    ∙ ap (λ (l : Option (List ℕ × List ℕ)). lines_after before (l >>= λ line. lines_of (count - (done + 1)) line.1 >>= λ more. Some (line.0 ∷ more.0, more.1))) is

-- all lines are found
pub lines_after-all : (count done : ℕ) (before : List (List ℕ)) (rest : List ℕ) → count - done ≡ 0
    → lines_after before (lines_of (count - done) rest) ≡ Some (before, rest)
unfolding lines_of
lines_after-all count done before rest h =
    ap (λ (n : ℕ). lines_after before (lines_of n rest)) h ∙ ap (λ (l : List (List ℕ)). Some (l, rest)) (append-nil before)

-- ---- empty lines

-- what the test for a front LF says
is_lf : (b : ℕ) (text : List ℕ) → starts_with nat_eq (b ∷ text) (10 ∷ []) ≡ true → b ≡ 10
is_lf b text is = grind (arith, common_steps)

is_no_lf : (b : ℕ) (text : List ℕ) → starts_with nat_eq (b ∷ text) (10 ∷ []) ≡ false → (b == 10) ≡ false
is_no_lf b text is = grind (arith, common_steps)

-- an empty line is passed over
pub after_empty_lines-empty : (text : List ℕ) → starts_with nat_eq text (10 ∷ []) ≡ true → after_empty_lines text ≡ after_empty_lines (drop 1 text)
unfolding after_empty_lines
after_empty_lines-empty [] is = cc
after_empty_lines-empty (b ∷ text) is = let e : b ≡ 10 = is_lf b text is in rw e refl

-- no other is
pub after_empty_lines-other : (text : List ℕ) → starts_with nat_eq text (10 ∷ []) ≡ false → after_empty_lines text ≡ text
unfolding after_empty_lines
after_empty_lines-other [] is = refl
after_empty_lines-other (b ∷ text) is = ap (λ (t : Bool). if t then after_empty_lines text else b ∷ text) (is_no_lf b text is)
