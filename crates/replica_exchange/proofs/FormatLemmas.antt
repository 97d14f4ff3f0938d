-- What the first line of a text says, and that it says one thing.
use Rattle.std.proofs.Common.{◌≡◌, ℕ, List, ◌++◌, get_or, Result, Ok, Err, IfErr, refl, sym, ap, ◌∙◌, append_assoc, arith}
use Rattle.std.specs.Prelude.{codes}
use Rattle.std.specs.Result.{IsErrAnd}
use Rattle.std.proofs.lemmas.List.{append_cancel_left}
use Rattle.replica_exchange.specs.declared.fault.StateFault.{StateFault}
use Rattle.replica_exchange.specs.declared.fault.StateFault.TheVariants.{NotState}
use Rattle.replica_exchange.specs.declared.format.Format.{Format}
use Rattle.replica_exchange.specs.declared.format.Format.TheVariants.{One, Two}
use Rattle.replica_exchange.specs.Parts.{first_line}

-- what follows the word in the first line
abbrev number_of : Format → List ℕ
number_of One = codes " 1\n"
number_of Two = codes " 2\n"

after_word : (word : List ℕ) (f : Format) (rest : List ℕ) → first_line word f ++ rest ≡ word ++ (number_of f ++ rest)
after_word word One rest = append_assoc word (codes " 1\n") rest
after_word word Two rest = append_assoc word (codes " 2\n") rest

number_once : (f g : Format) (r u : List ℕ) → number_of f ++ r ≡ number_of g ++ u → (f ≡ g) × (r ≡ u)
number_once One One r u same = (refl, append_cancel_left (codes " 1\n") r u same)
number_once One Two r u same = absurd (let digits : 49 ≡ 50 = ap (λ (l : List ℕ). get_or l 1 0) same in omega (arith, digits))
number_once Two One r u same = absurd (let digits : 50 ≡ 49 = ap (λ (l : List ℕ). get_or l 1 0) same in omega (arith, digits))
number_once Two Two r u same = (refl, append_cancel_left (codes " 2\n") r u same)

-- a text has one format
pub format_once : (word : List ℕ) (f g : Format) (r u : List ℕ) → first_line word f ++ r ≡ first_line word g ++ u → (f ≡ g) × (r ≡ u)
format_once word f g r u same =
    number_once f g r u (append_cancel_left word (number_of f ++ r) (number_of g ++ u) (sym (after_word word f r) ∙ (same ∙ after_word word g u)))

-- where neither number follows the word, the text has no format
pub format_refused : (text word number : List ℕ) → text ≡ word ++ number → ((rest : List ℕ) → ¬ (number ≡ codes " 1\n" ++ rest)) → ((rest : List ℕ) → ¬ (number ≡ codes " 2\n" ++ rest))
    → (f : Format) (rest : List ℕ) → ¬ (text ≡ first_line word f ++ rest)
format_refused text word number front one two One rest same = one rest (append_cancel_left word number (codes " 1\n" ++ rest) (sym front ∙ (same ∙ after_word word One rest)))
format_refused text word number front one two Two rest same = two rest (append_cancel_left word number (codes " 2\n" ++ rest) (sym front ∙ (same ∙ after_word word Two rest)))

-- the exit of a `?` passes the fault on
pub front_passed : {X : Type 0} (text word : List ℕ) (r : Result X StateFault) (fault : StateFault) → IsErrAnd r (λ e. e ≡ fault) → fault ≡ NotState
    → ((f : Format) (rest : List ℕ) → ¬ (text ≡ first_line word f ++ rest)) → IfErr r (λ e. (e ≡ NotState) × ((f : Format) (rest : List ℕ) → ¬ (text ≡ first_line word f ++ rest)))
front_passed text word (Ok x) fault out is none = tt
front_passed text word (Err e) fault out is none = (out ∙ is, none)
