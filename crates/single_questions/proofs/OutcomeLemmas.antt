-- What several questions come to, case by case.
use Rattle.std.proofs.Common.{◌≡◌, refl, sym, ap, inl, inr, ◌⊎◌, Bool, true, false}
use Rattle.std.proofs.lemmas.Bool.{true≢false}
use Rattle.single_questions.specs.declared.outcomes.Outcome.{Outcome}
use Rattle.single_questions.specs.declared.outcomes.Outcome.TheVariants.{Found, Nothing, Unknown}
use Rattle.single_questions.specs.Outcomes.{AreWorst, worse}

abbrev is_found : Outcome → Bool
is_found Found = true
is_found Nothing = false
is_found Unknown = false

isnt_both : Found ≡ Unknown → ⊥
isnt_both e = true≢false (ap is_found e)

both : (a b : Outcome) → worse a b ≡ Found → (a ≡ Found) × (b ≡ Found)
both Found b e = (refl, e)
both Nothing Found e = (e, refl)
both Nothing Nothing e = (e, e)
both Nothing Unknown e = absurd (isnt_both (sym e))
both Unknown Found e = (e, refl)
both Unknown Nothing e = absurd (isnt_both (sym e))
both Unknown Unknown e = (e, e)

found : (a b : Outcome) → (a ≡ Found) × (b ≡ Found) → worse a b ≡ Found
found Found b e = e.1
found Nothing Found e = e.0
found Nothing Nothing e = e.0
found Nothing Unknown e = e.1
found Unknown b e = e.0

one : (a b : Outcome) → worse a b ≡ Unknown → (a ≡ Unknown) ⊎ (b ≡ Unknown)
one Found b e = inr e
one Nothing Found e = inl e
one Nothing Nothing e = inl e
one Nothing Unknown e = inr refl
one Unknown b e = inl refl

unknown : (a b : Outcome) → (a ≡ Unknown) ⊎ (b ≡ Unknown) → worse a b ≡ Unknown
unknown Found Found (inl e) = e
unknown Found Nothing (inl e) = absurd (isnt_both e)
unknown Found Unknown (inl e) = refl
unknown Found b (inr e) = e
unknown Nothing Found (inl e) = e
unknown Nothing Found (inr e) = absurd (isnt_both e)
unknown Nothing Nothing (inl e) = e
unknown Nothing Nothing (inr e) = e
unknown Nothing Unknown e = refl
unknown Unknown b e = refl

either : (a b : Outcome) → worse a b ≡ worse b a
either Found Found = refl
either Found Nothing = refl
either Found Unknown = refl
either Nothing Found = refl
either Nothing Nothing = refl
either Nothing Unknown = refl
either Unknown Found = refl
either Unknown Nothing = refl
either Unknown Unknown = refl

grouped : (a b c : Outcome) → worse (worse a b) c ≡ worse a (worse b c)
grouped Found b c = refl
grouped Nothing Found c = refl
grouped Nothing Nothing Found = refl
grouped Nothing Nothing Nothing = refl
grouped Nothing Nothing Unknown = refl
grouped Nothing Unknown c = refl
grouped Unknown b c = refl

pub worst : AreWorst
worst = record {
  found = λ a b. (both a b, found a b);
  unknown = λ a b. (one a b, unknown a b);
  either = either;
  grouped = grouped;
}
