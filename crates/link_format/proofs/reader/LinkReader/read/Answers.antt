use Rattle.std.proofs.Common.{◌≡◌, ℕ, List, [], ◌∷◌, length, Bor, Option, Some, None, Ok, Err, refl, sym, subst, ◌∙◌}
use Rattle.std.specs.Prelude.{option_map}
use Rattle.std.proofs.lemmas.Bool.{true≢false}
use Rattle.link_format.specs.Grammar.{Link, Reading}
use Rattle.link_format.specs.Limits.{IsAnswer}
use Rattle.link_format.specs.Reader.{BeginsWith, IsReadTo, IsSamePlace, Progress, StandsBehind, with_left}
use Rattle.link_format.specs.Scan.{reading_of}
use Rattle.link_format.specs.Spans.{link_of}
use Rattle.std.specs.List.{slice_get}
use Rattle.link_format.specs.declared.fault.LinkFault.TheVariants.{NotLinkFormat}
use Rattle.link_format.proofs.ReadLinks.{at_end, at_fault, link_here, read_on, read_to_end, stands_behind, within}
use Rattle.link_format.proofs.reader.LinkReader.read.Goals as goal

-- how far the fields of a reader say that its text is read
abbrev FieldsReadTo : List ℕ → Option (Bor (List ℕ)) → ℕ → Type 0
FieldsReadTo text rest count = IsReadTo text (option_map (λ (r : Bor (List ℕ)). r.now) rest) count

pub returns-in_default-clause-end : goal.returns-in_default-clause-end
returns-in_default-clause-end c =
    let reader = c.self.inside in
    let is : IsReadTo reader.text.now None reader.count = subst (λ (r : Option (Bor (List ℕ))). FieldsReadTo reader.text.now r reader.count) c.in_default.is c.self.invariant in
    subst (λ (p : Progress). (links : List Link) × IsAnswer p.text (Ok links) × (length links ≡ p.count)) c.self.view_is (at_end reader.text.now None reader.count is refl)

pub first_fault-requires : goal.first_fault-requires
first_fault-requires c links answer =
    let reader = c.self.inside in
    let is : IsReadTo reader.text.now (Some c.in-Some.rest.now) reader.count = subst (λ (r : Option (Bor (List ℕ))). FieldsReadTo reader.text.now r reader.count) c.in-Some.is c.self.invariant in
    let after : Option (List ℕ) = option_map (λ (r : Bor (List ℕ)). r.now) c.in-Ok-Some.after in
    let found : with_left (link_of c.in-Ok-Some.span ∷ []) after ≡ reading_of c.in-Some.rest.now = rw c.in-Ok-Some.field-0-is at c.in-Ok-Some.ensures.some in
    let fits = within reader.text.now c.in-Some.rest.now after reader.count (link_of c.in-Ok-Some.span) is found links answer in
    absurd (true≢false (sym (c.is_within.ensures.1 fits) ∙ c.if-not-is_within.true))

pub invariant_of-self : goal.invariant_of-self
invariant_of-self c =
    let reader = c.self.inside in
    let is : IsReadTo reader.text.now (Some c.in-Some.rest.now) reader.count = subst (λ (r : Option (Bor (List ℕ))). FieldsReadTo reader.text.now r reader.count) c.in-Some.is c.self.invariant in
    let after : Option (List ℕ) = option_map (λ (r : Bor (List ℕ)). r.now) c.in-Ok-Some.after in
    let found : with_left (link_of c.in-Ok-Some.span ∷ []) after ≡ reading_of c.in-Some.rest.now = rw c.in-Ok-Some.field-0-is at c.in-Ok-Some.ensures.some in
    let begins : BeginsWith c.in-Some.rest.now after (link_of c.in-Ok-Some.span ∷ []) = rw c.in-Ok-Some.field-0-is at c.in-Ok-Some.ensures.begins in
    let place : IsSamePlace c.in-Some.rest.now after = rw c.in-Ok-Some.field-0-is at c.in-Ok-Some.ensures.place in
    read_on reader.text.now c.in-Some.rest.now after reader.count (link_of c.in-Ok-Some.span) is found begins place (c.is_within.ensures.0 c.if-not-is_within.false)

pub returns-in-Ok-None-clause-end : goal.returns-in-Ok-None-clause-end
returns-in-Ok-None-clause-end c =
    let reader = c.self.inside in
    let is : IsReadTo reader.text.now (Some c.in-Some.rest.now) reader.count = subst (λ (r : Option (Bor (List ℕ))). FieldsReadTo reader.text.now r reader.count) c.in-Some.is c.self.invariant in
    let end : reading_of c.in-Some.rest.now ≡ Some [] = rw c.in-Ok-None.field-0-is at c.in-Ok-None.ensures.none in
    subst (λ (p : Progress). (links : List Link) × IsAnswer p.text (Ok links) × (length links ≡ p.count)) c.self.view_is (at_end reader.text.now (Some c.in-Some.rest.now) reader.count is end)

pub returns-in-Err-clause-fault : goal.returns-in-Err-clause-fault
returns-in-Err-clause-fault c =
    let reader = c.self.inside in
    let is : IsReadTo reader.text.now (Some c.in-Some.rest.now) reader.count = subst (λ (r : Option (Bor (List ℕ))). FieldsReadTo reader.text.now r reader.count) c.in-Some.is c.self.invariant in
    subst (λ (p : Progress). IsAnswer p.text (Err (NotLinkFormat c.saturating_sub.result))) c.self.view_is
    (at_fault reader.text.now c.in-Some.rest.now reader.count c.in-Err.left c.saturating_sub.result is c.in-Err.ensures.fault.0
    c.in-Err.ensures.fault.1 c.saturating_sub.ensures)

pub returns-else-not-is_within-clause-link : goal.returns-else-not-is_within-clause-link
returns-else-not-is_within-clause-link c =
    let reader = c.self.inside in
    let is : IsReadTo reader.text.now (Some c.in-Some.rest.now) reader.count = subst (λ (r : Option (Bor (List ℕ))). FieldsReadTo reader.text.now r reader.count) c.in-Some.is c.self.invariant in
    let after : Option (List ℕ) = option_map (λ (r : Bor (List ℕ)). r.now) c.in-Ok-Some.after in
    let found : with_left (link_of c.in-Ok-Some.span ∷ []) after ≡ reading_of c.in-Some.rest.now = rw c.in-Ok-Some.field-0-is at c.in-Ok-Some.ensures.some in
    let here = link_here reader.text.now c.in-Some.rest.now after reader.count (link_of c.in-Ok-Some.span) is found in
    subst (λ (p : Progress). (links : List Link) → Reading p.text links → slice_get links p.count ≡ Some (link_of c.in-Ok-Some.span)) c.self.view_is here

pub returns-else-not-is_within-clause-begins : goal.returns-else-not-is_within-clause-begins
returns-else-not-is_within-clause-begins c =
    let reader = c.self.inside in
    let is : IsReadTo reader.text.now (Some c.in-Some.rest.now) reader.count = subst (λ (r : Option (Bor (List ℕ))). FieldsReadTo reader.text.now r reader.count) c.in-Some.is c.self.invariant in
    let after : Option (List ℕ) = option_map (λ (r : Bor (List ℕ)). r.now) c.in-Ok-Some.after in
    let begins : BeginsWith c.in-Some.rest.now after (link_of c.in-Ok-Some.span ∷ []) = rw c.in-Ok-Some.field-0-is at c.in-Ok-Some.ensures.begins in
    subst (λ (p : Progress). StandsBehind p.count p.text (link_of c.in-Ok-Some.span)) c.self.view_is
    (stands_behind reader.text.now c.in-Some.rest.now after reader.count (link_of c.in-Ok-Some.span) is begins)

pub invariant_of-self-in-Ok-None : goal.invariant_of-self-in-Ok-None
invariant_of-self-in-Ok-None c =
    let reader = c.self.inside in
    let is : IsReadTo reader.text.now (Some c.in-Some.rest.now) reader.count = subst (λ (r : Option (Bor (List ℕ))). FieldsReadTo reader.text.now r reader.count) c.in-Some.is c.self.invariant in
    let end : reading_of c.in-Some.rest.now ≡ Some [] = rw c.in-Ok-None.field-0-is at c.in-Ok-None.ensures.none in
    read_to_end reader.text.now (Some c.in-Some.rest.now) reader.count is end
