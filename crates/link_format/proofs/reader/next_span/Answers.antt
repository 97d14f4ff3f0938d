use Rattle.std.proofs.Common.{◌≡◌, ℕ, List, [], ◌∷◌, ◌++◌, Bor, Option, Some, None, refl, sym, ◌∙◌, inr}
use Rattle.std.specs.Prelude.{option_map}
use Rattle.link_format.specs.Grammar.{Link}
use Rattle.link_format.specs.Reader.{BeginsWith, with_left}
use Rattle.link_format.specs.Scan.{◌>>=◌, reading_of}
use Rattle.link_format.specs.Spans.{link_of}
use Rattle.link_format.specs.Walk.{in_list, left_by}
use Rattle.link_format.proofs.Begins.{up_to_more}
use Rattle.link_format.proofs.reader.next_span.Goals as goal

none_before : (o : Option (List Link)) → (o >>= λ more. Some ([] ++ more)) ≡ o
none_before None = refl
none_before (Some links) = refl

pub returns-in-Some-default-clause-begins : goal.returns-in-Some-default-clause-begins
returns-in-Some-default-clause-begins c =
    let after : Option (List ℕ) = option_map (λ (r : Bor (List ℕ)). r.now) c.in_ok-found.field-0.1 in
    let begins : BeginsWith c.elements.rest.now after (link_of c.in-Some-default.found ∷ []) = rw c.in-Some-default.is-0 at c.in_ok-found.ensures.begins in
    up_to_more c.args.text.now c.elements.rest.now after [] (link_of c.in-Some-default.found ∷ []) c.elements.invariant.begins begins

pub elements-preserved : goal.elements-preserved
elements-preserved c =
    let begins : BeginsWith c.elements.rest.now (Some c.in-None-Some.after.now) [] = rw (c.in-None-Some.is-0, c.in-None-Some.is-1) at c.in_ok-found.ensures.begins in
    let links : with_left [] (Some c.in-None-Some.after.now) ≡ reading_of c.elements.rest.now = rw (c.in-None-Some.is-0, c.in-None-Some.is-1) at c.in_ok-found.ensures.links in
    let place : left_by in_list c.in-None-Some.after.now ≡ left_by in_list c.elements.rest.now = rw c.in-None-Some.is-1 at c.in_ok-found.ensures.place in
    record {
      begins = inr (up_to_more c.args.text.now c.elements.rest.now (Some c.in-None-Some.after.now) [] [] c.elements.invariant.begins begins);
      links = sym (none_before (reading_of c.in-None-Some.after.now)) ∙ links ∙ c.elements.invariant.links;
      place = place ∙ c.elements.invariant.place;
    }
