use Rattle.std.proofs.Common.{◌≡◌, ℕ, List, ◌<◌, length, length-append, sym, subst, ◌∙◌, Ok, Err, arith}
use Rattle.std.specs.Prelude.{Result, IfOk}
use Rattle.url.specs.Parts.{Parts, text_between}
use Rattle.url.specs.declared.slicing.Position.TheVariants.{BeforeScheme, AfterQuery}
use Rattle.url_texts.specs.Followed.{IsFollowed}
use Rattle.timemap_reader.specs.declared.original.OriginalFault.{OriginalFault}
use Rattle.timemap_reader.specs.Address.{clean_text}
use Rattle.timemap_reader.specs.Original.{within_limit, original_reading}
use Rattle.timemap_reader.proofs.OriginalsKept.{original_kept, original_followed}
use Rattle.timemap_reader.proofs.original.read_original.Goals as goal

some_bytes : (url : Parts) → 0 < length url.scheme → 0 < length (text_between url BeforeScheme AfterQuery)
some_bytes url some = simp length-append (omega arith)

pub clean_original-requires : goal.clean_original-requires
clean_original-requires c = rw (c.as_bytes.ensures.value, c.slice-written.ensures.value) (some_bytes c.in-Some.url c.slice-written.ensures.valid.head.scheme.nonempty)

-- what holds of each original that may be answered holds of the answer
answered : (result : Result (List ℕ) OriginalFault) (P Q : List ℕ → Type 0) → ((original : List ℕ) → P original → Q original) → IfOk result P → IfOk result Q
answered (Ok original) P Q f is = f original is
answered (Err fault) P Q f is = tt

pub returns-clause-kept : goal.returns-clause-kept
returns-clause-kept c =
    let text = c.as_bytes.ensures.value ∙ c.slice-written.ensures.value in
    let http = sym c.is_http.ensures ∙ c.if-not-is_http.false in
    answered c.clean_original.result (λ original. within_limit (clean_text c.as_bytes.result.now) ≡ Ok original) (λ original. original_reading original ≡ Ok original)
    (λ original read. original_kept c.in-Some.url original c.slice-written.ensures.valid http (subst (λ (t : List ℕ). within_limit (clean_text t) ≡ Ok original) text read))
    c.clean_original.ensures.read

pub returns-clause-followed : goal.returns-clause-followed
returns-clause-followed c =
    let text = c.as_bytes.ensures.value ∙ c.slice-written.ensures.value in
    let http = sym c.is_http.ensures ∙ c.if-not-is_http.false in
    answered c.clean_original.result (λ original. within_limit (clean_text c.as_bytes.result.now) ≡ Ok original) IsFollowed
    (λ original read. original_followed c.in-Some.url original c.slice-written.ensures.valid http (subst (λ (t : List ℕ). within_limit (clean_text t) ≡ Ok original) text read))
    c.clean_original.ensures.read
