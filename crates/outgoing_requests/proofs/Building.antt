-- A request from its builder's steps.
use Rattle.std.proofs.Common.{◌≡◌, ℕ, List, codes, Option, Some, None, Bor, Result, Ok, Err, refl, sym, ap, subst, ◌∙◌}
use Rattle.std.specs.Prelude.{MatchResult, IfOk, IfSome, IsOkAnd, option_copied}
use Rattle.http_uri.specs.declared.uri.Uri.{Uri}
use Rattle.http_header.specs.FieldValue.{FieldValue, plain_value}
use Rattle.http_header.specs.HeaderMap.{Entries, append, append_all}
use Rattle.http.specs.declared.error.Error.{Error}
use Rattle.http.specs.declared.request.Parts.{Parts}
use Rattle.http.specs.declared.request.Request.{Request}
use Rattle.http.specs.Request.{IsHeadFor, body_of, head_of}
use Rattle.http.specs.Steps.{AppendsField, StepsTo}
use Rattle.outgoing_requests.specs.Exchanges.{fields_of_agent}

pub ok_same : {A E : Type 0} (r : Result A E) (x y : A) → r ≡ Ok x → r ≡ Ok y → x ≡ y
ok_same r x y p q = cc

err_not_ok : {A E : Type 0} (e : E) (x : A) → Err e ≡ Ok x → ⊥
err_not_ok e x is = cc

-- the head of the request that is built
pub head_is : {X : Type 0} (built : Result Parts Error) (r : Result (Request X) Error) (request : Request X) (body : X)
    → MatchResult built (λ head. IsOkAnd r (λ x. (head_of x ≡ head) × (body_of x ≡ body))) (λ e. r ≡ Err e)
    → r ≡ Ok request → built ≡ Ok (head_of request)
head_is (Ok head) r request body given is =
    let at = subst (λ (x : Result (Request _) Error). IsOkAnd x (λ y. (head_of y ≡ head) × (body_of y ≡ body))) is given in
    ap (λ (h : Parts). Ok h) (sym at.0)
head_is (Err e) r request body given is = absurd (err_not_ok e request (sym given ∙ is))

-- what two relations of a step say of the head after it
came : {H : Type 0} (old new : Result H Error) (R Q : H → H → Type 0) (after : H) → StepsTo old new R → StepsTo old new Q → new ≡ Ok after
    → (before : H) × (old ≡ Ok before) × R before after × Q before after
came (Ok before) (Ok made) R Q after r q is =
    let same : made ≡ after = ok_same (Ok made) made after refl is in
    (before, refl, subst (R before) same r, subst (Q before) same q)
came (Err e) (Ok made) R Q after r q is = absurd r
came old (Err e) R Q after r q is = absurd (err_not_ok e after is)

appended : (old new : Entries FieldValue) (name : List ℕ) (value : FieldValue) → AppendsField old new (λ x. x ≡ name) (λ x. x ≡ value) → new ≡ append old name value
appended old new name value a = a.after ∙ (ap (λ n. append old n a.value) a.is_name ∙ ap (λ v. append old name v) a.is_value)

-- the head with one field more
abbrev pub with_field : Parts → List ℕ → FieldValue → Parts
with_field head name value = record head { headers = append head.headers name value }

-- what a step that adds a field came from
pub record ComesFrom (old : Result Parts Error) (after : Parts) (name : List ℕ) (value : FieldValue) : Type 0 where
  pub before : Parts
  pub was : old ≡ Ok before
  pub is : after ≡ with_field before name value

pub field_added : (old new : Result Parts Error) (after : Parts) (name : List ℕ) (value : FieldValue)
    → StepsTo old new (λ before after. AppendsField before.headers after.headers (λ x. x ≡ name) (λ x. x ≡ value))
    → StepsTo old new (λ before after. after ≡ record before { headers = after.headers })
    → new ≡ Ok after → ComesFrom old after name value
field_added old new after name value adds keeps is =
    let from = came old new (λ (o n : Parts). AppendsField o.headers n.headers (λ x. x ≡ name) (λ x. x ≡ value)) (λ (o n : Parts). n ≡ record o { headers = n.headers }) after adds keeps is in
    let headers = appended from.0.headers after.headers name value from.2 in
    record { before = from.0; was = from.1; is = from.3 ∙ ap (λ (hs : Entries FieldValue). record from.0 { headers = hs }) headers }

-- the head that a builder starts with
pub started : (new : Result Parts Error) (head : Parts) (IsUri : Uri → Type 0) → IfOk new (IsHeadFor (codes "GET") IsUri) → new ≡ Ok head → IsHeadFor (codes "GET") IsUri head
started (Ok made) head IsUri given is = let same : made ≡ head = ok_same (Ok made) made head refl is in subst (λ (h : Parts). IsHeadFor (codes "GET") IsUri h) same given
started (Err e) head IsUri given is = absurd (err_not_ok e head is)

-- the head with these fields more
abbrev pub with_fields : Parts → List (List ℕ × FieldValue) → Parts
with_fields head fields = record head { headers = append_all head.headers fields }

-- what the step that adds the program's name came from, where it has one
pub record ComesFromNamed (old : Result Parts Error) (after : Parts) (agent : Option (List ℕ)) : Type 0 where
  pub before : Parts
  pub was : old ≡ Ok before
  pub is : after ≡ with_fields before (fields_of_agent agent)

pub agent_added : (agent : Option (Bor (List ℕ))) (old new : Result Parts Error) (after : Parts)
    → (option_copied agent ≡ None → new ≡ old)
    → IfSome agent (λ name. StepsTo old new (λ before after. AppendsField before.headers after.headers (λ x. x ≡ codes "user-agent") (λ x. x ≡ plain_value name.now)))
    → IfSome agent (λ _. StepsTo old new (λ before after. after ≡ record before { headers = after.headers }))
    → new ≡ Ok after → ComesFromNamed old after (option_copied agent)
agent_added None old new after none adds keeps is = record { before = after; was = sym (none refl) ∙ is; is = refl }
agent_added (Some name) old new after none adds keeps is =
    let from = field_added old new after (codes "user-agent") (plain_value name.now) adds keeps is in
    record { before = from.before; was = from.was; is = from.is }
