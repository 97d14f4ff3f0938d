use Rattle.std.proofs.Common.{◌≡◌, Some, [], codes, sym, ap, subst, ◌∙◌}
use Rattle.std.specs.Prelude.{option_copied}
use Rattle.http_uri.specs.Uri.{Spells}
use Rattle.http_header.specs.FieldValue.{FieldValue, plain_value}
use Rattle.http_header.specs.HeaderMap.{Entries, append, append_all}
use Rattle.http.specs.declared.request.Parts.{Parts}
use Rattle.http.specs.Request.{builder_result}
use Rattle.outgoing_requests.specs.Exchanges.{fields_of_agent}
use Rattle.outgoing_requests.specs.Targets.{target_of}
use Rattle.outgoing_requests.proofs.Building.{agent_added, field_added, head_is, started, with_field, with_fields}
use Rattle.outgoing_requests.proofs.exchanges.request_for.Goals as goal

pub returns-in-Ok : goal.returns-in-Ok
returns-in-Ok c =
    let request = c.in-Ok.request in
    let host = c.slice-host.result.now in
    let agent = fields_of_agent (option_copied c.args.agent) in
    let built = head_is (builder_result c.with_agent.result) _ request _ c.body.ensures c.in-Ok.is in
    let named = agent_added c.args.agent (builder_result c.header-builder.result) _ request.head
    c.with_agent.ensures.none c.with_agent.ensures.ok c.with_agent.ensures.others built in
    let third = field_added (builder_result c.header-2.result) _ named.before
    (codes "connection") (plain_value (codes "close")) c.header-builder.ensures.ok c.header-builder.ensures.others named.was in
    let second = field_added (builder_result c.header.result) _ third.before
    (codes "accept-encoding") (plain_value (codes "identity")) c.header-2.ensures.ok c.header-2.ensures.others third.was in
    let first = field_added (builder_result c.get.result) _ second.before (codes "host") (plain_value host)
    c.header.ensures.ok c.header.ensures.others second.was in
    let start = started (builder_result c.get.result) first.before (Spells c.as_slice.result.now) c.get.ensures.ok first.was in
    let head : request.head
    ≡ with_fields (with_field (with_field (with_field first.before (codes "host") (plain_value host))
    (codes "accept-encoding") (plain_value (codes "identity"))) (codes "connection") (plain_value (codes "close"))) agent =
    named.is ∙ ap (λ (h : Parts). with_fields h agent)
    (third.is ∙ (ap (λ (h : Parts). with_field h (codes "connection") (plain_value (codes "close"))) second.is
    ∙ ap (λ (h : Parts). with_field (with_field h (codes "accept-encoding") (plain_value (codes "identity")))
    (codes "connection") (plain_value (codes "close"))) first.is)) in
    let target : target_of c.args.url.now ≡ Some c.as_slice.result.now =
    sym (rw c.in-Ok-Some.field-0-is at c.in-Ok-Some.ensures) ∙ ap (λ text. Some text) (sym c.as_slice.ensures.value) in
    record {
      method = ap (λ (h : Parts). h.method) head ∙ start.method;
      text = c.as_slice.result.now;
      names = target;
      target = subst (λ uri. Spells c.as_slice.result.now uri) (sym (ap (λ (h : Parts). h.uri) head)) start.uri;
      fields = ap (λ (h : Parts). h.headers) head
          ∙ ap (λ (hs : Entries FieldValue). append_all (append (append (append hs (codes "host") (plain_value host))
          (codes "accept-encoding") (plain_value (codes "identity"))) (codes "connection") (plain_value (codes "close"))) agent)
          start.headers
          ∙ ap (λ text. append_all (append (append (append [] (codes "host") (plain_value text))
          (codes "accept-encoding") (plain_value (codes "identity"))) (codes "connection") (plain_value (codes "close"))) agent)
          c.slice-host.ensures.value;
    }
