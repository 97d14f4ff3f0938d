use Rattle.std.proofs.Math.Logic.{∥∥₁_map}
use Rattle.std.specs.Arc.{arc_value}
use Rattle.outgoing_requests.specs.Hosts.{IsListedText}
use Rattle.service_threads.proofs.HostLemmas.{shown_is_there}
use Rattle.service_threads.proofs.terms.Terms.walk.Goals as goal

pub new-fetch-requires : goal.new-fetch-requires
new-fetch-requires g c = ∥∥₁_map c.args.self.now.covers (λ covers. record {
  answer = λ url answer given. covers.answer url answer (
    given.0,
    shown_is_there _ _ (λ listed. IsListedText listed url) c.fetch_at-fetch.result.hosts
        (arc_value c.args.self.now.settings).hosts c.fetch_at-fetch.ensures.hosts given.1,
  );
  fault = λ url fault given. covers.fault url fault;
})
