use Rattle.std.proofs.Common.{subst}
use Rattle.std.proofs.Math.Logic.{∥∥₁_map}
use Rattle.outgoing_requests.specs.Hosts.{IsListedText}
use Rattle.question_threads.specs.Jobs.{MayAnswer}
use Rattle.question_threads.proofs.HostLemmas.{shown_is_there}
use Rattle.question_threads.proofs.terms.Terms.walk.Goals as goal

pub new-fetch-requires : goal.new-fetch-requires
new-fetch-requires g c = ∥∥₁_map c.args.self.now.covers (λ covers. record {
  answer = λ url answer given. covers.answer url answer
      (subst (λ sources. MayAnswer sources url answer) c.sources-sources.ensures (
        given.0,
        shown_is_there _ _ (λ listed. IsListedText listed url) c.as_deref.result c.sources-sources.result.now.hosts
            c.as_deref.ensures.value given.1,
      ));
  fault = λ url fault given. covers.fault url fault;
})
