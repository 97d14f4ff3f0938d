use Rattle.std.proofs.Common.{◌≡◌, ◌+◌, ap, ◌∙◌, refl, arith}
use Rattle.replica_exchange.specs.Stamps.{StampedState}
use Rattle.replica_exchange.proofs.StampLemmas.{absorbed_is_stamped}
use Rattle.harvest_lattice.proofs.Outcomes.{on_err_always}
use Rattle.replica_exchange.proofs.AbsorbLemmas.{ok_of_refused, is_not_spent}
use Rattle.replica_exchange.proofs.stamped.Stamped.absorb_next.Goals as goal

pub returns-in_default-clause-spent : goal.returns-in_default-clause-spent
returns-in_default-clause-spent c =
    let number : c.self.inside.number ≡ c.args.self.now.number = ap (λ (s : StampedState). s.number) c.self.view_is in
    (λ _. omega (arith, number, c.in_default.ensures), λ _. refl)

pub absorb_as-requires : goal.absorb_as-requires
absorb_as-requires c = c.in-Some.ensures.1 ∙ ap (λ (s : StampedState). s.number + 1) c.self.view_is

pub returns-in_err-absorb_as-clause-ok : goal.returns-in_err-absorb_as-clause-ok
returns-in_err-absorb_as-clause-ok c = ok_of_refused _ c.from_residual.result c.from_residual.ensures.1

pub returns-in_err-absorb_as-clause-stands : goal.returns-in_err-absorb_as-clause-stands
returns-in_err-absorb_as-clause-stands c merges is = ok_of_refused _ c.from_residual.result c.from_residual.ensures.1

pub returns-in_err-absorb_as-clause-spent : goal.returns-in_err-absorb_as-clause-spent
returns-in_err-absorb_as-clause-spent c =
    let number : c.self.inside.number ≡ c.args.self.now.number = ap (λ (s : StampedState). s.number) c.self.view_is in
    (λ spent. absurd (is_not_spent c.from_residual.result c.from_residual.ensures.1 spent), λ last. absurd (omega (arith, number, last, c.in-Some.ensures.0)))

pub returns-in_err-absorb_as-clause-err : goal.returns-in_err-absorb_as-clause-err
returns-in_err-absorb_as-clause-err c = on_err_always c.from_residual.result c.in_err-absorb_as.ensures.err

pub returns-clause-ok : goal.returns-clause-ok
returns-clause-ok c = c.in_ok-absorb_as.ensures.ok

pub returns-clause-stands : goal.returns-clause-stands
returns-clause-stands c merges is = absorbed_is_stamped merges c.args.merge.now c.args.self.now c.absorb_as.new.self is c.in_ok-absorb_as.ensures.ok

pub returns-clause-spent : goal.returns-clause-spent
returns-clause-spent c =
    let number : c.self.inside.number ≡ c.args.self.now.number = ap (λ (s : StampedState). s.number) c.self.view_is in
    (λ spent. cc, λ last. absurd (omega (arith, number, last, c.in-Some.ensures.0)))
