use Rattle.std.proofs.Common.{List, [], ◌∷◌, ◌++◌, sym, ap, ◌∙◌, append_assoc}
use Rattle.harvest_lattice.specs.Lattice.{Entries}
use Rattle.round_values.proofs.KeepingLemmas.{no_state_more, one_state_more}
use Rattle.round_values.proofs.keeping.append_states.Goals as goal

pub loop-state-init : goal.loop-state-init
loop-state-init c = record {
  can = tt;
  finite = tt;
  rest = sym c.into_iter-state-iterator.ensures.into_iter_gives.0;
  merger = no_state_more c.args.merger.now;
}

pub loop-state-preserved : goal.loop-state-preserved
loop-state-preserved c =
    let seen = c.loop-state.yielded in
    let state = c.in-Some.state in
    record {
      can = tt;
      finite = tt;
      rest = c.loop-state.invariant.rest ∙ (ap (λ (zs : List Entries). seen ++ zs) c.in-Some.ensures.steps.0 ∙ sym (append_assoc seen (state ∷ []) _));
      merger = c.in_ok-append.ensures.ok ∙ one_state_more c.args.merger.now c.loop-state.merger seen state c.loop-state.invariant.merger;
    }
