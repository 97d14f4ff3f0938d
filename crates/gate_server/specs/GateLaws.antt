-- Laws of what becomes of a gate.
use Rattle.std.proofs.Common.{refl, ◌∙◌, ⊎_elim, inl, inr}
use mathlib.Core.List.{IsPrefix}
use Rattle.published_index.specs.Views.{GateView}
use Rattle.published_index.proofs.Fronts.{prefix_self, prefix_trans}
use Rattle.gate_server.specs.Gates.{GoesOn}

pub gate_stays : (it : GateView) → GoesOn it it
gate_stays it = record {
  opening = refl;
  incarnation = refl;
  base = refl;
  seen = prefix_self it.pass.front;
  told = inr (prefix_self it.pass.told);
}

pub gate_goes_on : (it next last : GateView) → GoesOn it next → GoesOn next last → GoesOn it last
gate_goes_on it next last one two = record {
  opening = two.opening ∙ one.opening;
  incarnation = two.incarnation ∙ one.incarnation;
  base = two.base ∙ one.base;
  seen = prefix_trans it.pass.front next.pass.front last.pass.front one.seen two.seen;
  told = ⊎_elim
      (λ (front : IsPrefix it.pass.told next.pass.front). inl (prefix_trans it.pass.told next.pass.front last.pass.front front two.seen))
      (λ (list : IsPrefix it.pass.told next.pass.told). ⊎_elim
      (λ (front : IsPrefix next.pass.told last.pass.front). inl (prefix_trans it.pass.told next.pass.told last.pass.front list front))
      (λ (later : IsPrefix next.pass.told last.pass.told). inr (prefix_trans it.pass.told next.pass.told last.pass.told list later))
      two.told)
      one.told;
}
