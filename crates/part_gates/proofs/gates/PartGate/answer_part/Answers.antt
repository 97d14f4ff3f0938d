use Rattle.std.proofs.Common.{◌≡◌, ℕ, ap, subst, sym}
use Rattle.published_index.specs.Views.{GateView}
use Rattle.published_index.specs.Replies.{IsPartFrom}
use Rattle.part_gates.proofs.gates.PartGate.answer_part.Goals as goal

pub returns-in-Ok-clause-shown : goal.returns-in-Ok-clause-shown
returns-in-Ok-clause-shown g c =
    let asked = c.in_ok-text.ensures in
    let made = c.answer_part.new.self in
    let incarnation : c.args.self.now.gate.incarnation ≡ made.incarnation = sym (ap (λ (gate : GateView). gate.incarnation) asked.same) in
    record {
      ask = c.args.ask.now;
      named = c.requires;
      text = c.in_ok-text.text;
      part = subst (λ (i : ℕ). IsPartFrom i made.pass.front c.args.ask.now c.in_ok-text.text) incarnation asked.part.1;
      is = c.in-Ok.ensures;
      settled = asked.part.0.settled;
    }
