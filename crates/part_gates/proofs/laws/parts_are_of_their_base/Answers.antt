use Rattle.part_gates.proofs.laws.parts_are_of_their_base.Goals as goal

pub returns : goal.returns
returns g c = λ q made shown. (c.args.gate.now.gate, c.args.gate.now.named, shown)
