use Rattle.service_refusal_probe.proofs.services.ask_for_part.Given as goal

-- the base is the gate's
abbrev pub ghosts-replies_with_part : goal.ghosts-replies_with_part
ghosts-replies_with_part a = record { base = a.gate.base }
