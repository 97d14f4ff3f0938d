use Rattle.std.proofs.Common.{◌≡◌, drop}
use Rattle.service_settings.specs.Keys.{names_one}
use Rattle.service_settings.proofs.fault.Key.named.Given as goal

abbrev pub invariant-loop-key : goal.invariant-loop-key
invariant-loop-key l = names_one l.text (drop l.key-index l.key-items) ≡ names_one l.text l.key-items
