use Rattle.std.proofs.Common.{◌≡◌, ◌++◌, string_bytes, take}
use Rattle.service_settings.specs.Shown.{shown_bytes}
use Rattle.service_settings.proofs.printing.push_bytes.Given as goal

abbrev pub invariant-loop-byte : goal.invariant-loop-byte
invariant-loop-byte l = string_bytes l.shown ≡ string_bytes l.fn.shown ++ shown_bytes (take l.byte-index l.bytes)
