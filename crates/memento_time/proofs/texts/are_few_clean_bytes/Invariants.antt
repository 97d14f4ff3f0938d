use Rattle.std.proofs.Common.{◌≡◌, take}
use Rattle.std.specs.List.{list_all}
use Rattle.memento_time.specs.Text.{is_clean_byte}
use Rattle.memento_time.proofs.texts.are_few_clean_bytes.Given as goal

abbrev pub invariant-loop-byte : goal.invariant-loop-byte
invariant-loop-byte l = l.clean ≡ list_all is_clean_byte (take l.byte-index l.text)
