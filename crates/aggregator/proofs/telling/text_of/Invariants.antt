use Rattle.std.proofs.Common.{◌≡◌, string_bytes, take}
use Rattle.aggregator.specs.Telling.{all_lines}
use Rattle.aggregator.proofs.telling.text_of.Given as goal

abbrev pub invariant-loop-line : goal.invariant-loop-line
invariant-loop-line l = string_bytes l.text ≡ all_lines l.words (take l.line-index l.lines)
