use Rattle.std.proofs.Common.{◌≡◌, length}
use Rattle.link_format.specs.Bytes.{is_plain, is_target_byte}
use Rattle.link_format.specs.Scan.{past}
use Rattle.link_format.proofs.blocks.skip_usual.Given as goal

abbrev pub invariant-usual : goal.invariant-usual
invariant-usual l = record {
  target : past is_target_byte l.rest ≡ past is_target_byte l.text;
  plain : past is_plain l.rest ≡ past is_plain l.text;
}

abbrev pub decreases-usual : goal.decreases-usual
decreases-usual l = length l.rest
