use Rattle.std.proofs.Common.{◌≡◌, [], Some, length}
use Rattle.link_format.specs.Reader.{StandUpTo}
use Rattle.link_format.specs.Scan.{reading_of}
use Rattle.link_format.specs.Walk.{in_list, left_by}
use Rattle.link_format.proofs.reader.next_span.Given as goal

abbrev pub invariant-elements : goal.invariant-elements
invariant-elements l = record {
  begins : StandUpTo l.text (Some l.rest) [];
  links : reading_of l.rest ≡ reading_of l.text;
  place : left_by in_list l.rest ≡ left_by in_list l.text;
}

abbrev pub decreases-elements : goal.decreases-elements
decreases-elements l = length l.rest
