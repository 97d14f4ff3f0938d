use Rattle.std.proofs.Common.{◌≡◌, length}
use Rattle.std.specs.Option.{option_or}
use Rattle.link_format.specs.Scan.{params_of}
use Rattle.link_format.specs.Spans.{value_from}
use Rattle.link_format.specs.Values.{first_value}
use Rattle.link_format.proofs.params.find_params.Given as goal

abbrev pub invariant-loop-next : goal.invariant-loop-next
invariant-loop-next l = record {
  first : option_or (value_from l.of_first) (first_value l.first (params_of l.rest)) ≡ first_value l.first (params_of l.text);
  second : option_or (value_from l.of_second) (first_value l.second (params_of l.rest)) ≡ first_value l.second (params_of l.text);
}

abbrev pub decreases-loop-next : goal.decreases-loop-next
decreases-loop-next l = length l.rest
