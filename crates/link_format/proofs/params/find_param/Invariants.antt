use Rattle.std.proofs.Common.{◌≡◌, length}
use Rattle.link_format.specs.Scan.{params_of}
use Rattle.link_format.specs.Values.{first_value}
use Rattle.link_format.proofs.params.find_param.Given as goal

abbrev pub invariant-loop-found : goal.invariant-loop-found
invariant-loop-found l = first_value l.name (params_of l.rest) ≡ first_value l.name (params_of l.text)

abbrev pub decreases-loop-found : goal.decreases-loop-found
decreases-loop-found l = length l.rest
