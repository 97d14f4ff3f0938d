use Rattle.std.proofs.Common.{take}
use Rattle.std.specs.List.{flat_map}
use Rattle.std.specs.Io.KnownBytes.{Appends}
use Rattle.round_standing.specs.Listing.{bad_line}
use Rattle.round_standing.proofs.listing.say_bad.Given as goal

-- what was written are the lines about those that were gone over
abbrev pub invariant-loop-line : goal.invariant-loop-line
invariant-loop-line g l =
    Appends (g.W.Write.contents l.fn.out) (g.W.Write.contents l.out) (flat_map bad_line (take l.line-index l.line-items))
