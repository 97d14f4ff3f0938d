use Rattle.std.proofs.Common.{ℕ, ap, sym, ◌∙◌}
use Rattle.std.specs.FinMap as map
use Rattle.harvest_lattice.specs.Lattice.{Entries}
use Rattle.replica_exchange.proofs.StampLemmas.{entries_filtered}
use Rattle.delta_parts.specs.Filling.{rows_above}
use Rattle.delta_parts.proofs.FillLemmas.{above_again}
use Rattle.delta_parts.proofs.writing.write_part.Goals as goal

pub write_part_of-requires-clause-entries : goal.write_part_of-requires-clause-entries
write_part_of-requires-clause-entries c =
    let s = c.args.stamped.now in
    let n : ℕ = c.start_from-start.result in
    let few = rw c.in-Some.is at c.in_ok-state.ensures in
    ap (λ (x : Entries). rows_above s n (map.entries x)) few ∙ above_again s n

pub write_part_of-requires-in-None-clause-entries : goal.write_part_of-requires-in-None-clause-entries
write_part_of-requires-in-None-clause-entries c =
    let s = c.args.stamped.now in
    let n : ℕ = c.start_from-start.result in
    ap (λ (x : Entries). rows_above s n (map.entries x)) (c.state-state.ensures ∙ c.index.ensures) ∙ sym (entries_filtered s n)
