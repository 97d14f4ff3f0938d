-- What restricted deltas add, and how far cursors reach.
use Rattle.std.proofs.Common.{◌≡◌, ℕ, List, take, sym, ap, subst, ◌∙◌}
use Rattle.harvest_lattice.specs.Lattice.{Entries, AtMost, join}
use Rattle.harvest_lattice.proofs.EntryOrder.{join_semilattice, joined_at_most, at_most_refl, at_most_right}
use Rattle.memento_index.specs.declared.merge.Merge.{Merge}
use Rattle.replica_exchange.specs.Stamps.{StampedState, IsStamped, entries_above, state_after}
use Rattle.replica_exchange.proofs.StampLemmas.{above_suffices, prefix_at_most}
use Rattle.retention.specs.Restriction.{Rule, restrict, taken_in}
use Rattle.retention.proofs.RestrictionLemmas.{restrict-join}

-- ---- deltas

-- what stands below y is swallowed by it
swallowed : (x y z : Entries) → AtMost y x → join x (join y z) ≡ join x z
swallowed x y z le =
    sym (join_semilattice.assoc x y z)
    ∙ ap (λ (w : Entries). join w z) (join_semilattice.comm x y ∙ joined_at_most y x le)

pub kept_suffice : (keeps : Rule) (ms : List Merge) (s : StampedState) (n : ℕ) (x : Entries) → IsStamped ms s
    → AtMost (restrict keeps (state_after (take n ms))) x
    → taken_in keeps x (entries_above s n) ≡ taken_in keeps x (state_after ms)
kept_suffice keeps ms s n x is below =
    let before : Entries = state_after (take n ms) in
    let whole : join before (entries_above s n) ≡ state_after ms =
    above_suffices ms s n before is (at_most_refl before)
    ∙ joined_at_most before (state_after ms) (prefix_at_most ms n) in
    sym (swallowed x (restrict keeps before) (restrict keeps (entries_above s n)) below)
    ∙ ap (join x) (sym (restrict-join keeps before (entries_above s n)) ∙ ap (restrict keeps) whole)

pub moved_on : (keeps : Rule) (ms : List Merge) (s : StampedState) (n : ℕ) (x : Entries) → IsStamped ms s
    → AtMost (restrict keeps (state_after (take n ms))) x
    → AtMost (restrict keeps (state_after ms)) (taken_in keeps x (entries_above s n))
moved_on keeps ms s n x is below =
    subst (λ (y : Entries). AtMost (restrict keeps (state_after ms)) y) (sym (kept_suffice keeps ms s n x is below))
    (at_most_right x (restrict keeps (state_after ms)))
