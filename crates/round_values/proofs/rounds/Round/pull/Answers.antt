use Rattle.std.specs.Prelude.{◌≡◌, ℕ, true, Result, Ok, Err, OnOk}
use Rattle.std.specs.FinMap as map
use Rattle.replica_exchange.specs.declared.delta.Delta.{Delta}
use Rattle.replica_exchange.specs.CursorRule.{fits}
use Rattle.outgoing_requests.specs.Pulls.{IsBrought}
use Rattle.published_index.specs.Cursors.{with_delta}
use Rattle.published_index.specs.Views.{MergerView}
use Rattle.round_values.specs.declared.rounds.Round.{Round}
use Rattle.round_values.specs.Pulls.{Pulls, with_pull}
use Rattle.round_values.proofs.rounds.Round.pull.Goals as goal

-- what was brought, and is appended, is pulled
pulled : {T E : Type 0} (result : Result T E) (peer : ℕ) (round next : Round) (m n : MergerView) (d : Delta) → IsBrought d
    → OnOk result (n ≡ with_delta m peer d) → OnOk result (fits (map.get m.cursors peer) d ≡ true) → OnOk result (next ≡ with_pull round)
    → OnOk result (Pulls peer round m next n)
pulled (Ok taken) peer round next m n d brought merger follows counted = record {
  delta = d;
  brought = brought;
  follows = follows;
  merger = merger;
  counted = counted;
}
pulled (Err fault) peer round next m n d brought merger follows counted = tt

pub returns-in-Ok-clause-ok : goal.returns-in-Ok-clause-ok
returns-in-Ok-clause-ok g c =
    pulled c.append_delta.result c.args.number c.args.self.now c.append_delta.new.self c.args.merger.now c.append_delta.new.merger c.in-Ok.delta
    c.in-Ok.ensures.brought c.append_delta.ensures.ok c.append_delta.ensures.fits c.append_delta.ensures.counted
