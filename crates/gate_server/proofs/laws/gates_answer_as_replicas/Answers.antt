use Rattle.std.proofs.Common.{refl, ◌∙◌, []}
use Rattle.published_index.specs.Views.{GateView}
use Rattle.published_index.specs.Passes.{no_opening}
use Rattle.timegate.proofs.Replies.{reply_from_state}
use Rattle.published_index.specs.Batches.{fold_of}
use Rattle.gate_server.proofs.laws.gates_answer_as_replicas.Goals as goal

pub returns-clause-taken : goal.returns-clause-taken
returns-clause-taken c = λ gate q made shown taken.
    shown.from.is ∙ reply_from_state gate.base (fold_of gate.pass.front) shown.from.stamped q shown.from.merges.entries taken

pub returns-clause-each : goal.returns-clause-each
returns-clause-each c = λ base front s q made_by.
    let gate : GateView = record {
      opening = no_opening;
      incarnation = s.incarnation;
      base = base;
      pass = record { front = front; told = [] };
    } in
    (gate, refl, refl, record { from = record { stamped = s; merges = made_by; own = refl; is = refl }; settled = refl })
