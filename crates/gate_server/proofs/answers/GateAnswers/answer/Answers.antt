use Rattle.std.proofs.Common.{refl, sym, ap, subst, inl, ◌≡◌, ℕ, List, Result, Ok, Err, IfOk, OnOk}
use Rattle.timegate.specs.declared.request.Request.{Request}
use Rattle.timegate.specs.declared.reply.Reply.{Reply}
use Rattle.published_index.specs.declared.faults.GateFault.{GateFault}
use Rattle.published_index.specs.declared.faults.GateFault.TheVariants.{NoMemory, Closed}
use Rattle.published_index.specs.Passes.{Advances}
use Rattle.published_index.specs.Replies.{IsReplyFrom}
use Rattle.published_index.specs.Views.{GateView}
use Rattle.gate_server.specs.Gates.{GoesOn, Shows}
use Rattle.gate_server.specs.GateLaws.{gate_stays}
use Rattle.gate_server.proofs.answers.GateAnswers.answer.Goals as goal

-- what a reply is made from is shown by the gate as it is then
shows_after : (old new : GateView) (q : Request) (r : Result Reply GateFault) → new ≡ record old { pass = new.pass }
    → OnOk r (Advances old.pass new.pass) → IfOk r (IsReplyFrom old.base old.incarnation new.pass.front q) → IfOk r (Shows new q)
shows_after old new q (Ok made) same advances from =
    let base : old.base ≡ new.base = sym (ap (λ (g : GateView). g.base) same) in
    let incarnation : old.incarnation ≡ new.incarnation = sym (ap (λ (g : GateView). g.incarnation) same) in
    let of_base : IsReplyFrom new.base old.incarnation new.pass.front q made =
    subst (λ (b : List ℕ). IsReplyFrom b old.incarnation new.pass.front q made) base from in
    let shown : IsReplyFrom new.base new.incarnation new.pass.front q made =
    subst (λ (i : ℕ). IsReplyFrom new.base i new.pass.front q made) incarnation of_base in
    record { from = shown; settled = advances.settled }
shows_after old new q (Err fault) same advances from = tt

advanced : (old new : GateView) → new ≡ record old { pass = new.pass } → Advances old.pass new.pass → GoesOn old new
advanced old new same advances = record {
  opening = ap (λ (g : GateView). g.opening) same;
  incarnation = ap (λ (g : GateView). g.incarnation) same;
  base = ap (λ (g : GateView). g.base) same;
  seen = advances.seen;
  told = inl advances.told;
}

goes_on_after : (old new : GateView) (r : Result Reply GateFault) → new ≡ record old { pass = new.pass }
    → OnOk r (Advances old.pass new.pass) → (r ≡ Err NoMemory → Advances old.pass new.pass) → (r ≡ Err Closed → new ≡ old) → GoesOn old new
goes_on_after old new (Ok made) same advances no_memory closed = advanced old new same advances
goes_on_after old new (Err NoMemory) same advances no_memory closed = advanced old new same (no_memory refl)
goes_on_after old new (Err Closed) same advances no_memory closed = rw (closed refl) (gate_stays old)

pub returns-clause-shown : goal.returns-clause-shown
returns-clause-shown c =
    let asked = c.answer.ensures in
    shows_after c.args.self.now c.answer.new.self c.args.request.now c.answer.result asked.same asked.advances asked.stamped

pub returns-clause-later : goal.returns-clause-later
returns-clause-later c =
    let asked = c.answer.ensures in
    goes_on_after c.args.self.now c.answer.new.self c.answer.result asked.same asked.advances asked.no_memory asked.closed
