use Rattle.std.proofs.Common.{◌≡◌, All, ap, map, subst, sym, ◌∙◌}
use Rattle.std.proofs.lemmas.List.Elements.{All-tail}
use Rattle.part_gates.proofs.PushLemmas.{pushed_all, pushed_map}
use Rattle.part_gates.proofs.gates.part_gates.Goals as goal

pub loop-gate-preserved : goal.loop-gate-preserved
loop-gate-preserved g c =
    let before = c.loop-gate.invariant in
    let items = c.in_ok-push.ensures.items in (
      ap (map (λ it. it.gate)) items ∙ pushed_map (λ it. it.gate) c.loop-gate.made.items c.new.result c.loop-gate.yielded c.in-Some.gate
          before.0 c.new.ensures.gate,
      subst (All (λ it. it.room ≡ c.args.room)) (sym items)
          (pushed_all (λ it. it.room ≡ c.args.room) c.loop-gate.made.items c.new.result before.1 c.new.ensures.room),
      All-tail (λ gate. gate.base ≡ g.B.NamesBase.base) c.in-Some.gate c.next.new.self.rest.items
          (subst (All (λ gate. gate.base ≡ g.B.NamesBase.base)) c.in-Some.ensures.steps.0 before.2),
    )
