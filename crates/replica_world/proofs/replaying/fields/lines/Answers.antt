use Rattle.std.proofs.Common.{◌≡◌, ◌-◌, ◌+◌, ℕ, List, [], ◌∷◌, ◌++◌, Some, rules, arith, sym, ap, ◌∙◌}
use Rattle.replica_world.specs.Fields.{lines_of, line_of}
use Rattle.replica_world.proofs.Lines.{lines_after, lines_after-start, lines_after-line, lines_after-none, lines_after-all}
use Rattle.replica_world.proofs.replaying.fields.lines.Goals as goal

pub loop-init : goal.loop-init
loop-init c = lines_after-start c.args.count c.new-lines.result.items c.args.text.now c.new-lines.ensures.items

pub loop-preserved : goal.loop-preserved
loop-preserved c =
    let line_is : line_of c.loop.rest.now ≡ Some (c.in-Some.line.now, c.in-Some.after.now) = sym c.in-Some.ensures in
    let pushed : c.push.new.self.items ≡ c.loop.lines.items ++ c.in-Some.line.now ∷ [] = search rules in
    let one = lines_after-line c.args.count c.loop.counter c.loop.lines.items c.loop.rest.now c.in-Some.line.now c.in-Some.after.now (omega arith) line_is in
    ap (λ (l : List (List ℕ)). lines_after l (lines_of (c.args.count - (c.loop.counter + 1)) c.in-Some.after.now)) pushed ∙ sym one ∙ c.loop.invariant

pub returns-in_default : goal.returns-in_default
returns-in_default c =
    sym (lines_after-none c.args.count c.loop.counter c.loop.lines.items c.loop.rest.now (omega arith) (sym c.in_default.ensures)) ∙ c.loop.invariant

pub returns : goal.returns
returns c = sym (lines_after-all c.args.count c.loop.counter c.loop.lines.items c.loop.rest.now (omega arith)) ∙ c.loop.invariant
