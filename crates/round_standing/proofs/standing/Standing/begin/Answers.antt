use Rattle.std.proofs.Common.{rules, ℕ, List, ap, length, subst}
use Rattle.round_standing.specs.Paces.{Begins}
use Rattle.round_standing.proofs.PassingLemmas.{all_more_passed, asked_by_same, asked_still_stay, none_is_left_out, none_passed}
use Rattle.round_standing.proofs.standing.Standing.begin.Goals as goal

pub loop-archive-init : goal.loop-archive-init
loop-archive-init c = (none_passed 0 c.begin.new.self, none_is_left_out c.begin-2.new.self c.begin.new.self, search rules)

pub loop-archive-preserved : goal.loop-archive-preserved
loop-archive-preserved c =
    let start = c.begin.new.self in
    let old = c.loop-archive.self.schedule in
    let new = c.pass_unasked.new.self.schedule in (
      all_more_passed _ start old new _ _ c.loop-archive.invariant.0 c.pass_unasked.ensures.passed,
      asked_still_stay c.begin-2.new.self c.loop-archive.self.absences start old new
          (ap (λ standing. standing.absences) c.loop-archive.invariant.2) c.loop-archive.invariant.1 c.pass_unasked.ensures.asked,
      search rules,
    )

pub returns-clause-passed : goal.returns-clause-passed
returns-clause-passed c =
    let old = c.args.self.now.schedule in
    let begun = c.begin.new.self in
    let begins : Begins (length c.list-originals.result.now) old begun = record {
      is_begun = c.begin.result;
      idle = c.begin.ensures.idle;
      lanes = c.begin.ensures.lanes;
    } in (
      begun,
      subst (λ (all : List (List ℕ)). Begins (length all) old begun) c.list-originals.ensures begins,
      c.loop-archive.invariant.0,
      asked_by_same c.begin-2.new.self c.loop-archive.self.absences begun c.loop-archive.self.schedule
          (ap (λ standing. standing.absences) c.loop-archive.invariant.2) c.loop-archive.invariant.1,
    )
