use Rattle.std.proofs.Common.{◌≡◌, ℕ, List, Option, Some, None, sym, ap, subst, ◌∙◌}
use Rattle.std.specs.Prelude.{IfSome, is_some, position}
use Rattle.std.proofs.lemmas.Bool.{true≢false}
use Rattle.wish_list.specs.declared.jobs.Granted.{Granted}
use Rattle.wish_list.specs.Jobs.{has_ready}
use Rattle.wish_list.specs.Stages.{ready}
use Rattle.wish_list.proofs.Places.{passes}
use Rattle.wish_list.proofs.jobs.WishJobs.next.Goals as goal

pub returns-in_err-archive-clause-none : goal.returns-in_err-archive-clause-none
returns-in_err-archive-clause-none c =
    let all = c.args.self.now.wishes.items in
    let test = has_ready c.args.may.now in
    let granted = c.index.result.now in
    let first : position test all ≡ Some c.in_ok-wish.wish =
    ap (λ (ws : List Granted). position test ws) (sym c.deref.ensures.value) ∙ sym c.first_ready.ensures ∙ c.in_ok-wish.was in
    let at = passes test all c.in_ok-wish.wish granted first c.index.ensures in
    let none : ready c.args.may.now granted.stages ≡ None = sym c.ready.ensures ∙ c.in_err-archive.was in
    λ _. absurd (true≢false (sym at.1 ∙ ap (λ (o : Option ℕ). is_some o) none))

pub returns-clause-archive : goal.returns-clause-archive
returns-clause-archive c =
    let all = c.args.self.now.wishes.items in
    let test = has_ready c.args.may.now in
    let granted = c.index.result.now in
    let first : position test all ≡ Some c.in_ok-wish.wish =
    ap (λ (ws : List Granted). position test ws) (sym c.deref.ensures.value) ∙ sym c.first_ready.ensures ∙ c.in_ok-wish.was in
    let at = passes test all c.in_ok-wish.wish granted first c.index.ensures in
    let P : Option Granted → Type 0 = λ o. IfSome o (λ g. ready c.args.may.now g.stages ≡ Some c.in_ok-archive.archive) in
    subst P (sym at.2) (sym c.ready.ensures ∙ c.in_ok-archive.was)
