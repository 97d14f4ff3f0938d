use Rattle.std.proofs.Common.{◌≡◌, ◌++◌, ◌+◌, ℕ, List, suc, map, take, drop, set, get_or, ap, ◌∙◌, arith}
use Rattle.wish_list.specs.declared.jobs.Granted.{Granted}
use Rattle.wish_list.specs.Jobs.{after_skip}
use Rattle.wish_list.proofs.Places.{mapped_more}
use Rattle.wish_list.proofs.jobs.WishJobs.skip.Goals as goal

pub loop-granted-preserved : goal.loop-granted-preserved
loop-granted-preserved c =
    let f = after_skip c.args.archive in
    let first = c.deref_mut-granted-items.result.now in
    let i = c.loop-granted.granted-index in
    let new = c.skip_in.new.granted in
    let item = c.granted-item.result in
    let at : c.loop-granted.granted-items ≡ map f (take i first) ++ drop i first = c.loop-granted.invariant in
    let is : new ≡ f (get_or (map f (take i first) ++ drop i first) i item) = c.skip_in.ensures ∙ ap (λ (ws : List Granted). f (get_or ws i item)) at in
    let next : suc i ≡ i + 1 = omega arith in
    ap (λ (ws : List Granted). set ws i new) at ∙ mapped_more f first i new item c.loop-granted-test.true is
    ∙ ap (λ (n : ℕ). map f (take n first) ++ drop n first) next
