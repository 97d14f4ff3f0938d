use Rattle.std.proofs.Common.{ℕ, List, ap, sym, ◌∙◌}
use Rattle.published_index.specs.Batches.{fold_of}
use Rattle.timegate.specs.Reply.{reply}
use Rattle.timegate.proofs.Replies.{same_reply, same_harvests}
use Rattle.published_index.proofs.pairs.ask_both.Goals as goal

pub returns-clause-same_state : goal.returns-clause-same_state
returns-clause-same_state c taken same =
    let front = c.answer.new.self.pass.front in
    let other = c.answer-2.new.self.pass.front in
    let q = c.args.request.now in
    c.in_ok-one.ensures.reply taken ∙ (same_reply c.args.first.now.base (fold_of front) (fold_of other) q same
    ∙ sym (c.in_ok-other.ensures.reply taken ∙ ap (λ (base : List ℕ). reply base (fold_of other) q) c.requires))

pub returns-clause-same_harvests : goal.returns-clause-same_harvests
returns-clause-same_harvests c taken same =
    let front = c.answer.new.self.pass.front in
    let other = c.answer-2.new.self.pass.front in
    let q = c.args.request.now in
    c.in_ok-one.ensures.reply taken ∙ (same_harvests c.args.first.now.base (fold_of front) (fold_of other) same q
    ∙ sym (c.in_ok-other.ensures.reply taken ∙ ap (λ (base : List ℕ). reply base (fold_of other) q) c.requires))
