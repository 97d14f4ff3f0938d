-- What a reply made from a front is, and replies made from fronts that have one state.
use Rattle.std.proofs.Common.{◌≡◌, ℕ, List, Result, Ok, Err, IfOk, ◌∙◌}
use Rattle.timegate.specs.Reply.{reply}
use Rattle.timegate.specs.Route.{IsOfTaken}
use Rattle.timegate.specs.declared.request.Request.{Request}
use Rattle.timegate.specs.declared.reply.Reply.{Reply}
use Rattle.timegate.proofs.Replies.{reply_from_state}
use Rattle.published_index.specs.declared.faults.GateFault.{GateFault}
use Rattle.published_index.specs.Batches.{Batch, fold_of}
use Rattle.published_index.specs.Replies.{IsReplyFrom}

pub reply_from_front : (base : List ℕ) (incarnation : ℕ) (front : List Batch) (q : Request) (made : Reply) → IsReplyFrom base incarnation front q made
    → IsOfTaken q → made ≡ reply base (fold_of front) q
reply_from_front base incarnation front q made from taken = from.is ∙ reply_from_state base (fold_of front) from.stamped q from.merges.entries taken

-- but for the deltas, the reply of what the front's merges add
pub taken_reply : (r : Result Reply GateFault) (base : List ℕ) (incarnation : ℕ) (front : List Batch) (q : Request)
    → IfOk r (IsReplyFrom base incarnation front q) → IsOfTaken q → IfOk r (λ made. made ≡ reply base (fold_of front) q)
taken_reply (Ok made) base incarnation front q from taken = reply_from_front base incarnation front q made from taken
taken_reply (Err fault) base incarnation front q from taken = tt
