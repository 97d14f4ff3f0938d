use Rattle.std.proofs.Common.{rules}
use Rattle.std.proofs.lemmas.Fn.{filter_same}
use Rattle.wish_list.specs.Queue.{isnt_of}
use Rattle.wish_list.proofs.queue.leave_out.Goals as goal

pub returns : goal.returns
returns c = filter_same _ (isnt_of c.args.original.now) _ (λ x b f k. search rules) _ _ c.retain.ensures.filtered
