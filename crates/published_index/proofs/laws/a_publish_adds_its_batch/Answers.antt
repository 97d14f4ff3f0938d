use Rattle.std.proofs.Common.{sym, ◌∙◌}
use Rattle.published_index.specs.Batches.{fold_of}
use Rattle.published_index.proofs.Folding.{fold-batch, taken-all}
use Rattle.published_index.proofs.laws.a_publish_adds_its_batch.Goals as goal

pub returns : goal.returns
returns c m = fold-batch m.published m.pending ∙ sym (taken-all (fold_of m.published) m.pending)
