use Rattle.std.proofs.Common.{ap}
use Rattle.harvest_lattice.proofs.KnowledgeShown.{shown_same}
use Rattle.memento_sets.specs.MementoSets.{Mementos}
use Rattle.single_questions.specs.Wants.{answer_text}
use Rattle.single_questions.proofs.laws.order_makes_no_difference.Goals as goal

pub returns : goal.returns
returns c want base original hs gs same =
    ap (λ (ms : Mementos). answer_text want base original ms) (shown_same hs gs original (λ h. (same h).0) (λ h. (same h).1))
