use Rattle.std.proofs.Common.{ap, ◌∙◌}
use Rattle.std.proofs.lemmas.List.Folds.{list_all_at}
use Rattle.harvester.specs.Answers.{is_identity, is_plain}
use Rattle.harvester.proofs.laws.other_codings_are_refused.Goals as goal

pub returns : goal.returns
unfolding is_plain
returns c = λ job url answer coding found (place, within, at) other.
    (found, list_all_at is_identity answer.encoding place coding within (ap is_identity at ∙ other))
