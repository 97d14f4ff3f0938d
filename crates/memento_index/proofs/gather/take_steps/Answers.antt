use Rattle.std.proofs.Common.{◌≡◌, List, Option, IfOk, sym, ap, subst, ◌∙◌}
use Rattle.memento_index.specs.declared.counted.Step.{Step}
use Rattle.memento_index.specs.declared.counted.Steps.{Steps}
use Rattle.memento_index.specs.Lists.{steps_in, steps_of, steps_or_none}
use Rattle.memento_index.proofs.gather.take_steps.Goals as goal

pub returns-in-Some-clause-taken : goal.returns-in-Some-clause-taken
returns-in-Some-clause-taken c =
    let is : steps_in c.in-Some.steps ≡ steps_of c.args.all.now c.args.original.now =
    ap (λ (s : Option Steps). steps_or_none s) (sym c.in-Some.is ∙ c.remove.ensures.value) in
    subst (λ (ss : List Step). IfOk c.into_vec.result (λ steps. steps.items ≡ ss)) is c.into_vec.ensures

pub returns-in-None-clause-taken : goal.returns-in-None-clause-taken
returns-in-None-clause-taken c = c.new.ensures.items ∙ ap (λ (s : Option Steps). steps_or_none s) (sym c.in-None.is ∙ c.remove.ensures.value)
