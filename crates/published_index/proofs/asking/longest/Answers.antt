use Rattle.std.proofs.Common.{refl, sym, subst, Option}
use mathlib.Core.List.{IsPrefix}
use Rattle.published_index.specs.declared.marks.Mark.{Mark}
use Rattle.published_index.specs.Marks.{successes}
use Rattle.published_index.specs.Passes.{told_list}
use Rattle.published_index.proofs.asking.longest.Goals as goal

pub returns-in-None-clause-told : goal.returns-in-None-clause-told
returns-in-None-clause-told c = subst (λ (t : Option Mark). IsPrefix (told_list t) (successes c.args.mark.seen.log)) (sym c.in-None.is) (successes c.args.mark.seen.log, refl)
