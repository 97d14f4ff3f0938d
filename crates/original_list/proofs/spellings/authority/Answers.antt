use Rattle.std.proofs.Common.{take, sym, ap, ◌∙◌}
use Rattle.memento_time.proofs.FirstLemmas.{end_is, none_is}
use Rattle.original_list.proofs.spellings.authority.Goals as goal

pub returns-in-Some : goal.returns-in-Some
returns-in-Some c = ap (λ n. take n c.args.text.now) (end_is _ _ _ (sym c.in-Some.is ∙ c.first_end.ensures))

pub returns-in-None : goal.returns-in-None
returns-in-None c = sym (none_is _ _ (sym c.in-None.is ∙ c.first_end.ensures))
