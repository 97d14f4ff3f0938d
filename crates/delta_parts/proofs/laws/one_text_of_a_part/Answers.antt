use Rattle.delta_parts.proofs.TextLemmas.{one_part, one_part_text}
use Rattle.delta_parts.proofs.laws.one_text_of_a_part.Goals as goal

pub returns-clause-written : goal.returns-clause-written
returns-clause-written c = one_part

pub returns-clause-read : goal.returns-clause-read
returns-clause-read c = one_part_text
