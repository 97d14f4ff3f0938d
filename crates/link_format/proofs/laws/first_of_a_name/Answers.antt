use Rattle.link_format.proofs.Named.{same_decides, first_is, none_named}
use Rattle.link_format.proofs.laws.first_of_a_name.Goals as goal

pub returns : goal.returns
returns c = record {
  same = λ a b. same_decides a b;
  found = λ name before after param others is. first_is name before after param others is;
  missing = λ name params others. none_named name params others;
}
