use Rattle.std.proofs.Common.{arith}
use Rattle.retention.proofs.ExampleLemmas.{size_twice, size_once, size_in_vain, count_known, mementos_known, count_empty, mementos_empty}
use Rattle.retention.proofs.laws.amounts_by_example.Goals as goal

pub returns : goal.returns
returns c = record {
  amounts = record {
    twice = size_twice;
    once = size_once;
    in_vain = size_in_vain;
    entries = count_known;
    mementos_are = mementos_known;
    no_entries = count_empty;
    no_mementos = mementos_empty;
  };
  bounds = record {
    equal = (omega arith, omega arith);
    an_entry_more = λ fits. absurd (omega (arith, fits.0));
    a_memento_more = λ fits. absurd (omega (arith, fits.1));
  };
}
