use Rattle.std.proofs.Common.{◌≡◌, ℕ, ◌-◌, codes, Option, refl, ap, arith}
use Rattle.std.specs.Prelude.{length, min, option_map, unwrap_or}
use Rattle.memento_time.specs.Blanks.{trim_blanks, trim_start}
use Rattle.harvester.proofs.Waits.{no_date}
use Rattle.harvester.proofs.laws.patiences_by_example.Goals as goal

-- what is asked where a text is no number, by the second of its date
abbrev asked : Option ℕ → ℕ
asked second = min (unwrap_or (option_map (λ date. date - 784111777) second) 60) 3600

pub returns : goal.returns
unfolding trim_start
returns c = record {
  missing = refl;
  empty = ap asked (no_date (codes "") (λ e. let is : length (trim_blanks (codes "")) ≡ 0 = refl in omega (arith, e, is)));
  words = ap asked (no_date (codes "soon") (λ e. let is : length (trim_blanks (codes "soon")) ≡ 4 = refl in omega (arith, e, is)));
  negative = ap asked (no_date (codes "-5") (λ e. let is : length (trim_blanks (codes "-5")) ≡ 2 = refl in omega (arith, e, is)));
  broken = ap asked (no_date (codes "1.5") (λ e. let is : length (trim_blanks (codes "1.5")) ≡ 3 = refl in omega (arith, e, is)));
  at_once = refl;
  seconds = refl;
  between_blanks = refl;
  an_hour = refl;
  longer = refl;
  thirty_digits = refl;
  first_counts = refl;
  too_many = refl;
  too_many_until = refl;
  overloaded = refl;
  overloaded_until = refl;
  broken_down = refl;
  found = refl;
}
