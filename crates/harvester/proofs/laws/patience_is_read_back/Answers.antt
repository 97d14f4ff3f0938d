use Rattle.std.proofs.Common.{◌≡◌, ℕ, ◌-◌, ◌^◌, ◌<◌, ◌≤◌, List, [], ◌∷◌, Some, ap, arith}
use Rattle.std.specs.Prelude.{option_map}
use Rattle.std.specs.Fmt.{decimal}
use Rattle.std.proofs.lemmas.Fmt.{decimal_is_IsNumeral_wide}
use Rattle.memento_time.specs.Second.{Reads}
use Rattle.memento_time.specs.SecondOf.{asked_of}
use Rattle.harvester.specs.Patience.{patience_named, seconds_named}
use Rattle.harvester.proofs.Waits.{no_number, number_tested}
use Rattle.harvester.proofs.laws.patience_is_read_back.Goals as goal

number : (now n : ℕ) → n < 10 ^ 64 → seconds_named now (decimal n) ≡ Some n
number now n small = let is = decimal_is_IsNumeral_wide n small in rw (number_tested (decimal n) is.0) (ap (λ x. Some x) is.1)

date : (now : ℕ) (text : List ℕ) (s : ℕ) → Reads text s → asked_of text ≡ Some s → seconds_named now text ≡ Some (s - now)
date now text s reads asks = rw (no_number text reads.day) (ap (λ o. option_map (λ date. date - now) o) asks)

most : (now : ℕ) (values : List (List ℕ)) → patience_named now values ≤ 3600
most now [] = omega arith
most now (value ∷ values) = omega arith

pub returns : goal.returns
returns c = record { number = number; date = date; most = most }
