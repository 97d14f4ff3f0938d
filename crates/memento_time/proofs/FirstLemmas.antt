-- What `position` says of the front of a list.
use Rattle.std.proofs.Common.{◌≡◌, ℕ, Bool, true, false, cond, nat_lt, List, length, take, Some, None, arith}
use Rattle.std.proofs.lemmas.List.{take_all}
use Rattle.std.proofs.lemmas.Bool.Decides.{nat_tests}

pub end_is : (b : Bool) (p end : ℕ) → Some end ≡ cond b (Some p) None → end ≡ p
end_is true p end e = cc
end_is false p end e = cc

none_far : (b : Bool) (p : ℕ) → None ≡ cond b (Some p) None → b ≡ false
none_far true p e = cc
none_far false p e = cc

pub none_is : (xs : List ℕ) (p : ℕ) → None ≡ cond (nat_lt p (length xs)) (Some p) None → take p xs ≡ xs
none_is xs p e =
    let far = none_far (nat_lt p (length xs)) p e in
    take_all p xs (grind (arith, nat_tests, far))
