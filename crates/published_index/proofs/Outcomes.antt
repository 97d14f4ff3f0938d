-- What is known of one outcome.
use Rattle.std.proofs.Common.{◌≡◌, Result, Ok, Err, MatchResult, OnOk, OnErr, IfErr, subst}

pub on_ok : {T E : Type 0} (r : Result T E) (P Q : Type 0) → MatchResult r (λ _. P) (λ _. Q) → OnOk r P
on_ok (Ok x) P Q p = p
on_ok (Err e) P Q p = tt

pub on_err : {T E : Type 0} (r : Result T E) (P Q : Type 0) → MatchResult r (λ _. P) (λ _. Q) → OnErr r Q
on_err (Ok x) P Q p = tt
on_err (Err e) P Q p = p

-- what holds of an error holds of the one that there is
pub this_error : {T E : Type 0} (r : Result T E) (fault : E) (P : E → Type 0) → r ≡ Err fault → IfErr r P → P fault
this_error {T} {E} r fault P is p = let At : Result T E → Type 0 = λ r. IfErr r P in subst At is p
