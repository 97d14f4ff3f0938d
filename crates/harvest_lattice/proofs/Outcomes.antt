-- What follows of a result, whatever it is.
use Rattle.std.proofs.Common.{◌≡◌, ◌∙◌, IfOk, OnOk, OnErr, Result, Ok, Err}

-- what holds, holds if there is a value
pub on_ok_always : {T E P : Type 0} (r : Result T E) → P → OnOk r P
on_ok_always (Ok x) p = p
on_ok_always (Err e) p = tt

-- and if there is a fault
pub on_err_always : {T E P : Type 0} (r : Result T E) → P → OnErr r P
on_err_always (Ok x) p = tt
on_err_always (Err e) p = p

-- what the value shows is what equals it
pub if_ok_shows : {T E V : Type 0} (shows : T → V) {a b : V} (r : Result T E) → a ≡ b → IfOk r (λ x. shows x ≡ a) → IfOk r (λ x. shows x ≡ b)
if_ok_shows shows (Ok x) same is = is ∙ same
if_ok_shows shows (Err e) same is = tt
