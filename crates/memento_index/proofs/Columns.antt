-- Two columns of one length.
use Rattle.std.proofs.Common.{◌≡◌, ℕ, suc, List, [], ◌∷◌, ◌++◌, length, refl, ap, arith}
use Rattle.memento_time.specs.declared.mementos.Memento.{Memento}
use Rattle.memento_index.specs.Counts.{mementos_of}
use Rattle.memento_index.specs.Tallies.{beside}

pub beside-append : (ms : List Memento) (ns : List ℕ) (m : Memento) (n : ℕ) → length ms ≡ length ns
    → beside (ms ++ m ∷ []) (ns ++ n ∷ []) ≡ beside ms ns ++ record { memento = m; count = n } ∷ []
beside-append [] [] m n h = refl
beside-append [] (k ∷ ns) m n h = absurd (omega arith)
beside-append (x ∷ ms) [] m n h = absurd (omega arith)
beside-append (x ∷ ms) (k ∷ ns) m n h = ap (λ es. record { memento = x; count = k } ∷ es) (beside-append ms ns m n (omega arith))

pub mementos-beside : (ms : List Memento) (ns : List ℕ) → length ms ≡ length ns → mementos_of (beside ms ns) ≡ ms
mementos-beside [] ns h = refl
mementos-beside (x ∷ ms) [] h = absurd (omega arith)
mementos-beside (x ∷ ms) (k ∷ ns) h = ap (λ xs. x ∷ xs) (mementos-beside ms ns (omega arith))

pub length-beside : (ms : List Memento) (ns : List ℕ) → length ms ≡ length ns → length (beside ms ns) ≡ length ms
length-beside [] ns h = refl
length-beside (x ∷ ms) [] h = absurd (omega arith)
length-beside (x ∷ ms) (k ∷ ns) h = ap suc (length-beside ms ns (omega arith))
