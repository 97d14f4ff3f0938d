-- Reads and writes one after another, and whose fault a failure is.
use Rattle.std.proofs.Common.{◌≡◌, ◌≢◌, ℕ, zero, suc, ◌+◌, min, arith, refl, List, ◌++◌, take, drop, Option}
use Rattle.std.proofs.Common.{Result, Ok, Err, sym, ap, subst, ◌∙◌, append_assoc}
use Rattle.std.specs.Io.KnownBytes.{Appends}
use Rattle.std.proofs.KnownBytes.{Appends-trans}
use Rattle.std.proofs.lemmas.List.{take-append-drop}
use Rattle.replica_world.specs.Watching.{count_after, Counted}
use Rattle.replica_world.specs.declared.replaying.fault.ReplayFault.{ReplayFault}
use Rattle.replica_world.specs.declared.replaying.fault.ReplayFault.TheVariants.{BadLine, Read, Write, NoMemory}
use Rattle.replica_world.specs.Devices.{BlamesWriter}

-- bytes are what was done and what is left; after n more of what was left
pub write_more : (old mid new : Option (List ℕ)) (bytes rest after : List ℕ) (n : ℕ)
    → ((done : List ℕ) × (bytes ≡ done ++ rest) × Appends old mid done) → Appends mid new (take n rest) → after ≡ drop n rest
    → (done : List ℕ) × (bytes ≡ done ++ after) × Appends old new done
write_more old mid new bytes rest after n h a e =
    let whole : take n rest ++ after ≡ rest = ap (λ (l : List ℕ). take n rest ++ l) e ∙ take-append-drop n rest in
    (h.0 ++ take n rest, h.1 ∙ ap (λ (l : List ℕ). h.0 ++ l) (sym whole) ∙ sym (append_assoc h.0 (take n rest) after), Appends-trans old mid new h.0 (take n rest) h.2 a)

-- a count that stops at the most is one that grew by the sum
min_twice : (most old more mid new : ℕ) → mid ≡ min (old + more) most → new ≡ min (mid + 1) most → new ≡ min (old + (more + 1)) most
min_twice most old more mid new mid_is new_is = omega arith

pub none_counted : (old : ℕ) → Counted 0 old old
none_counted old = record { none = λ _. refl; some = λ more. absurd (omega (arith, more)) }

pub one_more_counted : (more old mid new : ℕ) → Counted more old mid → new ≡ count_after 1 mid → Counted (more + 1) old new
one_more_counted zero old mid new counted is = record {
  none = λ none. absurd (omega (arith, none));
  some = λ _. is ∙ ap (count_after 1) (counted.none refl);
}
one_more_counted (suc more) old mid new counted is = record {
  none = λ none. absurd (omega (arith, none));
  some = λ _. min_twice _ old (suc more) mid new (counted.some (omega arith)) is;
}

-- ---- whose fault a failure is

-- it answers `Write` just where a write failed
pub write_failed : (result : Result (Unit {0}) ReplayFault) (old new : ℕ) → BlamesWriter result old new → result ≡ Err Write → new ≡ count_after 1 old
write_failed result old new blames is = subst (λ (r : Result (Unit {0}) ReplayFault). BlamesWriter r old new) is blames

pub no_write_failed : (result : Result (Unit {0}) ReplayFault) (old new : ℕ) → BlamesWriter result old new → result ≢ Err Write → new ≡ old
no_write_failed (Ok u) old new blames other = blames
no_write_failed (Err Read) old new blames other = blames
no_write_failed (Err Write) old new blames other = absurd (other refl)
no_write_failed (Err NoMemory) old new blames other = blames
no_write_failed (Err (BadLine number)) old new blames other = blames
