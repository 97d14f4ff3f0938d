-- What a writer holds if not all was written.
use Rattle.std.proofs.Common.{◌≡◌, ℕ, ◌+◌, ◌-◌, ◌<◌, ◌≤◌, List, [], ◌++◌, length, take, drop, Option, Some, None, Result, Ok, Err, refl, sym, ap, subst, ◌∙◌, append_assoc, append-nil, arith, take-append-drop}
use Rattle.std.specs.Prelude.{OnErr}
use Rattle.std.proofs.lemmas.List.{length-append, length-drop}
use Rattle.std.specs.Io.KnownBytes.{Appends, Keeps}
use Rattle.std.proofs.KnownBytes.{Appends-nil, Appends-trans}
use Rattle.snapshot_sections.specs.Sections.{section_line, last_line}
use Rattle.snapshot_sections.specs.Writing.{AppendsLess}

pub none_kept : (old new : Option (List ℕ)) → Appends old new [] → Keeps old new
none_kept None new none = tt
none_kept (Some xs) None none = none
none_kept (Some xs) (Some ys) none = none ∙ append-nil xs

pub kept_none : (old new : Option (List ℕ)) → Keeps old new → Appends old new []
kept_none None new kept = tt
kept_none (Some xs) None kept = kept
kept_none (Some xs) (Some ys) kept = kept ∙ sym (append-nil xs)

pub appends_kept : (old mid new : Option (List ℕ)) (bytes : List ℕ) → Appends old mid bytes → Keeps mid new → Appends old new bytes
appends_kept old mid new bytes first kept =
    subst (Appends old new) (append-nil bytes) (Appends-trans old mid new bytes [] first (kept_none mid new kept))

-- nothing was written of what has some bytes
pub nothing_yet : (writer : Option (List ℕ)) (bytes : List ℕ) → 0 < length bytes → AppendsLess writer writer bytes
nothing_yet writer bytes some = record { taken = []; left = bytes; all = refl; some_left = some; appended = Appends-nil writer }

-- a front was written, and then nothing
pub front_alone : (old mid new : Option (List ℕ)) (n : ℕ) (bytes : List ℕ) → n < length bytes → Appends old mid (take n bytes) → Keeps mid new → AppendsLess old new bytes
front_alone old mid new n bytes less front kept =
    let split : take n bytes ++ drop n bytes ≡ bytes = take-append-drop n bytes in
    record {
      taken = take n bytes;
      left = drop n bytes;
      all = split;
      some_left = let size = length-drop n bytes in omega (arith, size, less);
      appended = appends_kept old mid new (take n bytes) front kept;
    }

-- less than the whole is less than the whole and what follows
pub less_of_more : (old new : Option (List ℕ)) (bytes more : List ℕ) → AppendsLess old new bytes → AppendsLess old new (bytes ++ more)
less_of_more old new bytes more less = record {
  taken = less.taken;
  left = less.left ++ more;
  all = sym (append_assoc less.taken less.left more) ∙ ap (λ (l : List ℕ). l ++ more) less.all;
  some_left = let size = length-append less.left more in omega (arith, size, less.some_left);
  appended = less.appended;
}

-- a whole, and then less than what follows
pub less_behind : (old mid new : Option (List ℕ)) (bytes more : List ℕ) → Appends old mid bytes → AppendsLess mid new more → AppendsLess old new (bytes ++ more)
less_behind old mid new bytes more first less = record {
  taken = bytes ++ less.taken;
  left = less.left;
  all = append_assoc bytes less.taken less.left ∙ ap (λ (l : List ℕ). bytes ++ l) less.all;
  some_left = less.some_left;
  appended = Appends-trans old mid new bytes less.taken first less.appended;
}

-- ---- lines

pub on_err : {T E P : Type 0} (r : Result T E) → P → OnErr r P
on_err (Ok t) p = tt
on_err (Err e) p = p

pub no_section_line : (writer : Option (List ℕ)) (size : ℕ) → AppendsLess writer writer (section_line size)
no_section_line writer size = nothing_yet writer (section_line size) (omega arith)

pub no_last_line : (writer : Option (List ℕ)) (count : ℕ) → AppendsLess writer writer (last_line count)
no_last_line writer count = nothing_yet writer (last_line count) (omega arith)
