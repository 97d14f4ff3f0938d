-- Worked examples of what becomes of a wish.
use Rattle.std.specs.Prelude.{◌≡◌, ℕ, true, false, [], ◌∷◌, Some, codes}
use Rattle.lru.specs.LruCache.{lru_cache}
use Rattle.wish_list.specs.declared.queue.Wish.{Wish}
use Rattle.wish_list.specs.declared.wishes.Wishes.{Wishes}
use Rattle.wish_list.specs.declared.wishes.Decision.{Decision}
use Rattle.wish_list.specs.declared.wishes.Decision.TheVariants.{Added, Waits, Fresh, Full, Late, Listed}
use Rattle.wish_list.specs.Wishing.{allowance_after, decision, is_due, noted_second}

-- a wish for w, taken in the seventh minute
abbrev pub waiting : Wish
waiting = record { original = codes "w"; is_shown = false; is_granted = false; minute = 7 }

-- Two wishes may be taken in a minute, and so many more in the seventh. What was looked after is again in a thousand
-- seconds: s, of which something is shown, was in second 400, and a by a clock that was 40 days ahead. Rounds look
-- after l. Two wishes may stand for what isn't shown.
abbrev pub with_left : ℕ → Wishes
with_left left = record {
  again = 1000;
  allowance = record { most = 2; minute = 7; left = left };
  queue = waiting ∷ [];
  shown = lru_cache ((codes "s", 400) ∷ (codes "a", 3456400) ∷ []) 9;
  unshown = lru_cache [] 9;
  listed = codes "l" ∷ [];
  room = 2;
  turned_away = 0;
  late = 0;
}

-- and one, for what isn't shown
abbrev pub full : Wishes
full = record (with_left 1) { room = 1 }

-- once the first of the eighth minute was taken
abbrev pub in_the_next : Wishes
in_the_next = record (with_left 1) { allowance = record { most = 2; minute = 8; left = 1 } }

-- The seventh minute has the seconds 420 to 479.
pub record AreDecisions : Type 0 where
  pub new : decision (with_left 1) (codes "n") false 420 ≡ Added
  pub waits : decision (with_left 1) (codes "w") false 420 ≡ Waits
  pub fresh : decision (with_left 1) (codes "s") true 1399 ≡ Fresh
  pub due : decision (with_left 1) (codes "s") true 1400 ≡ Added
  pub ahead : decision (with_left 1) (codes "a") true 420 ≡ Added
  pub not_shown : decision (with_left 1) (codes "s") false 420 ≡ Added
  pub listed : decision (with_left 1) (codes "l") true 420 ≡ Listed
  pub listed_in_vain : decision (with_left 1) (codes "l") false 420 ≡ Added
  pub no_room : decision full (codes "n") false 420 ≡ Full
  pub room_for_shown : decision full (codes "n") true 420 ≡ Added
  pub late : decision (with_left 0) (codes "n") false 479 ≡ Late
  pub next_minute : decision (with_left 0) (codes "n") false 480 ≡ Added
  pub minute_before : decision (with_left 0) (codes "n") false 419 ≡ Late
  pub set_back : decision (with_left 0) (codes "n") false 359 ≡ Added

-- An original is looked after again in a day, or in ten minutes if an archive gave no harvest; sooner if a day is less.
pub record AreNotes : Type 0 where
  pub whole : noted_second 86400 true 100000 ≡ 100000
  pub young : is_due (Some (noted_second 86400 false 100000)) 86400 100599 ≡ false
  pub old : is_due (Some (noted_second 86400 false 100000)) 86400 100600 ≡ true
  pub short : noted_second 300 false 100000 ≡ 100000

-- How many more may be taken in the minute, once a wish is over. One that asked nobody is given back to its own minute.
pub record AreEnds : Type 0 where
  pub asked : (allowance_after (with_left 1) (codes "w") true).left ≡ 1
  pub asked_nobody : (allowance_after (with_left 1) (codes "w") false).left ≡ 2
  pub no_wish : (allowance_after (with_left 1) (codes "n") false).left ≡ 1
  pub no_more : (allowance_after (with_left 2) (codes "w") false).left ≡ 2
  pub later_minute : (allowance_after in_the_next (codes "w") false).left ≡ 1

-- each of them
pub record AreExamples : Type 0 where
  pub decisions : AreDecisions
  pub notes : AreNotes
  pub ends : AreEnds
