-- What becomes of a wish.
use Rattle.std.specs.Prelude.{ℕ, ◌-◌, ◌+◌, ◌^◌, min, Bool, true, false, not, ◌&&◌, ◌||◌, ◌==◌, List, [], ◌∷◌, ◌++◌, length, nat_lt, nat_le, count_by}
use Rattle.std.specs.Prelude.{Option, Some, None, if◌then◌else◌}
use Rattle.original_sets.specs.Sets as set
use Rattle.wish_list.specs.Allowance.{after_giving, after_taking, left_at}
use Rattle.wish_list.specs.declared.allowance.Allowance.{Allowance}
use Rattle.wish_list.specs.Queue.{is_unshown, most_wishes, stands, stands_from}
use Rattle.wish_list.specs.Tables.{Seconds, after_asking, after_noting, second_of}
use Rattle.wish_list.specs.declared.queue.Wish.{Wish}
use Rattle.wish_list.specs.declared.wishes.Wishes.{Wishes}
use Rattle.wish_list.specs.declared.wishes.Decision.{Decision}
use Rattle.wish_list.specs.declared.wishes.Decision.TheVariants.{Added, Waits, Fresh, Full, Late, Listed}

-- an original that was last looked after in this second, if at all, is to be looked after again: so many seconds have
-- passed, or the second is ahead of the clock by as many
abbrev pub is_due : Option ℕ → ℕ → ℕ → Bool
is_due None again now = true
is_due (Some second) again now = nat_le again (now - second) || nat_le again (second - now)

-- when originals were looked after of which something is shown, or nothing
abbrev pub seconds_for : Wishes → Bool → Seconds
seconds_for w true = w.shown
seconds_for w false = w.unshown

-- one more wish may stand in the queue, for an original of which something is shown or nothing
abbrev pub has_room : Wishes → Bool → Bool
has_room w is_shown =
    nat_lt (length w.queue) most_wishes && (is_shown || nat_lt (count_by is_unshown w.queue) w.room)

-- what becomes of a wish in this second for an original that is to be looked after: the first of these that fits
abbrev pub due_decision : Wishes → List ℕ → Bool → ℕ → Decision
due_decision w original is_shown now =
    if is_shown && set.stands w.listed original then Listed
    else if stands w.queue original then Waits
    else if not (has_room w is_shown) then Full
    else if left_at w.allowance now == 0 then Late
    else Added

-- and of any wish
abbrev pub decision : Wishes → List ℕ → Bool → ℕ → Decision
decision w original is_shown now =
    if is_due (second_of (seconds_for w is_shown) original) w.again now
    then due_decision w original is_shown now
    else Fresh

-- the original stands first then among those that are remembered
abbrev pub is_use : Decision → Bool
is_use Added = true
is_use Waits = true
is_use Fresh = true
is_use Full = true
is_use Late = true
is_use Listed = false

-- it was looked after a short time ago
abbrev pub is_fresh : Decision → Bool
is_fresh Added = false
is_fresh Waits = false
is_fresh Fresh = true
is_fresh Full = false
is_fresh Late = false
is_fresh Listed = false

-- it was, or rounds look after it
abbrev pub is_settled : Decision → Bool
is_settled Added = false
is_settled Waits = false
is_settled Fresh = true
is_settled Full = false
is_settled Late = false
is_settled Listed = true

-- a wish that is taken, and counts to this minute
abbrev pub new_wish : List ℕ → Bool → ℕ → Wish
new_wish original is_shown minute =
    record { original = original; is_shown = is_shown; is_granted = false; minute = minute }

-- the queue then, with this wish
abbrev pub with_wish : Decision → List Wish → Wish → List Wish
with_wish Added queue wish = queue ++ wish ∷ []
with_wish Waits queue wish = queue
with_wish Fresh queue wish = queue
with_wish Full queue wish = queue
with_wish Late queue wish = queue
with_wish Listed queue wish = queue

-- and how many more may be taken
abbrev pub spent : Decision → Allowance → ℕ → Allowance
spent Added a now = after_taking a now
spent Waits a now = a
spent Fresh a now = a
spent Full a now = a
spent Late a now = a
spent Listed a now = a

-- how many more may be taken once the wish for an original is over: one more than before, if no archive was asked for
-- it and it counts to the minute of the last wish that was taken
abbrev pub allowance_after : Wishes → List ℕ → Bool → Allowance
allowance_after w original is_asked =
    if not is_asked && stands_from w.queue original w.allowance.minute then after_giving w.allowance else w.allowance

-- how many were turned away then
abbrev pub turned_away : Decision → ℕ → ℕ
turned_away Full count = min (count + 1) (2 ^ 64 - 1)
turned_away Added count = count
turned_away Waits count = count
turned_away Fresh count = count
turned_away Late count = count
turned_away Listed count = count

-- and how many came too late
abbrev pub late : Decision → ℕ → ℕ
late Late count = min (count + 1) (2 ^ 64 - 1)
late Added count = count
late Waits count = count
late Fresh count = count
late Full count = count
late Listed count = count

-- the originals then of which something is shown: one that was asked for stands first
abbrev pub asked_if : Bool → Seconds → List ℕ → Seconds
asked_if true table original = after_asking table original
asked_if false table original = table

-- the second to note for an original that was looked after now: so that it is to be looked after again if an archive
-- gave no harvest, in ten minutes, or in `again` seconds if that is less
abbrev pub noted_second : ℕ → Bool → ℕ → ℕ
noted_second again true now = now
noted_second again false now = now - (again - 600)

-- once an original was looked after in this second, of which something is shown or nothing
abbrev pub with_note : Wishes → List ℕ → Bool → ℕ → Wishes
with_note w original true second = record w { shown = after_noting w.shown original second }
with_note w original false second = record w { unshown = after_noting w.unshown original second }
