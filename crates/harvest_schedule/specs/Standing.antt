-- How an archive stands: what is left of its list, what is out, and when it may be asked.
use Rattle.std.specs.Prelude.{ℕ, ◌+◌, ◌≤◌, Bool, List, length}
use Rattle.harvest_schedule.specs.declared.moods.Pace.{Pace}
use Rattle.harvest_schedule.specs.declared.moods.Mood.{Mood}

pub record Standing : Type 0 where
  pub pace : Pace
  -- how many jobs its list has, one for each original
  pub originals : ℕ
  -- the first original that is neither handed out nor passed over yet
  pub next : ℕ
  -- the originals whose walks are out
  pub out : List ℕ
  -- the originals that come again
  pub again : List ℕ
  -- how many walks beyond the list are out
  pub wished : ℕ
  pub mood : Mood
  -- the time before which it isn't asked, by its pace
  pub rest : ℕ
  -- a walk beyond the list has begun since a job was handed out or passed over: the list goes next
  pub list_next : Bool

-- how many walks are out
abbrev pub walks : Standing → ℕ
walks s = length s.out + s.wished

-- What always holds: no more walks are out than may be, jobs that are out or come again are no more than that, and were
-- handed out before, and no more were handed out than there are.
pub record IsSound (s : Standing) : Type 0 where
  pub few : length s.out + s.wished ≤ s.pace.at_once
  pub room : length s.out + length s.again ≤ s.pace.at_once
  pub began : length s.out + length s.again ≤ s.next
  pub within : s.next ≤ s.originals
