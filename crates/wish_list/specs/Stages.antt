-- How far each archive is with a wish.
use Rattle.std.specs.Prelude.{◌≡◌, ℕ, ◌+◌, ◌==◌, Bool, true, false, not, ◌&&◌, List, [], ◌∷◌, map, Option, None, Some, position, slice_get, slice_set, zip, if◌then◌else◌}
use Rattle.std.specs.List.{list_any}
use Rattle.wish_list.specs.declared.stages.Stage.{Stage}
use Rattle.wish_list.specs.declared.stages.Stage.TheVariants.{Waits, Out, Has, HasNone, Failed, Skipped, Spared}
use Rattle.wish_list.specs.declared.stages.WishAnswer.{WishAnswer}
use Rattle.wish_list.specs.declared.stages.WishAnswer.TheVariants.{Copies, NoCopies, NoHarvest}
use Rattle.wish_list.specs.declared.stages.Outcome.{Outcome}

-- when a wish is granted, each archive is to be asked, or is spared
abbrev pub stage_at_first : Bool → Stage
stage_at_first true = Spared
stage_at_first false = Waits

-- it is to be asked
unfoldable pub waits : Stage → Bool
waits Waits = true
waits Out = false
waits Has = false
waits HasNone = false
waits Failed = false
waits Skipped = false
waits Spared = false

-- it is being asked
unfoldable pub is_out : Stage → Bool
is_out Waits = false
is_out Out = true
is_out Has = false
is_out HasNone = false
is_out Failed = false
is_out Skipped = false
is_out Spared = false

-- it is to be asked, or is being asked
unfoldable pub is_open : Stage → Bool
is_open Waits = true
is_open Out = true
is_open Has = false
is_open HasNone = false
is_open Failed = false
is_open Skipped = false
is_open Spared = false

-- it was asked, and has copies
unfoldable pub has : Stage → Bool
has Waits = false
has Out = false
has Has = true
has HasNone = false
has Failed = false
has Skipped = false
has Spared = false

-- it wasn't asked that was to be, or gave no harvest
unfoldable pub is_missed : Stage → Bool
is_missed Waits = false
is_missed Out = false
is_missed Has = false
is_missed HasNone = false
is_missed Failed = true
is_missed Skipped = true
is_missed Spared = false

-- it was asked
abbrev pub was_asked : Stage → Bool
was_asked Waits = false
was_asked Out = true
was_asked Has = true
was_asked HasNone = true
was_asked Failed = true
was_asked Skipped = false
was_asked Spared = false

-- how far an archive is that gave this
abbrev pub stage_of : WishAnswer → Stage
stage_of Copies = Has
stage_of NoCopies = HasNone
stage_of NoHarvest = Failed

-- what happens to the archives with a wish: one is asked, gives an answer, or is skipped
pub data Act : Type 0 where
  Asks : ℕ → Act
  Comes : ℕ → WishAnswer → Act
  Skips : ℕ → Act

-- there is such an archive, and this holds of it
abbrev pub holds : (Stage → Bool) → Option Stage → Bool
holds test None = false
holds test (Some stage) = test stage

-- it can happen: what is to be asked may be asked or skipped, and what is being asked may answer
abbrev pub can : Act → List Stage → Bool
can (Asks archive) stages = holds waits (slice_get stages archive)
can (Comes archive answer) stages = holds is_out (slice_get stages archive)
can (Skips archive) stages = holds waits (slice_get stages archive)

-- what it changes
abbrev pub stages_after : Act → List Stage → List Stage
stages_after (Asks archive) stages = slice_set stages archive Out
stages_after (Comes archive answer) stages = slice_set stages archive (stage_of answer)
stages_after (Skips archive) stages = slice_set stages archive Skipped

-- the archives then: if it can't happen, nothing changes
abbrev pub after : Act → List Stage → List Stage
after act stages = if can act stages then stages_after act stages else stages

-- the first archive that is to be asked and may be
abbrev pub ready : List Bool → List Stage → Option ℕ
ready may stages = position (λ p. waits p.0 && p.1) (zip stages may)

-- no archive is to be asked or being asked
abbrev pub is_over : List Stage → Bool
is_over stages = not (list_any is_open stages)

-- what came of the wish
abbrev pub outcome_of : List Stage → Outcome
outcome_of stages = record {
  is_found = list_any has stages;
  is_whole = not (list_any is_missed stages);
  is_asked = list_any was_asked stages;
}

-- all that happens to the archives of a wish, from the time when it is granted
abbrev pub IsRun : List Stage → List Act → List Stage → Type 0
IsRun start [] end = start ≡ end
IsRun start (act ∷ acts) end = (can act start ≡ true) × IsRun (stages_after act start) acts end

-- how often an archive is asked by this
abbrev pub asks : ℕ → Act → ℕ
asks archive (Asks other) = if archive == other then 1 else 0
asks archive (Comes other answer) = 0
asks archive (Skips other) = 0

-- and by all of these
abbrev pub times_asked : ℕ → List Act → ℕ
times_asked archive [] = 0
times_asked archive (act ∷ acts) = asks archive act + times_asked archive acts

-- Each archive is asked once or never, once if its stage says that it was: none is asked that is spared or skipped,
-- and none twice.
abbrev pub AreAskedOnce : Type 0
AreAskedOnce = (spared : List Bool) (acts : List Act) (end : List Stage) (archive : ℕ)
    → IsRun (map stage_at_first spared) acts end
    → times_asked archive acts ≡ (if holds was_asked (slice_get end archive) then 1 else 0)
