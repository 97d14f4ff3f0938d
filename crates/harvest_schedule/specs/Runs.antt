-- Runs: all calls of a schedule, in order, and what happens to one archive by them.
use Rattle.std.specs.Prelude.{◌≡◌, ◌⊎◌, ⊤, ℕ, ◌+◌, ◌<◌, ◌≤◌, ◌==◌, Bool, List, [], ◌∷◌, length, Some, None, IfSome, IsSome, map, slice_get, count_by, if◌then◌else◌}
use Rattle.harvest_schedule.specs.declared.moods.Limits.{Limits}
use Rattle.harvest_schedule.specs.declared.moods.Pace.{Pace}
use Rattle.harvest_schedule.specs.declared.moods.Mood.{Mood}
use Rattle.harvest_schedule.specs.declared.moods.Mood.TheVariants.{Awake, Aside, Tried, Dormant, Probed}
use Rattle.harvest_schedule.specs.declared.moods.Verdict.{Verdict}
use Rattle.harvest_schedule.specs.declared.moods.Verdict.TheVariants.{Answered, There, Failed, Unknown, Busy, Later}
use Rattle.harvest_schedule.specs.Moods.{SleepsAt, comes_again, later}
use Rattle.harvest_schedule.specs.Standing.{Standing, walks}
use Rattle.harvest_schedule.specs.Lanes.{IsOver, IsReady, after_begin, new_standing, left_of, time_after}
use Rattle.harvest_schedule.specs.Steps.{Act, Begun, Can, Does, Ended, Handed, Passed, WalkBegun, WalkEnded, after_act}

-- a call that changed something: something happened to an archive, or a new round began for all
pub data Call : Type 0 where
  Of : ℕ → Act → Call
  Begins : ℕ → Call

-- the call makes the second standings of the first
abbrev pub Makes : Limits → Call → List Standing → List Standing → Type 0
Makes limits (Of archive act) old new = Does limits archive act old new
Makes limits (Begins originals) old new =
    ((archive : ℕ) (s : Standing) → slice_get old archive ≡ Some s → s.out ≡ []) × (new ≡ map (after_begin originals) old)

-- the calls make the second standings of the first, one after the other
abbrev pub Runs : Limits → List Call → List Standing → List Standing → Type 0
Runs limits [] old new = new ≡ old
Runs limits (call ∷ calls) old new = (next : List Standing) × Makes limits call old next × Runs limits calls next new

-- what happens to the archive by calls, in order
abbrev pub acts_of : ℕ → List Call → List Act
acts_of archive [] = []
acts_of archive (Of other act ∷ calls) =
    if other == archive then act ∷ acts_of archive calls else acts_of archive calls
acts_of archive (Begins originals ∷ calls) = Begun originals ∷ acts_of archive calls

-- each act can happen to the archive where the ones before led, and together they lead it to where it stands
abbrev pub Leads : Limits → List Act → Standing → Standing → Type 0
Leads limits [] old new = new ≡ old
Leads limits (act ∷ acts) old new = Can act old × Leads limits acts (after_act limits act old) new

-- Each archive stands where its own acts lead: what happens to the others doesn't change it.
abbrev pub EachIsLed : Type 0
EachIsLed = (limits : Limits) (calls : List Call) (old new : List Standing) (archive : ℕ) (s t : Standing)
    → Runs limits calls old new → slice_get old archive ≡ Some s → slice_get new archive ≡ Some t
    → Leads limits (acts_of archive calls) s t

-- ---- counts

-- how often it happens
abbrev pub times : (Act → ℕ) → List Act → ℕ
times f [] = 0
times f (act ∷ acts) = f act + times f acts

abbrev pub one_if : Bool → ℕ
one_if b = if b then 1 else 0

-- the job of an original is handed out; it is passed over; its walk ends; its walk ends so that it comes again; it is
-- done with: passed over, or its walk ends otherwise
abbrev pub hands : ℕ → Act → ℕ
hands k (Handed now original) = one_if (original == k)
hands k (Passed original) = 0
hands k (Ended now original verdict) = 0
hands k (WalkBegun now) = 0
hands k (WalkEnded now verdict) = 0
hands k (Begun originals) = 0

abbrev pub passes : ℕ → Act → ℕ
passes k (Handed now original) = 0
passes k (Passed original) = one_if (original == k)
passes k (Ended now original verdict) = 0
passes k (WalkBegun now) = 0
passes k (WalkEnded now verdict) = 0
passes k (Begun originals) = 0

abbrev pub ends : ℕ → Act → ℕ
ends k (Handed now original) = 0
ends k (Passed original) = 0
ends k (Ended now original verdict) = one_if (original == k)
ends k (WalkBegun now) = 0
ends k (WalkEnded now verdict) = 0
ends k (Begun originals) = 0

abbrev pub comes : Limits → ℕ → Act → ℕ
comes limits k (Handed now original) = 0
comes limits k (Passed original) = 0
comes limits k (Ended now original verdict) = if comes_again limits verdict then one_if (original == k) else 0
comes limits k (WalkBegun now) = 0
comes limits k (WalkEnded now verdict) = 0
comes limits k (Begun originals) = 0

abbrev pub settles : Limits → ℕ → Act → ℕ
settles limits k (Handed now original) = 0
settles limits k (Passed original) = one_if (original == k)
settles limits k (Ended now original verdict) = if comes_again limits verdict then 0 else one_if (original == k)
settles limits k (WalkBegun now) = 0
settles limits k (WalkEnded now verdict) = 0
settles limits k (Begun originals) = 0

-- a walk begins, of a job or beyond the list; one ends
abbrev pub begins : Act → ℕ
begins (Handed now original) = 1
begins (Passed original) = 0
begins (Ended now original verdict) = 0
begins (WalkBegun now) = 1
begins (WalkEnded now verdict) = 0
begins (Begun originals) = 0

abbrev pub finishes : Act → ℕ
finishes (Handed now original) = 0
finishes (Passed original) = 0
finishes (Ended now original verdict) = 1
finishes (WalkBegun now) = 0
finishes (WalkEnded now verdict) = 1
finishes (Begun originals) = 0

-- how often the original stands among these
abbrev pub count_of : ℕ → List ℕ → ℕ
count_of k xs = count_by (λ x. x == k) xs

-- ---- a round

-- it isn't the beginning of a new round
abbrev pub IsOfRound : Act → Type 0
IsOfRound (Handed now original) = ⊤
IsOfRound (Passed original) = ⊤
IsOfRound (Ended now original verdict) = ⊤
IsOfRound (WalkBegun now) = ⊤
IsOfRound (WalkEnded now verdict) = ⊤
IsOfRound (Begun originals) = ⊥

-- no new round begins
abbrev pub IsOneRound : List Act → Type 0
IsOneRound [] = ⊤
IsOneRound (act ∷ acts) = IsOfRound act × IsOneRound acts

-- a round has begun, of which nothing happened yet
pub record HasBegun (s : Standing) : Type 0 where
  pub next : s.next ≡ 0
  pub out : s.out ≡ []
  pub again : s.again ≡ []

-- What a round came to for the job of an original, by all that happened to its archive since the round began.
pub record IsFair (limits : Limits) (k : ℕ) (acts : List Act) (s : Standing) : Type 0 where
  -- it is handed out or passed over once, and once more for each time that it came again
  pub each_once : times (hands k) acts + times (passes k) acts ≤ 1 + times (comes limits k) acts
  -- jobs come in order: exactly those before the next were handed out or passed over
  pub in_order : k < s.next → 0 < times (hands k) acts + times (passes k) acts
  pub not_yet : s.next ≤ k → times (hands k) acts + times (passes k) acts ≡ 0
  -- as many of its walks ended as began, but for one that is out
  pub as_many : times (hands k) acts ≡ times (ends k) acts + count_of k s.out
  -- Before the next, it is done with once, or out, or comes again.
  pub settled : k < s.next → times (settles limits k) acts + count_of k s.out + count_of k s.again ≡ 1

abbrev pub AllFair : Type 0
AllFair = (limits : Limits) (acts : List Act) (s t : Standing) → HasBegun s → IsOneRound acts → Leads limits acts s t
    → (k : ℕ) → IsFair limits k acts t

-- Where a round is over for an archive, each job was handed out and its walk ended so that it doesn't come again, or it
-- was passed over, just once; or the archive is dormant until a later time.
abbrev pub AllRest : Type 0
AllRest = (limits : Limits) (acts : List Act) (s t : Standing) (now : ℕ) → HasBegun s → IsOneRound acts
    → Leads limits acts s t → IsOver now t
    → (k : ℕ) → k < t.originals → (times (settles limits k) acts ≡ 1) ⊎ SleepsAt now t.mood

-- a job is done with, of whatever original
abbrev pub closes : Limits → Act → ℕ
closes limits (Handed now original) = 0
closes limits (Passed original) = 1
closes limits (Ended now original verdict) = if comes_again limits verdict then 0 else 1
closes limits (WalkBegun now) = 0
closes limits (WalkEnded now verdict) = 0
closes limits (Begun originals) = 0

-- What is left of a round are its jobs without those that are done with and those that are out.
abbrev pub AllCounted : Type 0
AllCounted = (limits : Limits) (acts : List Act) (s t : Standing) → HasBegun s → IsOneRound acts → Leads limits acts s t
    → times (closes limits) acts + length t.out + left_of t ≡ t.originals

-- ---- all rounds

-- At most as many walks are out as may be, and as many ended as began, but for those.
pub record AreFew (acts : List Act) (s : Standing) : Type 0 where
  pub few : walks s ≤ s.pace.at_once
  pub as_many : times begins acts ≡ times finishes acts + walks s

abbrev pub AllFew : Type 0
AllFew = (limits : Limits) (originals : ℕ) (pace : Pace) (acts : List Act) (s : Standing)
    → Leads limits acts (new_standing originals pace) s → AreFew acts s × (s.pace ≡ pace)

-- ---- times

-- the archive is asked at this time
abbrev pub IsAsked : ℕ → Act → Type 0
IsAsked now (Handed before original) = before ≡ now
IsAsked now (Passed original) = ⊥
IsAsked now (Ended before original verdict) = ⊥
IsAsked now (WalkBegun before) = before ≡ now
IsAsked now (WalkEnded before verdict) = ⊥
IsAsked now (Begun originals) = ⊥

-- the archive is asked, or a walk of it ends, at this time
abbrev pub IsMet : ℕ → Act → Type 0
IsMet now (Handed before original) = before ≡ now
IsMet now (Passed original) = ⊥
IsMet now (Ended before original verdict) = before ≡ now
IsMet now (WalkBegun before) = before ≡ now
IsMet now (WalkEnded before verdict) = before ≡ now
IsMet now (Begun originals) = ⊥

-- An archive that is asked, or of which a walk ends, isn't asked again within the span of its pace, whatever happens
-- between, and whatever times are told.
abbrev pub AllPaced : Type 0
AllPaced = (limits : Limits) (met asking : Act) (acts : List Act) (s t : Standing) (before now : ℕ)
    → 0 < s.pace.every → IsMet before met → Leads limits (met ∷ acts) s t → IsAsked now asking → Can asking t
    → later before s.pace.every ≤ now

-- the walk didn't end with a first page
abbrev pub IsNoAnswer : Verdict → Type 0
IsNoAnswer Answered = ⊥
IsNoAnswer There = ⊤
IsNoAnswer Failed = ⊤
IsNoAnswer Unknown = ⊤
IsNoAnswer (Busy until) = ⊤
IsNoAnswer (Later until) = ⊤

-- the archive isn't asked, and no walk of it ends with an answer
abbrev pub IsQuiet : Act → Type 0
IsQuiet (Handed now original) = ⊥
IsQuiet (Passed original) = ⊤
IsQuiet (Ended now original verdict) = IsNoAnswer verdict
IsQuiet (WalkBegun now) = ⊥
IsQuiet (WalkEnded now verdict) = IsNoAnswer verdict
IsQuiet (Begun originals) = ⊤

abbrev pub AreQuiet : List Act → Type 0
AreQuiet [] = ⊤
AreQuiet (act ∷ acts) = IsQuiet act × AreQuiet acts

-- the archive is put aside or dormant until this time
abbrev pub WaitsUntil : ℕ → Mood → Type 0
WaitsUntil until (Awake failed) = ⊥
WaitsUntil until (Aside time failed) = until ≤ time
WaitsUntil until (Tried failed) = ⊥
WaitsUntil until (Dormant time named) = until ≤ time
WaitsUntil until Probed = ⊥

-- An archive that is put aside or dormant until a time isn't asked before it, unless an answer comes.
abbrev pub AllWait : Type 0
AllWait = (limits : Limits) (asking : Act) (acts : List Act) (s t : Standing) (until now : ℕ)
    → WaitsUntil until s.mood → AreQuiet acts → Leads limits acts s t → IsAsked now asking → Can asking t → until ≤ now

-- the archive asked not to be asked before this time
abbrev pub Names : ℕ → Verdict → Type 0
Names until Answered = ⊥
Names until There = ⊥
Names until Failed = ⊥
Names until Unknown = ⊥
Names until (Busy time) = time ≡ until
Names until (Later time) = time ≡ until

-- it ends a walk of the archive, which was busy until this time
abbrev pub IsBusy : ℕ → Act → Type 0
IsBusy until (Handed now original) = ⊥
IsBusy until (Passed original) = ⊥
IsBusy until (Ended now original verdict) = Names until verdict
IsBusy until (WalkBegun now) = ⊥
IsBusy until (WalkEnded now verdict) = Names until verdict
IsBusy until (Begun originals) = ⊥

-- the archive isn't asked
abbrev pub IsLeft : Act → Type 0
IsLeft (Handed now original) = ⊥
IsLeft (Passed original) = ⊤
IsLeft (Ended now original verdict) = ⊤
IsLeft (WalkBegun now) = ⊥
IsLeft (WalkEnded now verdict) = ⊤
IsLeft (Begun originals) = ⊤

abbrev pub AreLeft : List Act → Type 0
AreLeft [] = ⊤
AreLeft (act ∷ acts) = IsLeft act × AreLeft acts

-- An archive that asked not to be asked before a time isn't, whatever else comes of walks that were out, if failures
-- are counted at all.
abbrev pub AllHeeded : Type 0
AllHeeded = (limits : Limits) (busy asking : Act) (acts : List Act) (s t : Standing) (until now : ℕ)
    → IsSome limits.tolerance → IsBusy until busy → AreLeft acts → Leads limits (busy ∷ acts) s t
    → IsAsked now asking → Can asking t → until ≤ now

-- it is no end of a walk
abbrev pub IsNoEnd : Act → Type 0
IsNoEnd (Handed now original) = ⊤
IsNoEnd (Passed original) = ⊤
IsNoEnd (Ended now original verdict) = ⊥
IsNoEnd (WalkBegun now) = ⊤
IsNoEnd (WalkEnded now verdict) = ⊥
IsNoEnd (Begun originals) = ⊤

abbrev pub AreNoEnds : List Act → Type 0
AreNoEnds [] = ⊤
AreNoEnds (act ∷ acts) = IsNoEnd act × AreNoEnds acts

-- An archive that was put aside or dormant, until whatever time, is asked by one walk, and not again before a walk of
-- it has ended.
abbrev pub AllTried : Type 0
AllTried = (limits : Limits) (first asking : Act) (acts : List Act) (s t : Standing) (before now : ℕ)
    → WaitsUntil 0 s.mood → IsAsked before first → AreNoEnds acts → Leads limits (first ∷ acts) s t
    → IsAsked now asking → Can asking t → ⊥

-- ---- when a job may be handed out if nothing else happens

-- this later time is the first at which one may
pub record IsFirstTime (now : ℕ) (time : ℕ) (s : Standing) : Type 0 where
  pub later : now < time
  pub ready : IsReady time s
  pub early : (before : ℕ) → before < time → ¬ (IsReady before s)

-- The time after another is that one. Where there is none, a job that may be handed out later may be already.
abbrev pub AllTimed : Type 0
AllTimed = (now : ℕ) (s : Standing) → IfSome (time_after now s) (λ time. IsFirstTime now time s)
    × (time_after now s ≡ None → (later : ℕ) → now ≤ later → IsReady later s → IsReady now s)
