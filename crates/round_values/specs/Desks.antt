-- Which job of granted wishes comes next, and what becomes of it.
use Rattle.std.specs.Prelude.{◌≡◌, ◌==◌, ◌∷◌, ℕ, Bool, true, List, [], Option, Some, None, IsSomeAnd, MatchOption, unwrap_or}
use Rattle.std.specs.Prelude.{bytes_eq, not, position, remove, slice_get, slice_set}
use Rattle.wish_list.specs.declared.jobs.Ask.{Ask}
use Rattle.wish_list.specs.declared.jobs.Granted.{Granted}
use Rattle.wish_list.specs.Jobs.{ChangesAt, has_ready}
use Rattle.wish_list.specs.Stages.{ready}
use Rattle.wish_list.specs.Stages.Act.{Asks}
use Rattle.round_values.specs.declared.desks.Again.{Again as AgainJob}
use Rattle.round_values.specs.declared.desks.Desk.{Desk}
use Rattle.round_values.specs.declared.desks.Place.{Place}
use Rattle.round_values.specs.declared.desks.Place.TheVariants.{First, Again}
use Rattle.round_values.specs.declared.desks.WishJob.{WishJob}

-- of the oldest wish that has an archive which may be asked, the first such archive
pub record IsFirst (may : List Bool) (wishes : List Granted) (ask : Ask) (job : WishJob) : Type 0 where
  pub oldest : position (has_ready may) wishes ≡ Some ask.wish
  pub archive : job.archive ≡ ask.archive
  pub own : IsSomeAnd (slice_get wishes ask.wish)
      (λ granted. (granted.original ≡ job.original) × (ready may granted.stages ≡ Some ask.archive))

-- no wish has an archive that may be asked, and this job comes again, whose archive may be
pub record IsAgain (may : List Bool) (wishes : List Granted) (again : List AgainJob) (place : ℕ) (job : WishJob) : Type 0 where
  pub none : position (has_ready may) wishes ≡ None
  pub own : IsSomeAnd (slice_get again place) (λ it. (it.archive ≡ job.archive) × (it.original ≡ job.original))
  pub may_be : slice_get may job.archive ≡ Some true

-- the job comes next
abbrev pub IsNext : Desk → WishJob → Place → Type 0
IsNext desk job (First ask) = IsFirst desk.may.items desk.jobs.wishes.items ask job
IsNext desk job (Again place) = IsAgain desk.may.items desk.jobs.wishes.items desk.again.items place job

-- the archive of the job is asked: for the wish, or for what comes again, which is taken out
abbrev pub IsAsked : Desk → Desk → Place → Type 0
IsAsked old new (First ask) = (asked : Bool) × ChangesAt ask.wish (Asks ask.archive) asked old.jobs.wishes.items new.jobs.wishes.items
    × (new.again.items ≡ old.again.items)
IsAsked old new (Again place) = (new.jobs.wishes.items ≡ old.jobs.wishes.items) × (new.again.items ≡ remove old.again.items place)

-- what is noted of this archive changes so, if there is a place for it, and nothing of any other
abbrev pub IsNoted : {A : Type 0} → ℕ → (A → A) → List A → List A → Type 0
IsNoted archive change old new = MatchOption (slice_get old archive) (new ≡ old) (λ noted. new ≡ slice_set old archive (change noted))

-- from this moment on, unless it was so before
abbrev pub from_now : {M : Type 0} → M → Option M → Option M
from_now now since = Some (unwrap_or since now)

-- not any longer
abbrev pub not_so : {A M : Type 0} → A → Option M
not_so noted = None

-- the job is one of this archive, or isn't
abbrev pub is_of : ℕ → AgainJob → Bool
is_of archive job = job.archive == archive

abbrev pub isnt_of : ℕ → AgainJob → Bool
isnt_of archive job = not (is_of archive job)

-- it is another original than this
abbrev pub is_another : List ℕ → List ℕ → Bool
is_another original other = not (bytes_eq original other)

-- an archive that is noted keeps the moment that was noted first, until that ends; no other changes
pub record AreNoted : Type 0 where
  pub first : IsNoted 1 (from_now {M = ℕ} 9) (None ∷ None ∷ []) (None ∷ Some 9 ∷ [])
  pub later : IsNoted 0 (from_now {M = ℕ} 9) (Some 4 ∷ None ∷ []) (Some 4 ∷ None ∷ [])
  pub ended : IsNoted {A = Option ℕ} 0 not_so (Some 4 ∷ Some 5 ∷ []) (None ∷ Some 5 ∷ [])
  pub elsewhere : IsNoted 2 (from_now {M = ℕ} 9) (None ∷ []) (None ∷ [])
