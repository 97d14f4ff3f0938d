-- How many wishes may be taken in a minute.
use Rattle.std.specs.Prelude.{◌≡◌, ℕ, ◌+◌, ◌-◌, ◌/◌, ◌≤◌, min, nat_lt, ◌==◌, Bool, true, false, not, ◌||◌, ◌&&◌, List, [], ◌∷◌, if◌then◌else◌, ⊤}
use Rattle.wish_list.specs.declared.allowance.Allowance.{Allowance}

-- before any wish was taken
abbrev pub allowance_of : ℕ → Allowance
allowance_of most = record { most = most; minute = 0; left = most }

-- the clock was set back by more than a minute since the last wish was taken
abbrev pub is_set_back : Allowance → ℕ → Bool
is_set_back a now = nat_lt (now / 60 + 1) a.minute

-- a new minute has begun by this second: a later one, or the clock was set back
abbrev pub is_new : Allowance → ℕ → Bool
is_new a now = nat_lt a.minute (now / 60) || is_set_back a now

-- the minute to which a wish counts that is taken in this second
abbrev pub minute_at : Allowance → ℕ → ℕ
minute_at a now = if is_new a now then now / 60 else a.minute

-- how many more may be taken in this second
abbrev pub left_at : Allowance → ℕ → ℕ
left_at a now = if is_new a now then a.most else a.left

-- once a wish was taken in this second
abbrev pub after_taking : Allowance → ℕ → Allowance
after_taking a now = record { most = a.most; minute = minute_at a now; left = left_at a now - 1 }

-- once a wish of the last minute doesn't count after all
abbrev pub after_giving : Allowance → Allowance
after_giving a = record a { left = min (a.left + 1) a.most }

-- what happens to it: a wish comes in a second, and is taken if one may be; one of the last minute is given back
pub data Turn : Type 0 where
  Comes : ℕ → Turn
  GivesBack : Turn

abbrev pub may_take : Allowance → ℕ → Bool
may_take a now = not (left_at a now == 0)

abbrev pub after : Turn → Allowance → Allowance
after (Comes now) a = if may_take a now then after_taking a now else a
after GivesBack a = after_giving a

abbrev pub one_if : Bool → ℕ
one_if true = 1
one_if false = 0

-- how many wishes of a minute this takes
abbrev pub takes : ℕ → Turn → Allowance → ℕ
takes minute (Comes now) a = one_if (may_take a now && minute_at a now == minute)
takes minute GivesBack a = 0

-- and how many it gives back
abbrev pub gives : ℕ → Turn → Allowance → ℕ
gives minute (Comes now) a = 0
gives minute GivesBack a = one_if (a.minute == minute)

-- how many wishes of a minute are taken in all
abbrev pub taken : ℕ → List Turn → Allowance → ℕ
taken minute [] a = 0
taken minute (turn ∷ turns) a = takes minute turn a + taken minute turns (after turn a)

-- and how many of them are given back
abbrev pub given : ℕ → List Turn → Allowance → ℕ
given minute [] a = 0
given minute (turn ∷ turns) a = gives minute turn a + given minute turns (after turn a)

-- The clock isn't set back by more than a minute. Wishes may come in any order of their seconds otherwise.
abbrev pub IsSteady : List Turn → Allowance → Type 0
IsSteady [] a = ⊤
IsSteady (Comes now ∷ turns) a = (is_set_back a now ≡ false) × IsSteady turns (after (Comes now) a)
IsSteady (GivesBack ∷ turns) a = IsSteady turns (after GivesBack a)

-- Of all wishes of a minute, no more are taken than may be, beside those that are given back.
abbrev pub AreFewInAMinute : Type 0
AreFewInAMinute = (most : ℕ) (turns : List Turn) (minute : ℕ) → IsSteady turns (allowance_of most)
    → taken minute turns (allowance_of most) ≤ most + given minute turns (allowance_of most)
