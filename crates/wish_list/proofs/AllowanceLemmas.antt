-- How many wishes of a minute are taken.
use Rattle.std.proofs.Common.{◌≡◌, ◌⊎◌, ℕ, suc, ◌+◌, ◌<◌, ◌≤◌, Bool, true, false, not, ◌&&◌, ◌||◌, List, [], ◌∷◌, refl, sym, ap, ◌∙◌, inl, inr, arith}
use Rattle.std.specs.Prelude.{◌==◌, ◌/◌, nat_lt, if◌then◌else◌}
use Rattle.std.proofs.lemmas.Bool.{cases_Bool, true≢false}
use Rattle.std.proofs.lemmas.Bool.Decides.{eqb_tells, leb_tells}
use Rattle.wish_list.specs.declared.allowance.Allowance.{Allowance}
use Rattle.wish_list.specs.Allowance.{Turn, AreFewInAMinute, IsSteady, after, after_giving, after_taking, allowance_of, given, gives, is_set_back, left_at, may_take, minute_at, one_if, taken, takes}
use Rattle.wish_list.specs.Allowance.Turn.{Comes, GivesBack}

-- how many more wishes of a minute may be taken
abbrev bound : ℕ → Allowance → ℕ
bound minute a = if a.minute == minute then a.left else if nat_lt a.minute minute then a.most else 0

same : (minute : ℕ) (a : Allowance) → (a.minute == minute) ≡ true → bound minute a ≡ a.left
same minute a is = ap (λ (b : Bool). if b then a.left else if nat_lt a.minute minute then a.most else 0) is

other : (minute : ℕ) (a : Allowance) (b : Bool) → (a.minute == minute) ≡ false → nat_lt a.minute minute ≡ b → bound minute a ≡ (if b then a.most else 0)
other minute a b isnt less = ap (λ (c : Bool). if c then a.left else if nat_lt a.minute minute then a.most else 0) isnt ∙ ap (λ (c : Bool). if c then a.most else 0) less

-- the last wish's minute is this one, an earlier one or a later one
abbrev Tells : ℕ → Allowance → Type 0
Tells minute a = ((a.minute ≡ minute) × (bound minute a ≡ a.left))
    ⊎ (((a.minute < minute) × ((a.minute == minute) ≡ false) × (bound minute a ≡ a.most)) ⊎ ((minute < a.minute) × ((a.minute == minute) ≡ false) × (bound minute a ≡ 0)))

tells : (minute : ℕ) (a : Allowance) → Tells minute a
tells minute a = elim (eqb_tells a.minute minute) [
  | inl is ↦ inl (is.1, same minute a is.0)
  | inr isnt ↦ elim (leb_tells (suc a.minute) minute) [
    | inl less ↦ inr (inl (omega (arith, less.1), isnt.0, other minute a true isnt.0 less.0))
    | inr more ↦ let ne = isnt.1 in inr (inr (omega (arith, more.1, ne), isnt.0, other minute a false isnt.0 more.0))
  ]
]

later : (minute : ℕ) (a : Allowance) → a.minute < minute → bound minute a ≡ a.most
later minute a less = elim (tells minute a) [
  | inl is ↦ absurd (omega (arith, less, is.0))
  | inr r ↦ elim r [ inl l ↦ l.2 | inr m ↦ absurd (omega (arith, less, m.0)) ]
]

own : (minute : ℕ) (a : Allowance) → a.minute ≡ minute → bound minute a ≡ a.left
own minute a is = elim (tells minute a) [
  | inl at ↦ at.1
  | inr r ↦ elim r [ inl l ↦ absurd (omega (arith, is, l.0)) | inr m ↦ absurd (omega (arith, is, m.0)) ]
]

at_most_one : (b : Bool) → one_if b ≤ 1
at_most_one true = omega arith
at_most_one false = omega arith

at_least_one : (n : ℕ) → not (n == 0) ≡ true → 1 ≤ n
at_least_one n some = elim (eqb_tells n 0) [
  | inl none ↦ absurd (true≢false (sym some ∙ ap (λ (b : Bool). not b) none.0))
  | inr more ↦ let ne = more.1 in omega (arith, ne)
]

-- a wish counts to a new minute, or to that of the last one
new_tells : (a : Allowance) (now : ℕ) → is_set_back a now ≡ false
    → ((a.minute < minute_at a now) × (left_at a now ≡ a.most)) ⊎ ((minute_at a now ≡ a.minute) × (left_at a now ≡ a.left))
new_tells a now steady = elim (leb_tells (suc a.minute) (now / 60)) [
  | inl new ↦
      let is : (nat_lt a.minute (now / 60) || is_set_back a now) ≡ true = ap (λ (b : Bool). b || is_set_back a now) new.0 in
      let minute : minute_at a now ≡ now / 60 = ap (λ (b : Bool). if b then now / 60 else a.minute) is in
      inl (omega (arith, minute, new.1), ap (λ (b : Bool). if b then a.most else a.left) is)
  | inr old ↦
      let isnt : (nat_lt a.minute (now / 60) || is_set_back a now) ≡ false = ap (λ (b : Bool). b || is_set_back a now) old.0 ∙ steady in
      inr (ap (λ (b : Bool). if b then now / 60 else a.minute) isnt, ap (λ (b : Bool). if b then a.most else a.left) isnt)
]

taking : (minute : ℕ) (a : Allowance) (now : ℕ) → a.left ≤ a.most → is_set_back a now ≡ false → may_take a now ≡ true
    → one_if (minute_at a now == minute) + bound minute (after_taking a now) ≤ bound minute a
taking minute a now few steady may =
    let some : 1 ≤ left_at a now = at_least_one (left_at a now) may in
    let one : one_if (minute_at a now == minute) ≤ 1 = at_most_one (minute_at a now == minute) in
    elim (tells minute (after_taking a now)) [
      | inl is ↦ elim (new_tells a now steady) [
        | inl new ↦
            let before : bound minute a ≡ a.most = later minute a (omega (arith, new.0, is.0)) in
            omega (arith, some, one, is.1, new.1, before)
        | inr old ↦
            let before : bound minute a ≡ a.left = own minute a (sym old.0 ∙ is.0) in
            omega (arith, some, one, is.1, old.1, before)
      ]
      | inr r ↦ elim r [
        | inl less ↦
            let none : one_if (minute_at a now == minute) ≡ 0 = ap (λ (b : Bool). one_if b) less.1 in
            elim (new_tells a now steady) [
              | inl new ↦
                  let before : bound minute a ≡ a.most = later minute a (omega (arith, new.0, less.0)) in
                  omega (arith, none, less.2, before)
              | inr old ↦
                  let before : bound minute a ≡ a.most = later minute a (omega (arith, old.0, less.0)) in
                  omega (arith, none, less.2, before)
            ]
        | inr more ↦
            let none : one_if (minute_at a now == minute) ≡ 0 = ap (λ (b : Bool). one_if b) more.1 in
            omega (arith, none, more.2)
      ]
    ]

comes_if : (minute : ℕ) (a : Allowance) (now : ℕ) (may : Bool) → a.left ≤ a.most → is_set_back a now ≡ false → may_take a now ≡ may
    → one_if (may && minute_at a now == minute) + bound minute (if may then after_taking a now else a) ≤ bound minute a
comes_if minute a now true few steady is = taking minute a now few steady is
comes_if minute a now false few steady is = omega arith

comes : (minute : ℕ) (a : Allowance) (now : ℕ) → a.left ≤ a.most → is_set_back a now ≡ false
    → takes minute (Comes now) a + bound minute (after (Comes now) a) ≤ bound minute a
comes minute a now few steady = comes_if minute a now (may_take a now) few steady refl

gives_back : (minute : ℕ) (a : Allowance) → bound minute (after_giving a) ≤ bound minute a + gives minute GivesBack a
gives_back minute a = elim (cases_Bool (a.minute == minute)) [
  | inl is ↦
      let one : gives minute GivesBack a ≡ 1 = ap (λ (b : Bool). one_if b) is in
      omega (arith, one, same minute a is, same minute (after_giving a) is)
  | inr isnt ↦
      let before = other minute a (nat_lt a.minute minute) isnt refl in
      let then_is = other minute (after_giving a) (nat_lt a.minute minute) isnt refl in
      omega (arith, before, then_is)
]

within : (b : Bool) (left most : ℕ) → left ≤ most → (if b then most else left) ≤ most
within true left most few = omega arith
within false left most few = few

kept_if : (may : Bool) (a : Allowance) (now : ℕ) → a.left ≤ a.most → (if may then after_taking a now else a).left ≤ (if may then after_taking a now else a).most
kept_if true a now few =
    let most : left_at a now ≤ a.most = within (nat_lt a.minute (now / 60) || is_set_back a now) a.left a.most few in
    omega (arith, most)
kept_if false a now few = few

few_left : (turns : List Turn) (minute : ℕ) (a : Allowance) → a.left ≤ a.most → IsSteady turns a → taken minute turns a ≤ bound minute a + given minute turns a
few_left [] minute a few steady = omega arith
few_left (Comes now ∷ turns) minute a few steady =
    let first : takes minute (Comes now) a + bound minute (after (Comes now) a) ≤ bound minute a = comes minute a now few steady.0 in
    let rest : taken minute turns (after (Comes now) a) ≤ bound minute (after (Comes now) a) + given minute turns (after (Comes now) a) =
    few_left turns minute (after (Comes now) a) (kept_if (may_take a now) a now few) steady.1 in
    omega (arith, first, rest)
few_left (GivesBack ∷ turns) minute a few steady =
    let first : bound minute (after_giving a) ≤ bound minute a + gives minute GivesBack a = gives_back minute a in
    let rest : taken minute turns (after_giving a) ≤ bound minute (after_giving a) + given minute turns (after_giving a) =
    few_left turns minute (after_giving a) (omega arith) steady in
    omega (arith, first, rest)

pub few_in_a_minute : AreFewInAMinute
few_in_a_minute most turns minute steady =
    let all : taken minute turns (allowance_of most) ≤ bound minute (allowance_of most) + given minute turns (allowance_of most) =
    few_left turns minute (allowance_of most) (omega arith) steady in
    let start : bound minute (allowance_of most) ≤ most = elim (tells minute (allowance_of most)) [
      | inl is ↦ omega (arith, is.1)
      | inr r ↦ elim r [ inl l ↦ omega (arith, l.2) | inr m ↦ omega (arith, m.2) ]
    ] in
    omega (arith, all, start)
