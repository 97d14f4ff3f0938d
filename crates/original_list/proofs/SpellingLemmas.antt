-- The other spellings of an original.
use Rattle.std.proofs.Common.{◌≡◌, ◌⊎◌, ◌≤◌, ℕ, Bool, true, false, not, ◌||◌, List, [], ◌∷◌, ◌++◌, length, drop, refl, sym, ap, ◌∙◌, inl, inr, arith}
use Rattle.std.specs.Prelude.{bytes_eq, codes, nat_eq, ◌==◌, if◌then◌else◌}
use Rattle.std.specs.List.{starts_with}
use Rattle.std.proofs.lemmas.Bool.{and_parts, cases_Bool, true≢false, not-true}
use Rattle.std.proofs.lemmas.Slice.Eq.{bytes_eq-Decides}
use Rattle.timegate.proofs.Promises.{front_is}
use Rattle.original_sets.specs.Sets.{stands}
use Rattle.original_list.specs.Spellings.{AreAlike, SpellingsAreAlike, SpellingsComeBack, authority, is_named, may_swap, other_spellings, others, others_behind, scheme_text, text_of}

abbrev Www : List ℕ → Bool
Www rest = starts_with nat_eq rest (codes "www.")

-- how a text is spelled, and that its spellings are those
record IsSpelled (text : List ℕ) : Type 0 where
  is_secure : Bool
  has_www : Bool
  rest : List ℕ
  text_is : text ≡ text_of is_secure has_www rest
  bare : has_www ≡ false → Www rest ≡ false
  are : other_spellings text ≡ others is_secure has_www rest

behind_true : (rest : List ℕ) → Www rest ≡ true → (base : List ℕ) × (rest ≡ codes "www." ++ base)
behind_true rest is = front_is rest (codes "www.") is

without : (is_secure : Bool) (rest : List ℕ) → Www rest ≡ false → others_behind is_secure rest ≡ others is_secure false rest
without is_secure rest is = ap (λ (b : Bool). if b then others is_secure true (drop 4 rest) else others is_secure false rest) is

spelled_behind : (text : List ℕ) (is_secure : Bool) (rest : List ℕ) → text ≡ scheme_text is_secure ++ rest → other_spellings text ≡ others_behind is_secure rest → IsSpelled text
spelled_behind text is_secure rest is are = elim (cases_Bool (Www rest)) [
  | inl www ↦
      let base = behind_true rest www in
      record {
        is_secure = is_secure;
        has_www = true;
        rest = base.0;
        text_is = is ∙ ap (λ (r : List ℕ). scheme_text is_secure ++ r) base.1;
        bare = λ e. absurd (true≢false e);
        are = are ∙ ap (others_behind is_secure) base.1;
      }
  | inr bare ↦ record {
    is_secure = is_secure;
    has_www = false;
    rest = rest;
    text_is = is;
    bare = λ _. bare;
    are = are ∙ without is_secure rest bare;
  }
]

nothing_stands : (text other : List ℕ) → other_spellings text ≡ [] → stands (other_spellings text) other ≡ true → ⊥
nothing_stands text other none there = true≢false (sym there ∙ ap (λ (xs : List (List ℕ)). stands xs other) none)

no_scheme : (text : List ℕ) → starts_with nat_eq text (codes "https://") ≡ false → starts_with nat_eq text (codes "http://") ≡ false → other_spellings text ≡ []
no_scheme text secure plain =
    ap (λ (b : Bool). if b then others_behind true (drop 8 text) else if starts_with nat_eq text (codes "http://") then others_behind false (drop 7 text) else []) secure
    ∙ ap (λ (b : Bool). if b then others_behind false (drop 7 text) else []) plain

-- what has another spelling begins with a scheme
spelled : (text other : List ℕ) → stands (other_spellings text) other ≡ true → IsSpelled text
spelled text other there = elim (cases_Bool (starts_with nat_eq text (codes "https://"))) [
  | inl secure ↦
      let behind = front_is text (codes "https://") secure in
      spelled_behind text true behind.0 behind.1 (ap other_spellings behind.1)
  | inr insecure ↦ elim (cases_Bool (starts_with nat_eq text (codes "http://"))) [
    | inl plain ↦
        let behind = front_is text (codes "http://") plain in
        spelled_behind text false behind.0 behind.1 (ap other_spellings behind.1)
    | inr other_scheme ↦ absurd (nothing_stands text other (no_scheme text insecure other_scheme) there)
  ]
]

or_cases : (a b : Bool) → (a || b) ≡ true → (a ≡ true) ⊎ (b ≡ true)
or_cases true b h = inl refl
or_cases false b h = inr h

or_left : (a b : Bool) → a ≡ true → (a || b) ≡ true
or_left a b h = ap (λ (c : Bool). c || b) h

or_right : (a b : Bool) → b ≡ true → (a || b) ≡ true
or_right true b h = refl
or_right false b h = h

-- which of at most three texts stand in a list
abbrev OneOf : Bool → Bool → List ℕ → List ℕ → List ℕ → List ℕ → Type 0
OneOf n m x y z o = (n ≡ true) × ((o ≡ x) ⊎ ((m ≡ true) × ((o ≡ y) ⊎ (o ≡ z))))

abbrev three : Bool → Bool → List ℕ → List ℕ → List ℕ → List (List ℕ)
three n m x y z = if n then x ∷ (if m then y ∷ z ∷ [] else []) else []

last_is : (z o : List ℕ) → (bytes_eq o z || false) ≡ true → o ≡ z
last_is z o h = elim (or_cases (bytes_eq o z) false h) [
  | inl e ↦ (bytes_eq-Decides o z).0 e
  | inr e ↦ absurd (true≢false (sym e))
]

one_of : (n m : Bool) (x y z o : List ℕ) → stands (three n m x y z) o ≡ true → OneOf n m x y z o
one_of false m x y z o h = absurd (true≢false (sym h))
one_of true false x y z o h = (refl, inl (last_is x o h))
one_of true true x y z o h = (
  refl,
  elim (or_cases (bytes_eq o x) (bytes_eq o y || (bytes_eq o z || false)) h) [
    | inl e ↦ inl ((bytes_eq-Decides o x).0 e)
    | inr more ↦ inr (
      refl,
      elim (or_cases (bytes_eq o y) (bytes_eq o z || false) more) [
        | inl e ↦ inl ((bytes_eq-Decides o y).0 e)
        | inr e ↦ inr (last_is z o e)
      ],
    )
  ],
)

same : (a b : List ℕ) → a ≡ b → bytes_eq a b ≡ true
same a b e = (bytes_eq-Decides a b).1 e

stands_first : (n m : Bool) (x y z o : List ℕ) → n ≡ true → o ≡ x → stands (three n m x y z) o ≡ true
stands_first n m x y z o h e =
    ap (λ (b : Bool). stands (three b m x y z) o) h ∙ or_left (bytes_eq o x) (stands (if m then y ∷ z ∷ [] else []) o) (same o x e)

stands_second : (n m : Bool) (x y z o : List ℕ) → n ≡ true → m ≡ true → o ≡ y → stands (three n m x y z) o ≡ true
stands_second n m x y z o h k e =
    ap (λ (b : Bool). stands (three b m x y z) o) h ∙ (ap (λ (b : Bool). stands (three true b x y z) o) k
    ∙ or_right (bytes_eq o x) (bytes_eq o y || (bytes_eq o z || false)) (or_left (bytes_eq o y) (bytes_eq o z || false) (same o y e)))

stands_third : (n m : Bool) (x y z o : List ℕ) → n ≡ true → m ≡ true → o ≡ z → stands (three n m x y z) o ≡ true
stands_third n m x y z o h k e =
    ap (λ (b : Bool). stands (three b m x y z) o) h ∙ (ap (λ (b : Bool). stands (three true b x y z) o) k
    ∙ or_right (bytes_eq o x) (bytes_eq o y || (bytes_eq o z || false))
    (or_right (bytes_eq o y) (bytes_eq o z || false) (or_left (bytes_eq o z) false (same o z e))))

not_not : (b : Bool) → b ≡ not (not b)
not_not true = refl
not_not false = refl

swapped_bare : (rest : List ℕ) → may_swap rest ≡ true → Www rest ≡ false
swapped_bare rest h = not-true (Www rest) (and_parts (not (length (authority rest) == 0)) (not (Www rest)) h).1

-- the spellings of what is spelled so
back : (is_secure has_www : Bool) (rest : List ℕ) → (has_www ≡ false → Www rest ≡ false) → other_spellings (text_of is_secure has_www rest) ≡ others is_secure has_www rest
back true true rest bare = refl
back true false rest bare = without true rest (bare refl)
back false true rest bare = refl
back false false rest bare = without false rest (bare refl)

back_at : (other : List ℕ) (is_secure has_www : Bool) (rest : List ℕ) → other ≡ text_of is_secure has_www rest → (has_www ≡ false → Www rest ≡ false)
    → other_spellings other ≡ others is_secure has_www rest
back_at other is_secure has_www rest is bare = ap other_spellings is ∙ back is_secure has_www rest bare

twice : (a w : Bool) (rest : List ℕ) → text_of a w rest ≡ text_of (not (not a)) w rest
twice a w rest = ap (λ (b : Bool). text_of b w rest) (not_not a)

twice_www : (a w : Bool) (rest : List ℕ) → text_of a w rest ≡ text_of a (not (not w)) rest
twice_www a w rest = ap (λ (b : Bool). text_of a b rest) (not_not w)

abbrev Comes : List ℕ → List ℕ → Type 0
Comes text other = stands (other_spellings other) text ≡ true

comes : (text other : List ℕ) (a w b v : Bool) (rest : List ℕ) → other_spellings other ≡ others b v rest → stands (others b v rest) (text_of a w rest) ≡ true → text ≡ text_of a w rest
    → Comes text other
comes text other a w b v rest are there is =
    ap (λ (xs : List (List ℕ)). stands xs text) are ∙ (ap (λ (t : List ℕ). stands (others b v rest) t) is ∙ there)

come_back_to : (text other : List ℕ) (a w : Bool) (rest : List ℕ) → text ≡ text_of a w rest → (w ≡ false → Www rest ≡ false)
    → OneOf (is_named rest) (may_swap rest) (text_of (not a) w rest) (text_of a (not w) rest) (text_of (not a) (not w) rest) other → Comes text other
come_back_to text other a w rest is bare (named, inl first) =
    comes text other a w (not a) w rest (back_at other (not a) w rest first bare)
    (stands_first (is_named rest) (may_swap rest) _ _ _ (text_of a w rest) named (twice a w rest)) is
come_back_to text other a w rest is bare (named, inr (swaps, inl second)) =
    comes text other a w a (not w) rest (back_at other a (not w) rest second (λ _. swapped_bare rest swaps))
    (stands_second (is_named rest) (may_swap rest) _ _ _ (text_of a w rest) named swaps (twice_www a w rest)) is
come_back_to text other a w rest is bare (named, inr (swaps, inr third)) =
    comes text other a w (not a) (not w) rest (back_at other (not a) (not w) rest third (λ _. swapped_bare rest swaps))
    (stands_third (is_named rest) (may_swap rest) _ _ _ (text_of a w rest) named swaps (twice a w rest ∙ twice_www (not (not a)) w rest)) is

others_of : (text other : List ℕ) (s : IsSpelled text) → stands (other_spellings text) other ≡ true
    → OneOf (is_named s.rest) (may_swap s.rest) (text_of (not s.is_secure) s.has_www s.rest) (text_of s.is_secure (not s.has_www) s.rest)
    (text_of (not s.is_secure) (not s.has_www) s.rest) other
others_of text other s there = one_of (is_named s.rest) (may_swap s.rest) _ _ _ other (sym (ap (λ (xs : List (List ℕ)). stands xs other) s.are) ∙ there)

pub come_back : SpellingsComeBack
come_back text other there =
    let s : IsSpelled text = spelled text other there in
    come_back_to text other s.is_secure s.has_www s.rest s.text_is s.bare (others_of text other s there)

alike_by : (text other : List ℕ) (s : IsSpelled text)
    → OneOf (is_named s.rest) (may_swap s.rest) (text_of (not s.is_secure) s.has_www s.rest) (text_of s.is_secure (not s.has_www) s.rest)
    (text_of (not s.is_secure) (not s.has_www) s.rest) other
    → AreAlike text other
alike_by text other s (named, inl first) = record {
  rest = s.rest;
  is_secure = s.is_secure;
  has_www = s.has_www;
  text_is = s.text_is;
  other_is_secure = not s.is_secure;
  other_has_www = s.has_www;
  other_is = first;
}
alike_by text other s (named, inr (swaps, inl second)) = record {
  rest = s.rest;
  is_secure = s.is_secure;
  has_www = s.has_www;
  text_is = s.text_is;
  other_is_secure = s.is_secure;
  other_has_www = not s.has_www;
  other_is = second;
}
alike_by text other s (named, inr (swaps, inr third)) = record {
  rest = s.rest;
  is_secure = s.is_secure;
  has_www = s.has_www;
  text_is = s.text_is;
  other_is_secure = not s.is_secure;
  other_has_www = not s.has_www;
  other_is = third;
}

few_of : (n m : Bool) (x y z : List ℕ) → length (three n m x y z) ≤ 3
few_of false m x y z = omega arith
few_of true false x y z = omega arith
few_of true true x y z = omega arith

few_others : (a w : Bool) (rest : List ℕ) → length (others a w rest) ≤ 3
few_others a w rest = few_of (is_named rest) (may_swap rest) _ _ _

few_behind : (a : Bool) (rest : List ℕ) (www : Bool) → length (if www then others a true (drop 4 rest) else others a false rest) ≤ 3
few_behind a rest true = few_others a true (drop 4 rest)
few_behind a rest false = few_others a false rest

few_at : (text : List ℕ) (secure plain : Bool)
    → length (if secure then others_behind true (drop 8 text) else if plain then others_behind false (drop 7 text) else []) ≤ 3
few_at text true plain = few_behind true (drop 8 text) (Www (drop 8 text))
few_at text false true = few_behind false (drop 7 text) (Www (drop 7 text))
few_at text false false = omega arith

pub are_alike : SpellingsAreAlike
are_alike = record {
  alike = λ text other there. alike_by text other (spelled text other there) (others_of text other (spelled text other there) there);
  few = λ text. few_at text (starts_with nat_eq text (codes "https://")) (starts_with nat_eq text (codes "http://"));
}
