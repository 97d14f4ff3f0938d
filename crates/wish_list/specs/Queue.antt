-- Wishes that wait to be granted, and those that were granted and aren't over.
use Rattle.std.specs.Prelude.{◌≡◌, ℕ, ◌≤◌, Bool, true, false, not, ◌&&◌, ◌==◌, List, [], ◌∷◌, length, position, bytes_eq, slice_get, slice_set, Some, MatchOption}
use Rattle.std.specs.List.{list_any}
use Rattle.wish_list.specs.declared.queue.Wish.{Wish}

-- the most wishes
abbrev pub most_wishes : ℕ
most_wishes = 1000

-- it is a wish for this original
abbrev pub is_of : List ℕ → Wish → Bool
is_of original wish = bytes_eq original wish.original

abbrev pub isnt_of : List ℕ → Wish → Bool
isnt_of original wish = not (bytes_eq original wish.original)

-- there is a wish for this original
abbrev pub stands : List Wish → List ℕ → Bool
stands wishes original = list_any (is_of original) wishes

-- and was taken in this minute
abbrev pub is_taken_in : List ℕ → ℕ → Wish → Bool
is_taken_in original minute wish = is_of original wish && wish.minute == minute

-- there is a wish for this original that was taken in this minute
abbrev pub stands_from : List Wish → List ℕ → ℕ → Bool
stands_from wishes original minute = list_any (is_taken_in original minute) wishes

-- it isn't granted yet
abbrev pub is_waiting : Wish → Bool
is_waiting wish = not wish.is_granted

-- nothing of its original was shown
abbrev pub is_unshown : Wish → Bool
is_unshown wish = not wish.is_shown

-- none is for the same original as another
abbrev pub are_distinct : List Wish → Bool
are_distinct [] = true
are_distinct (wish ∷ wishes) = not (stands wishes wish.original) && are_distinct wishes

-- none twice, and few
pub record AreWishes (wishes : List Wish) : Type 0 where
  pub distinct : are_distinct wishes ≡ true
  pub few : length wishes ≤ most_wishes

abbrev pub with_grant : Bool → Wish → Wish
with_grant is wish = record wish { is_granted = is }

-- the oldest that waits is granted, and it is for this original
pub record Grants (old : List Wish) (original : List ℕ) (new : List Wish) : Type 0 where
  pub place : ℕ
  pub wish : Wish
  pub oldest : position is_waiting old ≡ Some place
  pub there : slice_get old place ≡ Some wish
  pub original_is : wish.original ≡ original
  pub after : new ≡ slice_set old place (with_grant true wish)

-- the wish for this original, if there is one, waits
abbrev pub PutsBack : List Wish → List ℕ → List Wish → Type 0
PutsBack old original new = MatchOption (position (is_of original) old) (new ≡ old)
    (λ place. (wish : Wish) × (slice_get old place ≡ Some wish) × (new ≡ slice_set old place (with_grant false wish)))
