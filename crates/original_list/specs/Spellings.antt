-- The other spellings of an original: with the other scheme, and with or without `www.`.
use Rattle.std.specs.Prelude.{◌≡◌, ℕ, ◌≤◌, ◌==◌, Bool, true, false, not, ◌&&◌, ◌||◌, List, [], ◌∷◌, ◌++◌, length, drop, Option, Some, None, codes, nat_eq, bytes_eq, if◌then◌else◌}
use Rattle.std.specs.List.{before_first, list_any, starts_with}
use Rattle.timegate.specs.Route.{original_at}
use Rattle.original_sets.specs.Sets.{stands}

-- `/`, `?` or `#`, which end an authority
abbrev pub is_end : ℕ → Bool
is_end b = b == 47 || b == 63 || b == 35

-- `@`, `:` or `[`, which a name alone hasn't
abbrev pub is_mark : ℕ → Bool
is_mark b = b == 64 || b == 58 || b == 91

-- what stands before the first byte that ends it: the authority, if the text follows a scheme
abbrev pub authority : List ℕ → List ℕ
authority text = before_first is_end text

-- it is a name alone: without a user, a port, or the brackets of an address
abbrev pub is_named : List ℕ → Bool
is_named rest = not (list_any is_mark (authority rest))

-- `www.` may stand before it or not
abbrev pub may_swap : List ℕ → Bool
may_swap rest = not (length (authority rest) == 0) && not (starts_with nat_eq rest (codes "www."))

abbrev pub scheme_text : Bool → List ℕ
scheme_text true = codes "https://"
scheme_text false = codes "http://"

abbrev pub www_text : Bool → List ℕ
www_text true = codes "www."
www_text false = []

-- the text with this scheme, with `www.` or without, and with this behind it
abbrev pub text_of : Bool → Bool → List ℕ → List ℕ
text_of is_secure has_www rest = scheme_text is_secure ++ (www_text has_www ++ rest)

-- those with `www.` if there is none, or without it if there is one
abbrev pub swapped_spellings : Bool → Bool → List ℕ → List (List ℕ)
swapped_spellings is_secure has_www rest =
    if may_swap rest
    then text_of is_secure (not has_www) rest ∷ text_of (not is_secure) (not has_www) rest ∷ []
    else []

-- the other spellings of what has this scheme, with `www.` or without, and this behind it
abbrev pub others : Bool → Bool → List ℕ → List (List ℕ)
others is_secure has_www rest =
    if is_named rest then text_of (not is_secure) has_www rest ∷ swapped_spellings is_secure has_www rest else []

abbrev pub others_behind : Bool → List ℕ → List (List ℕ)
others_behind is_secure rest =
    if starts_with nat_eq rest (codes "www.") then others is_secure true (drop 4 rest)
    else others is_secure false rest

-- those of a text that begins with `http://`
abbrev pub plain_spellings : List ℕ → List (List ℕ)
plain_spellings text = if starts_with nat_eq text (codes "http://") then others_behind false (drop 7 text) else []

-- the other spellings of a text
abbrev pub other_spellings : List ℕ → List (List ℕ)
other_spellings text =
    if starts_with nat_eq text (codes "https://") then others_behind true (drop 8 text) else plain_spellings text

abbrev pub itself : Option (List ℕ) → List ℕ → Bool
itself None text = false
itself (Some original) text = bytes_eq original text

-- the text names an original, which names itself so
abbrev pub is_itself : List ℕ → Bool
is_itself text = itself (original_at text) text

-- two texts with the same behind their schemes and `www.`
pub record AreAlike (text other : List ℕ) : Type 0 where
  pub rest : List ℕ
  pub is_secure : Bool
  pub has_www : Bool
  pub text_is : text ≡ text_of is_secure has_www rest
  pub other_is_secure : Bool
  pub other_has_www : Bool
  pub other_is : other ≡ text_of other_is_secure other_has_www rest

-- Spellings differ in their scheme and in `www.` alone: host, path and query are the same but for that. There are three
-- at most.
pub record SpellingsAreAlike : Type 0 where
  pub alike : (text other : List ℕ) → stands (other_spellings text) other ≡ true → AreAlike text other
  pub few : (text : List ℕ) → length (other_spellings text) ≤ 3

abbrev pub SpellingsComeBack : Type 0
SpellingsComeBack = (text other : List ℕ) → stands (other_spellings text) other ≡ true
    → stands (other_spellings other) text ≡ true
