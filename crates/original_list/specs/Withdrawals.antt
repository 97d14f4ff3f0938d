-- What the lines of a file of what is withdrawn hold.
use Rattle.std.specs.Prelude.{◌≡◌, ◌⊎◌, ℕ, ◌&&◌, ◌||◌, ◌==◌, not, Bool, true, List, [], ◌∷◌, length, drop, codes, nat_eq, Option, Some, None, if◌then◌else◌, MatchBool}
use Rattle.std.specs.List.{list_any, starts_with}
use Rattle.std.specs.Option.{MatchOption}
use Rattle.memento_time.specs.Text.{IsArchiveName, IsClean}
use Rattle.timegate.specs.Route.{original_at}
use Rattle.original_list.specs.Rows.{without_blanks}
use Rattle.original_list.specs.declared.withdrawals.Withdrawal.{Withdrawal}
use Rattle.original_list.specs.declared.withdrawals.Withdrawal.TheVariants as holds
use Rattle.text_fields.specs.Parts.{behind}

-- nothing, or a comment
abbrev pub is_passed : List ℕ → Bool
is_passed text = length text == 0 || starts_with nat_eq text (codes "#")

-- a host, and the slash behind it
abbrev pub has_host : List ℕ → Bool
has_host rest = list_any (λ b. b == 47) rest && not (starts_with nat_eq rest (codes "/"))

abbrev pub has_host_behind : List ℕ → List ℕ → Bool
has_host_behind front text = starts_with nat_eq text front && has_host (drop (length front) text)

-- a scheme, a host, and the slash behind it: so a prefix isn't everything
abbrev pub is_wide_enough : List ℕ → Bool
is_wide_enough text = has_host_behind (codes "http://") text || has_host_behind (codes "https://") text

-- an archive's name, or nothing that counts
abbrev pub IsArchiveRow : List ℕ → Withdrawal → Type 0
IsArchiveRow name row =
    (IsArchiveName name × (row ≡ holds.Archive name)) ⊎ ((¬ IsArchiveName name) × (row ≡ holds.Bad))

-- an address that names an original as a request's target does, or nothing that counts
abbrev pub original_row : Option (List ℕ) → Withdrawal
original_row None = holds.Bad
original_row (Some original) = holds.Original original

-- a beginning of originals, or nothing that counts
abbrev pub IsPrefixRow : List ℕ → Withdrawal → Type 0
IsPrefixRow text row =
    ((is_wide_enough text ≡ true) × (IsClean text × (row ≡ holds.Prefix text)))
    ⊎ ((¬ ((is_wide_enough text ≡ true) × IsClean text)) × (row ≡ holds.Bad))

-- what is withdrawn by a line that has no blanks at its ends, and isn't passed over
abbrev pub IsNamedRow : List ℕ → Withdrawal → Type 0
IsNamedRow text row =
    MatchOption (behind (codes "archive ") text)
    (MatchOption (behind (codes "original ") text)
    (MatchOption (behind (codes "prefix ") text) (row ≡ holds.Bad) (λ rest. IsPrefixRow rest row))
    (λ rest. row ≡ original_row (original_at rest)))
    (λ rest. IsArchiveRow rest row)

-- what a line holds
abbrev pub IsRowOf : List ℕ → Withdrawal → Type 0
IsRowOf line row =
    MatchBool (is_passed (without_blanks line)) (row ≡ holds.Nothing) (IsNamedRow (without_blanks line) row)
