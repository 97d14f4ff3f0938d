-- The rules of a service: what is withdrawn is never kept, and of the rest what is listed or wanted.
use Rattle.std.specs.Prelude.{ℕ, Bool, ◌&&◌, ◌||◌, not, List, nat_eq}
use Rattle.std.specs.List.{list_any, starts_with}
use Rattle.original_sets.specs.Sets.{stands}
use Rattle.harvest_lattice.specs.Lattice.{Key}

-- archives, originals, and beginnings of originals
pub record Withdrawal : Type 0 where
  pub archives : List (List ℕ)
  pub originals : List (List ℕ)
  pub prefixes : List (List ℕ)

-- the original begins with one of these
abbrev pub begins_with : List (List ℕ) → List ℕ → Bool
begins_with prefixes original = list_any (λ prefix. starts_with nat_eq original prefix) prefixes

-- the archive is named, or the original is, or a beginning of it
abbrev pub is_withdrawn : Withdrawal → Key → Bool
is_withdrawn w k = stands w.archives k.0 || (stands w.originals k.1 || begins_with w.prefixes k.1)

-- what isn't withdrawn, of originals that are listed or wanted
abbrev pub keeps : Withdrawal → List (List ℕ) → List (List ℕ) → Key → Bool
keeps withdrawn listed wanted k = not (is_withdrawn withdrawn k) && (stands listed k.1 || stands wanted k.1)

-- what isn't withdrawn, of originals that aren't listed
abbrev pub is_unlisted : Withdrawal → List (List ℕ) → Key → Bool
is_unlisted withdrawn listed k = not (stands listed k.1) && not (is_withdrawn withdrawn k)
