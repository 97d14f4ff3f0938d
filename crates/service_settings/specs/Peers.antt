-- Which peers can be asked.
use Rattle.std.specs.Prelude.{◌≡◌, ℕ, List, Bool, true, false, not, ◌&&◌, nat_eq, codes}
use Rattle.std.specs.List.{starts_with}

-- the program can connect to a base: it speaks http alone, and asks nobody by an address in brackets
abbrev pub is_reached : List ℕ → Bool
is_reached base = starts_with nat_eq base (codes "http://") && not (starts_with nat_eq base (codes "http://["))

-- worked examples
pub record AreReached : Type 0 where
  pub name : is_reached (codes "http://b.example") ≡ true
  pub address : is_reached (codes "http://192.0.2.7:8080") ≡ true
  pub in_brackets : is_reached (codes "http://[::1]:8605") ≡ false
  pub by_https : is_reached (codes "https://b.example") ≡ false
