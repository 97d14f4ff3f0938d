-- What a merger is that begins anew, and what a forgetting is.
use Rattle.std.specs.Prelude.{◌≡◌, ℕ, ◌+◌, ◌-◌, ◌^◌, ◌≤◌, min, Bool, true, false, List, [], ◌∷◌, Option, Some, None, IfSome, IsSomeAnd, unwrap_or}
use Rattle.std.specs.FinMap as map
use Rattle.harvest_lattice.specs.Lattice.{Entries, Key}
use Rattle.harvest_lattice.specs.Knowledge.{lat, shown_of}
use Rattle.memento_index.specs.declared.merge.Merge.TheVariants.{State}
use Rattle.replica_exchange.specs.Stamps.{StampedState, IsStamped}
use Rattle.timegate.specs.declared.request.Request.{Request}
use Rattle.timegate.specs.Route.{route_of, original_in}
use Rattle.timegate.specs.Reply.{reply_of}
use Rattle.published_index.specs.Batches.{fold_of, merges_of}
use Rattle.published_index.specs.Views.{MergerView}
use Rattle.retention.specs.Restriction.{Rule, restrict, KeepsOriginal}
use Rattle.retention.specs.Rules.{Withdrawal, is_withdrawn, keeps}

-- all that a merger has published
abbrev pub known : MergerView → Entries
known m = lat (fold_of m.published)

-- it has published a state and nothing else; nothing is pending, and no cursor is held
pub record IsBegun (state : Entries) (m : MergerView) : Type 0 where
  pub published : m.published ≡ (State state ∷ []) ∷ []
  pub pending : m.pending ≡ []
  pub cursors : m.cursors ≡ map.empty

-- the second begins anew with what a rule keeps of what the first has published
abbrev pub Forgets : Rule → MergerView → MergerView → Type 0
Forgets rule m n = IsBegun (restrict rule (known m)) n

-- The rule of a service, as far as it is known: what isn't withdrawn is kept, of originals that are listed or wanted.
-- Where it isn't known, all is kept.
abbrev pub rule_of : Option Withdrawal → Option (List (List ℕ)) → List (List ℕ) → Rule
rule_of None listed wanted k = true
rule_of (Some w) None wanted k = true
rule_of (Some w) (Some listed) wanted k = keeps w listed wanted k

-- what an archive has of an original is withdrawn, as far as that is known
abbrev pub is_withdrawn_by : Option Withdrawal → Key → Bool
is_withdrawn_by None k = false
is_withdrawn_by (Some w) k = is_withdrawn w k

-- So many mementos more may be known of unlisted originals: at most as many as the settings say are then, as far as
-- they are counted, and 64 bits count.
abbrev pub HasRoom : Option ℕ → Option ℕ → ℕ → Type 0
HasRoom most counted more = IsSomeAnd counted (λ counted. min (counted + more) (2 ^ 64 - 1) ≤ unwrap_or most (2 ^ 64 - 1))

-- the same by the rule of a service, for some originals that are wanted
pub record ForgetsSome (withdrawn : Option Withdrawal) (listed : Option (List (List ℕ))) (m n : MergerView) : Type 0 where
  pub wanted : List (List ℕ)
  pub forgets : Forgets (rule_of withdrawn listed wanted) m n

-- a state has nothing that is withdrawn
abbrev pub HasNone : Withdrawal → Entries → Type 0
HasNone w x = (k : Key) → is_withdrawn w k ≡ true → map.get x k ≡ None

-- nothing that is withdrawn is known, where the rule of a service is known
abbrev pub AreGone : Option Withdrawal → Option (List (List ℕ)) → MergerView → Type 0
AreGone w listed m = IfSome w (λ w. IfSome listed (λ _. HasNone w (known m)))

-- what readers of a kept original notice of a forgetting: nothing
pub record IsUnnoticed (rule : Rule) (m n : MergerView) : Type 0 where
  pub shown : (original : List ℕ) → KeepsOriginal rule original
      → shown_of (known n) original ≡ shown_of (known m) original
  pub replies : (base : List ℕ) (s t : StampedState) (q : Request) (original : List ℕ)
      → IsStamped (merges_of m.published) s → IsStamped (merges_of n.published) t
      → original_in (route_of q) ≡ Some original → KeepsOriginal rule original
      → reply_of base t q ≡ reply_of base s q
