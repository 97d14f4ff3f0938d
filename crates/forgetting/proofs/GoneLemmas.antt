-- What is withdrawn is gone once a forgetting has ended.
use Rattle.std.proofs.Common.{◌≡◌, ℕ, Bool, true, false, cond, not, ◌&&◌, ◌||◌, List, [], ◌∷◌, length, Option, Some, None, IfSome, refl, sym, ap, subst, ◌∙◌, arith}
use Rattle.std.specs.FinMap as fmap
use Rattle.std.specs.FinMap.Entries.{find}
use Rattle.std.specs.List.{filter, list_any}
use Rattle.std.proofs.lemmas.Bool.{true≢false}
use Rattle.std.proofs.lemmas.List.Filters.{length-filter_both}
use Rattle.harvest_lattice.specs.Lattice.{Entries, Key, Kept, key_cmp}
use Rattle.original_sets.specs.Sets.{stands}
use Rattle.published_index.specs.Views.{MergerView}
use Rattle.retention.specs.Restriction.{Rule, restrict}
use Rattle.retention.specs.Rules.{Withdrawal, is_withdrawn, keeps}
use Rattle.retention.proofs.RestrictionLemmas.{entries-restrict, get-gone}
use Rattle.forgetting.specs.Renewing.{AreGone, HasNone, IsBegun, known, rule_of}
use Rattle.forgetting.proofs.RenewingLemmas.{begun_known}

-- a rule of a service keeps nothing that is withdrawn
pub none_kept : (w : Withdrawal) (listed wanted : List (List ℕ)) (x : Entries) → HasNone w (restrict (keeps w listed wanted) x)
none_kept w listed wanted x k is =
    get-gone (keeps w listed wanted) x k (ap (λ (b : Bool). not b && (stands listed k.1 || stands wanted k.1)) is)

-- what a rule keeps is all, if that is as much
all_pass : {X : Type 0} (p : X → Bool) (xs : List X) → length (filter p xs) ≡ length xs → filter p xs ≡ xs
all_pass p [] same = refl
all_pass p (x ∷ xs) same = elim (p x) as (λ b. length (cond b (x ∷ filter p xs) (filter p xs)) ≡ length (x ∷ xs) → cond b (x ∷ filter p xs) (filter p xs) ≡ x ∷ xs) [
  | true ↦ λ same. ap (λ ys. x ∷ ys) (all_pass p xs (omega (arith, same)))
  | false ↦ λ same. let both = length-filter_both p (λ x. not (p x)) (λ x. refl) xs in absurd (omega (arith, same, both))
] same

-- what a rule keeps has the entries of the state, if its list of entries is the state's
same_found : (rule : Rule) (x : Entries) → filter (λ e. rule e.0) (fmap.entries x) ≡ fmap.entries x → (k : Key) → fmap.get x k ≡ fmap.get (restrict rule x) k
same_found rule x all k =
    fmap.get-entries x k
    ∙ (ap (λ es. find key_cmp k es) (sym (entries-restrict rule x ∙ all)) ∙ sym (fmap.get-entries (restrict rule x) k))

pub kept_as_many : (rule : Rule) (x : Entries) → fmap.len (restrict rule x) ≡ fmap.len x → (k : Key) → fmap.get x k ≡ fmap.get (restrict rule x) k
kept_as_many rule x same =
    let many : length (filter (λ e. rule e.0) (fmap.entries x)) ≡ length (fmap.entries x) =
    sym (ap length (entries-restrict rule x)) ∙ (sym (fmap.len-entries (restrict rule x)) ∙ (same ∙ fmap.len-entries x)) in
    same_found rule x (all_pass (λ e. rule e.0) (fmap.entries x) many)

-- what passes no test passes each test's opposite
none_pass : {X : Type 0} (p : X → Bool) (xs : List X) → list_any p xs ≡ false → filter (λ x. not (p x)) xs ≡ xs
none_pass p [] none = refl
none_pass p (x ∷ xs) none = elim (p x) as (λ b. (b || list_any p xs) ≡ false → cond (not b) (x ∷ filter (λ x. not (p x)) xs) (filter (λ x. not (p x)) xs) ≡ x ∷ xs) [
  | true ↦ λ none. absurd (true≢false none)
  | false ↦ λ none. ap (λ ys. x ∷ ys) (none_pass p xs none)
] none

-- no entry is withdrawn
pub none_listed : (w : Withdrawal) (x : Entries) → list_any (λ e. is_withdrawn w e.0) (fmap.entries x) ≡ false → HasNone w x
none_listed w x none k is =
    let rule : Rule = λ k. not (is_withdrawn w k) in
    same_found rule x (none_pass (λ (e : Key × Kept). is_withdrawn w e.0) (fmap.entries x) none) k ∙ get-gone rule x k (ap not is)

-- ---- what a forgetting leaves

-- where the rule is known, what begins with what it keeps has nothing that is withdrawn
pub gone_begun : (w : Option Withdrawal) (l : Option (List (List ℕ))) (wanted : List (List ℕ)) (m n : MergerView)
    → IsBegun (restrict (rule_of w l wanted) (known m)) n → AreGone w l n
gone_begun None l wanted m n begun = tt
gone_begun (Some w) None wanted m n begun = tt
gone_begun (Some w) (Some listed) wanted m n begun = λ k is.
    ap (λ (x : Entries). fmap.get x k) (begun_known (restrict (keeps w listed wanted) (known m)) n begun) ∙ none_kept w listed wanted (known m) k is

-- and so has what stays as it is, since all of it is kept
pub gone_same : (w : Option Withdrawal) (l : Option (List (List ℕ))) (wanted : List (List ℕ)) (m n : MergerView) → n ≡ m
    → fmap.len (restrict (rule_of w l wanted) (known m)) ≡ fmap.len (known m) → AreGone w l n
gone_same w l wanted m n same many = subst (AreGone w l) (sym same) (on w l many)
  where
    on : (w : Option Withdrawal) (l : Option (List (List ℕ))) → fmap.len (restrict (rule_of w l wanted) (known m)) ≡ fmap.len (known m) → AreGone w l m
    on None l many = tt
    on (Some w) None many = tt
    on (Some w) (Some listed) many = λ k is. kept_as_many (keeps w listed wanted) (known m) many k ∙ none_kept w listed wanted (known m) k is

-- and what has nothing that is withdrawn
pub gone_none : (w : Option Withdrawal) (l : Option (List (List ℕ))) (withdrawn : Withdrawal) (m n : MergerView) → n ≡ m → w ≡ Some withdrawn
    → HasNone withdrawn (known m) → AreGone w l n
gone_none w l withdrawn m n same is none = subst (λ (o : Option Withdrawal). AreGone o l n) (sym is) (subst (AreGone (Some withdrawn) l) (sym same) (on l))
  where
    on : (l : Option (List (List ℕ))) → AreGone (Some withdrawn) l m
    on None = tt
    on (Some listed) = none

-- so it is with whatever a forgetting comes to
pub gone_forgotten : {T : Type 0} (forgot : Option T) (w : Option Withdrawal) (l : Option (List (List ℕ))) (wanted : List (List ℕ)) (kept : Entries) (m n : MergerView)
    → kept ≡ restrict (rule_of w l wanted) (known m) → IfSome forgot (λ _. IsBegun kept n) → (forgot ≡ None → n ≡ m)
    → (forgot ≡ None → fmap.len kept ≡ fmap.len (known m)) → AreGone w l n
gone_forgotten (Some forgot) w l wanted kept m n is begun same many = gone_begun w l wanted m n (subst (λ (x : Entries). IsBegun x n) is begun)
gone_forgotten None w l wanted kept m n is begun same many = gone_same w l wanted m n (same refl) (sym (ap fmap.len is) ∙ many refl)
