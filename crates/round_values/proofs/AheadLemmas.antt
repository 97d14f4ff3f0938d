-- Harvests that aren't taken, since they are ahead of the clock.
use Rattle.std.proofs.Common.{◌≡◌, ℕ, zero, suc, ◌+◌, ◌-◌, ◌^◌, ◌<◌, ◌≤◌, ◌==◌, min, Bool, true, false, not, cond, ◌&&◌, List, [], ◌∷◌, ◌++◌, length, map, take, get_or}
use Rattle.std.proofs.Common.{Some, None, is_some, option_map, refl, sym, ap, subst, ◌∙◌, arith, append_assoc, append-nil, length-append}
use Rattle.std.proofs.lemmas.Bool.Decides.{nat_tests}
use Rattle.std.proofs.lemmas.List.{length-map}
use Rattle.std.specs.Prelude.{T, slice_get}
use Rattle.std.proofs.lemmas.Option.{slice_get_within, get_or_from_slice_get}
use Rattle.std.specs.FinMap as fmap
use mir.Val.{bool_byte}
use Rattle.std.specs.List.{filter, Contains}
use Rattle.std.proofs.lemmas.List.Elements.{All-contains, All-contains_itself, All-filter, filter-append}
use Rattle.memento_time.specs.declared.mementos.Memento.{Memento}
use Rattle.memento_time.specs.Mementos.{memento_cmp}
use Rattle.memento_time.proofs.MementoLemmas.{memento_cmp_total, memento_cmp_exact}
use Rattle.memento_sets.specs.Sets as set
use Rattle.memento_sets.proofs.Sets as sets
use Rattle.memento_sets.specs.MementoSets.{Mementos}
use Rattle.harvest_lattice.specs.Lattice.{Key, Kept, Entries, AtMost, Revisions, join, least, whole}
use Rattle.harvest_lattice.specs.Knowledge.{Harvested, adds, harvests_at, harvests_of, key_of, lat}
use Rattle.harvest_lattice.proofs.EntryOrder.{join_semilattice, joined_at_most, key_cmp_total, key_cmp_exact}
use Rattle.harvest_lattice.proofs.Knowledge.{get-lat_one, lat-adds, lat-append, single}
use Rattle.harvest_lattice.proofs.KnowledgeShown.{at_most_nil, lat_monotone}
use Rattle.round_values.specs.Ahead.{harvest_of, is_ahead, left_out, not_ahead, taken, taken_of}

within : (p : Harvested → Bool) (hs : List Harvested) (h : Harvested) → Contains (filter p hs) h → Contains hs h
within p hs h c = All-contains (Contains hs) (filter p hs) h (All-filter p (Contains hs) hs (All-contains_itself hs)) c

pub taken_at_most : (last : ℕ) (x : Entries) → AtMost (taken last x) x
taken_at_most last x =
    subst (λ (y : Entries). AtMost (taken last x) y) (lat-adds x)
    (lat_monotone (not_ahead last (adds x)) (adds x) (within (λ h. not (is_ahead last h.revision)) (adds x)))

none_out : (last : ℕ) (hs : List Harvested) → length (filter (λ h. is_ahead last h.revision) hs) ≡ 0 → not_ahead last hs ≡ hs
none_out last [] none = refl
none_out last (h ∷ hs) none =
    elim (is_ahead last h.revision) as (λ b. length (cond b (h ∷ filter (λ g. is_ahead last g.revision) hs) (filter (λ g. is_ahead last g.revision) hs)) ≡ 0
    → cond (not b) (h ∷ not_ahead last hs) (not_ahead last hs) ≡ h ∷ hs) [
      | true ↦ λ (some : suc (length (filter (λ g. is_ahead last g.revision) hs)) ≡ 0). absurd (omega (arith, some))
      | false ↦ λ rest. ap (λ (t : List Harvested). h ∷ t) (none_out last hs rest)
    ] none

pub all_taken : (last : ℕ) (x : Entries) → left_out last x ≡ 0 → taken last x ≡ x
all_taken last x none = ap lat (none_out last (adds x) none) ∙ lat-adds x

pub then_all : (last : ℕ) (x : Entries) → join (taken last x) x ≡ x
then_all last x = joined_at_most (taken last x) x (taken_at_most last x)

-- the state of one harvest
pub one_made : (h : Harvested) → fmap.from_entries ((key_of h, single h) ∷ []) ≡ lat (h ∷ [])
one_made h = fmap.same_map key_cmp_total key_cmp_exact _ _
    (λ k. fmap.get-from_entries key_cmp_total ((key_of h, single h) ∷ []) k ∙ sym (get-lat_one h k))

-- the first revision may be whole
abbrev pub first : ℕ → Bool → Bool
first zero w = w
first (suc k) w = false

pub first_is : (k : ℕ) (w : Bool) → ((k == 0) && w) ≡ first k w
first_is zero w = refl
first_is (suc k) w =
    let past : (suc k == 0) ≡ false = grind (arith, nat_tests) in
    ap (λ (b : Bool). b && w) past

first_false : (k : ℕ) → first k false ≡ false
first_false zero = refl
first_false (suc k) = refl

-- the revision with this number and these mementos stands at k
record IsAt (es : List (ℕ × Mementos)) (k revision : ℕ) (items : List Memento) : Type 0 where
  its_part : ℕ × Mementos
  at : slice_get es k ≡ Some its_part
  revision_is : its_part.0 ≡ revision
  items_are : set.items its_part.1 ≡ items

part_at : (es : List (ℕ × Mementos)) (k revision : ℕ) (items : List Memento) → slice_get (map (λ e. e.0) es) k ≡ Some revision
    → option_map (λ s. set.items s) (slice_get (map (λ e. e.1) es) k) ≡ Some items
    → IsAt es k revision items
part_at [] k revision items number listed = absurd cc
part_at (e ∷ es) zero revision items number listed =
    let revision_is : e.0 ≡ revision = cc in
    let items_are : set.items e.1 ≡ items = cc in
    record { its_part = e; at = refl; revision_is = revision_is; items_are = items_are }
part_at (e ∷ es) (suc k) revision items number listed =
    let rest = part_at es k revision items number listed in
    record { its_part = rest.its_part; at = rest.at; revision_is = rest.revision_is; items_are = rest.items_are }

harvest_at : (K : Key) (w : Bool) (es : List (ℕ × Mementos)) (k : ℕ) (e : ℕ × Mementos) → slice_get es k ≡ Some e
    → take (suc k) (harvests_at K w es) ≡ take k (harvests_at K w es) ++ harvest_of K (first k w) e ∷ []
harvest_at K w [] k e at = absurd cc
harvest_at K w (d ∷ es) zero e at = let same : d ≡ e = cc in ap (λ (p : ℕ × Mementos). harvest_of K w p ∷ []) same
harvest_at K w (d ∷ es) (suc k) e at =
    ap (λ (t : List Harvested). harvest_of K w d ∷ t)
    (harvest_at K false es k e at ∙ ap (λ (b : Bool). take k (harvests_at K false es) ++ harvest_of K b e ∷ []) (first_false k))

-- one revision more of an entry
pub revision_more : (K : Key) (w : Bool) (es : List (ℕ × Mementos)) (k revision : ℕ) (items : List Memento)
    → slice_get (map (λ e. e.0) es) k ≡ Some revision → option_map (λ s. set.items s) (slice_get (map (λ e. e.1) es) k) ≡ Some items
    → take (suc k) (harvests_at K w es) ≡ take k (harvests_at K w es) ++ harvest_of K (first k w) (revision, set.from_list {R = memento_cmp} items) ∷ []
revision_more K w es k revision items number listed =
    let its = part_at es k revision items number listed in
    let mementos : its.its_part.1 ≡ set.from_list {R = memento_cmp} items =
    sym (sets.from_list-items memento_cmp_total memento_cmp_exact its.its_part.1) ∙ ap (λ (ms : List Memento). set.from_list {R = memento_cmp} ms) its.items_are in
    harvest_at K w es k its.its_part its.at
    ∙ (λ i. take k (harvests_at K w es) ++ harvest_of K (first k w) (its.revision_is i, mementos i) ∷ [])

pub length-harvests_at : (K : Key) (w : Bool) (es : List (ℕ × Mementos)) → length (harvests_at K w es) ≡ length es
length-harvests_at K w [] = refl
length-harvests_at K w (e ∷ es) = ap suc (length-harvests_at K false es)

-- one harvest more, which is taken or isn't
pub more_out : (last : ℕ) (hs : List Harvested) (h : Harvested) → is_ahead last h.revision ≡ true → not_ahead last (hs ++ h ∷ []) ≡ not_ahead last hs
more_out last hs h ahead =
    filter-append (λ g. not (is_ahead last g.revision)) hs (h ∷ [])
    ∙ (ap (λ (b : Bool). not_ahead last hs ++ cond (not b) (h ∷ []) []) ahead ∙ append-nil (not_ahead last hs))

pub more_in : (last : ℕ) (hs : List Harvested) (h : Harvested) → is_ahead last h.revision ≡ false → not_ahead last (hs ++ h ∷ []) ≡ not_ahead last hs ++ h ∷ []
more_in last hs h before =
    filter-append (λ g. not (is_ahead last g.revision)) hs (h ∷ []) ∙ ap (λ (b : Bool). not_ahead last hs ++ cond (not b) (h ∷ []) []) before

-- the mementos of the revision with this number
numbered : (es : List (ℕ × Mementos)) (k revision : ℕ) → slice_get (map (λ e. e.0) es) k ≡ Some revision
    → (s : Mementos) × (slice_get es k ≡ Some (revision, s))
numbered [] k revision number = absurd cc
numbered (e ∷ es) zero revision number =
    let revision_is : e.0 ≡ revision = cc in
    (e.1, ap (λ (r : ℕ). Some (r, e.1)) revision_is)
numbered (e ∷ es) (suc k) revision number = numbered es k revision number

-- one revision more, which isn't taken
pub revision_out : (last : ℕ) (K : Key) (w : Bool) (es : List (ℕ × Mementos)) (k revision : ℕ)
    → slice_get (map (λ e. e.0) es) k ≡ Some revision → is_ahead last revision ≡ true
    → not_ahead last (take (suc k) (harvests_at K w es)) ≡ not_ahead last (take k (harvests_at K w es))
revision_out last K w es k revision number ahead =
    let its = numbered es k revision number in
    ap (not_ahead last) (harvest_at K w es k (revision, its.0) its.1)
    ∙ more_out last (take k (harvests_at K w es)) (harvest_of K (first k w) (revision, its.0)) ahead

-- one revision more, which is taken
pub revision_in : (last : ℕ) (K : Key) (w : Bool) (es : List (ℕ × Mementos)) (k revision : ℕ) (items : List Memento)
    → slice_get (map (λ e. e.0) es) k ≡ Some revision → option_map (λ s. set.items s) (slice_get (map (λ e. e.1) es) k) ≡ Some items
    → is_ahead last revision ≡ false
    → not_ahead last (take (suc k) (harvests_at K w es))
    ≡ not_ahead last (take k (harvests_at K w es)) ++ harvest_of K ((k == 0) && w) (revision, set.from_list {R = memento_cmp} items) ∷ []
revision_in last K w es k revision items number listed before =
    ap (not_ahead last) (revision_more K w es k revision items number listed)
    ∙ (more_in last (take k (harvests_at K w es)) (harvest_of K (first k w) (revision, set.from_list {R = memento_cmp} items)) before
    ∙ ap (λ (b : Bool). not_ahead last (take k (harvests_at K w es)) ++ harvest_of K b (revision, set.from_list {R = memento_cmp} items) ∷ [])
    (sym (first_is k w)))

pub joined_more : (x : Entries) (hs gs : List Harvested) → join (join x (lat hs)) (lat gs) ≡ join x (lat (hs ++ gs))
joined_more x hs gs = join_semilattice.assoc x (lat hs) (lat gs) ∙ ap (join x) (sym (lat-append hs gs))

-- the harvests up to the next place, where these are taken of them
pub kept_on : (x : Entries) (last : ℕ) (hs : List Harvested) (k : ℕ) (rest : Entries) (gs : List Harvested)
    → rest ≡ join x (lat gs) → not_ahead last (take (suc k) hs) ≡ gs → rest ≡ join x (lat (not_ahead last (take (k + 1) hs)))
kept_on x last hs k rest gs is more =
    let next : k + 1 ≡ suc k = omega arith in
    is ∙ ap (λ (fs : List Harvested). join x (lat fs)) (sym more ∙ ap (λ (n : ℕ). not_ahead last (take n hs)) (sym next))

pub joined_none : (x : Entries) → x ≡ join x (lat [])
joined_none x = sym (join_semilattice.comm x (lat []) ∙ joined_at_most (lat []) x (at_most_nil x))

-- one entry more
pub harvests_of-push : (es : List (Key × Kept)) (e : Key × Kept)
    → harvests_of (es ++ e ∷ []) ≡ harvests_of es ++ harvests_at e.0 e.1.is_whole (fmap.entries e.1.revisions)
harvests_of-push [] e = append-nil (harvests_at e.0 e.1.is_whole (fmap.entries e.1.revisions))
harvests_of-push (d ∷ es) e =
    let own = harvests_at d.0 d.1.is_whole (fmap.entries d.1.revisions) in
    ap (λ (t : List Harvested). own ++ t) (harvests_of-push es e)
    ∙ sym (append_assoc own (harvests_of es) (harvests_at e.0 e.1.is_whole (fmap.entries e.1.revisions)))

pub entry_more : (last : ℕ) (es : List (Key × Kept)) (e : Key × Kept)
    → join (lat (not_ahead last (harvests_of es))) (taken_of last e.0 e.1) ≡ lat (not_ahead last (harvests_of (es ++ e ∷ [])))
entry_more last es e =
    let own = harvests_at e.0 e.1.is_whole (fmap.entries e.1.revisions) in
    sym (ap (λ (hs : List Harvested). lat (not_ahead last hs)) (harvests_of-push es e)
    ∙ (ap lat (filter-append (λ g. not (is_ahead last g.revision)) (harvests_of es) own)
    ∙ lat-append (not_ahead last (harvests_of es)) (not_ahead last own)))

pub all_entries : (last : ℕ) (x : Entries) (es : List (Key × Kept)) → es ≡ fmap.entries x → lat (not_ahead last (harvests_of es)) ≡ taken last x
unfolding adds
all_entries last x es all = ap (λ (ds : List (Key × Kept)). lat (not_ahead last (harvests_of ds))) all

-- how many are ahead
count_at : (last : ℕ) (K : Key) (w : Bool) (es : List (ℕ × Mementos))
    → length (filter (λ h. is_ahead last h.revision) (harvests_at K w es)) ≡ length (filter (is_ahead last) (map (λ e. e.0) es))
count_at last K w [] = refl
count_at last K w (e ∷ es) =
    let rest = filter (λ h. is_ahead last h.revision) (harvests_at K false es) in
    elim (is_ahead last e.0) as (λ b. length (cond b (harvest_of K w e ∷ rest) rest)
    ≡ length (cond b (e.0 ∷ filter (is_ahead last) (map (λ d. d.0) es)) (filter (is_ahead last) (map (λ d. d.0) es)))) [
      | true ↦ ap suc (count_at last K false es)
      | false ↦ count_at last K false es
    ]

abbrev pub ahead_in : ℕ → List (Key × Kept) → ℕ
ahead_in last es = length (filter (λ h. is_ahead last h.revision) (harvests_of es))

pub ahead_in-push : (last : ℕ) (es : List (Key × Kept)) (e : Key × Kept)
    → ahead_in last (es ++ e ∷ []) ≡ ahead_in last es + length (filter (is_ahead last) (fmap.keys e.1.revisions))
ahead_in-push last es e =
    let own = harvests_at e.0 e.1.is_whole (fmap.entries e.1.revisions) in
    ap (λ (hs : List Harvested). length (filter (λ h. is_ahead last h.revision) hs)) (harvests_of-push es e)
    ∙ (ap length (filter-append (λ h. is_ahead last h.revision) (harvests_of es) own)
    ∙ (length-append (filter (λ h. is_ahead last h.revision) (harvests_of es)) (filter (λ h. is_ahead last h.revision) own)
    ∙ ap (λ (n : ℕ). ahead_in last es + n) (count_at last e.0 e.1.is_whole (fmap.entries e.1.revisions))))

pub all_counted : (last : ℕ) (x : Entries) (es : List (Key × Kept)) → es ≡ fmap.entries x → ahead_in last es ≡ left_out last x
unfolding adds
all_counted last x es all = ap (ahead_in last) all

pub none_left : (a n : ℕ) → n ≡ min a (2 ^ 64 - 1) → n ≡ 0 → a ≡ 0
none_left a n e z = omega (arith, e, z)

pub counted_on : (a b n : ℕ) → n ≡ min a (2 ^ 64 - 1) → min (n + b) (2 ^ 64 - 1) ≡ min (a + b) (2 ^ 64 - 1)
counted_on a b n e = omega (arith, e)

pub one_if : (b : Bool) → bool_byte b ≡ cond b 1 0
one_if true = refl
one_if false = refl

pub at_most_one : (b : Bool) (n : ℕ) → n ≡ bool_byte b → n ≤ 1
at_most_one true n e = omega (arith, e)
at_most_one false n e = omega (arith, e)

pub key_at : (keys : List ℕ) (k key : ℕ) → slice_get keys k ≡ Some key → (k < length keys) × (get_or keys k 0 ≡ key)
key_at keys k key at = (slice_get_within keys k key at, get_or_from_slice_get keys k key 0 at)

pub keys_length : (m : Revisions) → fmap.len m ≡ length (fmap.keys m)
keys_length m = fmap.len-entries m ∙ sym (length-map (fmap.entries m) (λ e. e.0))

T_true : (b : Bool) → T b → b ≡ true
T_true true t = refl
T_true false t = absurd t

-- there is a whole revision where the entry says so
pub some_whole : (kept : Kept) → is_some (whole kept) ≡ kept.is_whole
some_whole kept =
    elim kept.is_whole as (λ b. is_some (cond b (least kept.revisions) None) ≡ b) [
      | true ↦ T_true (is_some (least kept.revisions)) kept.some
      | false ↦ refl
    ]
