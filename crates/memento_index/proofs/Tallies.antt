-- Lists with counts, parted at a memento.
use Rattle.std.proofs.Common.{◌≡◌, ℕ, zero, suc, ◌+◌, ◌-◌, ◌<◌, ◌≤◌, Bool, true, false, cond, List, [], ◌∷◌, ◌++◌}
use Rattle.std.proofs.Common.{reverse, length, get_or, drop, Option, Some, None, option_to_list, append_assoc, refl}
use Rattle.std.proofs.Common.{sym, ap, ◌∙◌, subst, arith}
use Rattle.std.specs.Option.{IfSome}
use Rattle.std.specs.List.{slice_get}
use Rattle.std.specs.declared.cmp.Ordering.{Ordering}
use Rattle.std.specs.declared.cmp.Ordering.TheVariants.{Less, Equal, Greater}
use Rattle.std.specs.Ordering.{eq_by_cmp, is_eq, is_lt, ordering_reverse}
use Rattle.std.specs.Cmp.{tied_itself}
use Rattle.std.proofs.lemmas.Bool.{true≢false}
use Rattle.std.specs.Prelude.{unwrap_or}
use Rattle.std.proofs.lemmas.List.{reverse-append}
use Rattle.memento_time.specs.Mementos.{memento_cmp}
use Rattle.memento_time.specs.declared.mementos.Memento.{Memento}
use Rattle.memento_time.proofs.MementoLemmas.{memento_cmp_total, memento_cmp_exact}
use Rattle.memento_index.specs.Counts.{mementos_of, whole, once, count_of, AreBelow, AreAbove, IsTally, beginnings, endings, occurrences}
use Rattle.std.proofs.lemmas.List.{at_drop_more}
use Rattle.std.proofs.lemmas.List.Sorted.{sum_by-IsPermutation}
use Rattle.std.specs.List.{sum_by}
use Rattle.std.proofs.lemmas.List.Sums.{sum_by-cons}
use Rattle.std.specs.List.Sorted.{IsPermutation}
use Rattle.memento_index.specs.declared.counted.Step.{Step}
use Rattle.memento_index.specs.declared.counted.Counted.{Counted}
use Rattle.memento_sets.proofs.Searched.{less}

-- what comes off the one list goes onto the other
pub moved : (list rest lifted : List Counted) (e : Counted) → list ≡ rest ++ e ∷ [] → whole rest (lifted ++ e ∷ []) ≡ whole list lifted
moved list rest lifted e is =
    ap (λ (xs : List Counted). rest ++ xs) (reverse-append lifted (e ∷ []))
    ∙ (sym (append_assoc rest (e ∷ []) (reverse lifted)) ∙ ap (λ (xs : List Counted). xs ++ reverse lifted) (sym is))

pub moved_back : (list lifted rest : List Counted) (e : Counted) → lifted ≡ rest ++ e ∷ [] → whole (list ++ e ∷ []) rest ≡ whole list lifted
moved_back list lifted rest e is = sym (moved (list ++ e ∷ []) list rest e refl) ∙ ap (whole list) (sym is)

-- all but the last are below a memento that the last is below
less_than : (a b c : Memento) → memento_cmp a b ≡ Less → memento_cmp b c ≡ Less → memento_cmp a c ≡ Less
less_than a b c = memento_cmp_total.trans a b c

all_above : (m : Memento) (n : Memento) (es : List Counted) → memento_cmp m n ≡ Less → AreAbove n es → AreAbove m es
all_above m n [] lt above = tt
all_above m n (e ∷ es) lt above = (less_than m n e.memento lt above.0, all_above m n es lt above.1)

pub below_front : (m : Memento) (rest behind : List Counted) (e : Counted) → IsTally ((rest ++ e ∷ []) ++ behind)
    → memento_cmp e.memento m ≡ Less → AreBelow m (rest ++ e ∷ [])
below_front m [] behind e up lt = (lt, tt)
below_front m (x ∷ rest) behind e up lt = (less_than x.memento e.memento m (last_above x.memento rest behind e up.1) lt, below_front m rest behind e up.2 lt)
  where
    last_above : (n : Memento) (rest behind : List Counted) (e : Counted) → AreAbove n ((rest ++ e ∷ []) ++ behind) → memento_cmp n e.memento ≡ Less
    last_above n [] behind e above = above.0
    last_above n (x ∷ rest) behind e above = last_above n rest behind e above.1

-- where the last is below a memento, all are
pub below_last : (m last : Memento) (es : List Counted) (place : ℕ) → slice_get (mementos_of es) place ≡ Some last
    → place ≡ length (mementos_of es) - 1 → memento_cmp last m ≡ Less → IsTally es → AreBelow m es
below_last m last [] place at is lt up = tt
below_last m last (e ∷ []) zero at is lt up = (subst (λ n. memento_cmp n m ≡ Less) (sym (ap (λ o. unwrap_or o e.memento) at)) lt, tt)
below_last m last (e ∷ []) (suc place) at is lt up = absurd (omega (arith, is))
below_last m last (e ∷ f ∷ es) zero at is lt up = absurd (omega (arith, is))
below_last m last (e ∷ f ∷ es) (suc place) at is lt up =
    let rest = below_last m last (f ∷ es) place at (omega (arith, is)) lt up.2 in
    (less_than e.memento f.memento m up.1.0 rest.0, rest)

pub below_more : (m : Memento) (es : List Counted) (e : Counted) → AreBelow m es → memento_cmp e.memento m ≡ Less → AreBelow m (es ++ e ∷ [])
below_more m [] e below lt = (lt, tt)
below_more m (x ∷ es) e below lt = (below.0, below_more m es e below.1 lt)

-- what stands before a part is a tally too
pub tally_before : (es behind : List Counted) → IsTally (es ++ behind) → IsTally es
tally_before [] behind up = tt
tally_before (e ∷ es) behind up = (up.0, above_before e.memento es behind up.1, tally_before es behind up.2)
  where
    above_before : (m : Memento) (es behind : List Counted) → AreAbove m (es ++ behind) → AreAbove m es
    above_before m [] behind above = tt
    above_before m (e ∷ es) behind above = (above.0, above_before m es behind above.1)

-- what stands behind a part is a tally too
tally_behind : (front es : List Counted) → IsTally (front ++ es) → IsTally es
tally_behind [] es up = up
tally_behind (x ∷ front) es up = tally_behind front es up.2

-- a part that is put in, or left out
above_parts : (m : Memento) (a b : List Counted) → AreAbove m (a ++ b) → AreAbove m b
above_parts m [] b above = above
above_parts m (x ∷ a) b above = above_parts m a b above.1

above_join : (m : Memento) (a b : List Counted) → AreAbove m (a ++ b) → (c : List Counted) → AreAbove m c → AreAbove m (a ++ c)
above_join m [] b above c more = more
above_join m (x ∷ a) b above c more = (above.0, above_join m a b above.1 c more)

-- without the memento itself
pub left_out : (a : List Counted) (r : Option Counted) (b : List Counted) → IsTally (a ++ (option_to_list r ++ b)) → IsTally (a ++ b)
left_out a None b up = up
left_out [] (Some e) b up = up.2
left_out (x ∷ a) (Some e) b up = (up.0, above_join x.memento a (e ∷ b) up.1 b (above_parts x.memento a (e ∷ b) up.1).1, left_out a (Some e) b up.2)

-- and with it, between those below it and those above it
pub put_in : (a b : List Counted) (e : Counted) → IsTally (a ++ b) → AreBelow e.memento a → AreAbove e.memento b → 0 < e.count → IsTally ((a ++ e ∷ []) ++ b)
put_in [] b e up below above some = (some, above, up)
put_in (x ∷ a) b e up below above some = (
  up.0,
  subst (AreAbove x.memento) (sym (append_assoc a (e ∷ []) b))
      (above_join x.memento a b up.1 (e ∷ b) (below.0, above_parts x.memento a b up.1)),
  put_in a b e up.2 below.1 above some,
)

-- ---- counts

pub count-append : (a b : List Counted) (x : Memento) → count_of (a ++ b) x ≡ count_of a x + count_of b x
count-append [] b x = omega arith
count-append (e ∷ a) b x = let h = count-append a b x in omega (arith, h)

unlike : (x m : Memento) → memento_cmp x m ≡ Less → (n : ℕ) → cond (eq_by_cmp memento_cmp x m) n 0 ≡ 0
unlike x m lt n = ap (λ o. cond (is_eq o) n 0) lt

unlike_back : (x m : Memento) → memento_cmp m x ≡ Less → (n : ℕ) → cond (eq_by_cmp memento_cmp x m) n 0 ≡ 0
unlike_back x m lt n = ap (λ o. cond (is_eq o) n 0) (memento_cmp_total.antisymm x m ∙ ap ordering_reverse lt)

none_below : (m : Memento) (es : List Counted) → AreBelow m es → count_of es m ≡ 0
none_below m [] below = refl
none_below m (e ∷ es) below = let h = none_below m es below.1 in let o = unlike_back m e.memento below.0 e.count in omega (arith, h, o)

none_above : (m : Memento) (es : List Counted) → AreAbove m es → count_of es m ≡ 0
none_above m [] above = refl
none_above m (e ∷ es) above = let h = none_above m es above.1 in let o = unlike m e.memento above.0 e.count in omega (arith, h, o)

-- the count is that of the one taken out
abbrev pub taken : Option Counted → ℕ
taken None = 0
taken (Some e) = e.count

once_or_not : (x m : Memento) (n : ℕ) → cond (eq_by_cmp memento_cmp x m) (n + 1) 0 ≡ cond (eq_by_cmp memento_cmp x m) n 0 + once x m
once_or_not x m n = elim (eq_by_cmp memento_cmp x m) as (λ b. cond b (n + 1) 0 ≡ cond b n 0 + cond b 1 0) [ true ↦ refl | false ↦ refl ]

-- ---- steps of the code

pub lt_is : (o : Ordering) → is_lt o ≡ true → o ≡ Less
lt_is Less h = refl
lt_is Equal h = absurd (true≢false (sym h))
lt_is Greater h = absurd (true≢false (sym h))

pub above_top : (list lifted rest : List Counted) (e : Counted) → lifted ≡ rest ++ e ∷ [] → IsTally (whole list lifted) → AreAbove e.memento (reverse rest)
above_top list lifted rest e is up =
    let there : IsTally (list ++ (e ∷ reverse rest)) = subst (λ (xs : List Counted). IsTally (list ++ xs)) (ap reverse is ∙ reverse-append rest (e ∷ [])) up in
    (tally_behind list (e ∷ reverse rest) there).1

pub above_all : (m : Memento) (rest : List Counted) (e : Counted) → memento_cmp e.memento m ≡ Greater
    → AreAbove e.memento (reverse rest) → AreAbove m (reverse (rest ++ e ∷ []))
above_all m rest e gt above =
    subst (AreAbove m) (sym (reverse-append rest (e ∷ []))) (less e.memento m gt, all_above m e.memento (reverse rest) (less e.memento m gt) above)

pub same_memento : (a b : Memento) → memento_cmp a b ≡ Equal → a ≡ b
same_memento a b tie = memento_cmp_exact a b tie

-- what is known of the parts
pub record IsParted (m : Memento) (a b old : List Counted) (r : Option Counted) : Type 0 where
  pub parts : a ++ (option_to_list r ++ b) ≡ old
  pub below : AreBelow m a
  pub above : AreAbove m b
  pub found : IfSome r (λ e. e.memento ≡ m)
  pub tally : IsTally old

-- what a list and what is lifted come to, once a memento is taken out
pub parted_at : (m : Memento) (a b made old : List Counted) (r : Option Counted) → a ++ (option_to_list r ++ b) ≡ made
    → AreBelow m a → AreAbove m b → IfSome r (λ e. e.memento ≡ m) → made ≡ old → IsTally old → IsParted m a b old r
parted_at m a b made old r parts below above found is tally = record {
  parts = parts ∙ is;
  below = below;
  above = above;
  found = found;
  tally = tally;
}

-- with this count in the middle
pub tally_with : (m : Memento) (a b old : List Counted) (r : Option Counted) (n : ℕ) → IsParted m a b old r → 0 < n
    → IsTally ((a ++ record { memento = m; count = n } ∷ []) ++ b)
tally_with m a b old r n p some = put_in a b (record { memento = m; count = n }) (left_out a r b (subst IsTally (sym p.parts) p.tally)) p.below p.above some

pub tally_without : (m : Memento) (a b old : List Counted) (r : Option Counted) → IsParted m a b old r → IsTally (a ++ b)
tally_without m a b old r p = left_out a r b (subst IsTally (sym p.parts) p.tally)

either_none : (t : Bool) → cond {A = ℕ} t 0 0 ≡ 0
either_none true = refl
either_none false = refl

-- the memento's count, among the parts
pub count_parts : (m : Memento) (a b old : List Counted) (r : Option Counted) → IsParted m a b old r → (x : Memento)
    → count_of old x ≡ count_of a x + (cond (eq_by_cmp memento_cmp x m) (taken r) 0 + count_of b x)
count_parts m a b old None p x =
    let whole_is = ap (λ (es : List Counted). count_of es x) (sym p.parts) in
    let none = either_none (eq_by_cmp memento_cmp x m) in
    omega (arith, whole_is, count-append a b x, none)
count_parts m a b old (Some e) p x =
    let whole_is = ap (λ (es : List Counted). count_of es x) (sym p.parts) in
    let same : cond (eq_by_cmp memento_cmp x e.memento) e.count 0 ≡ cond (eq_by_cmp memento_cmp x m) e.count 0 =
    ap (λ y. cond (eq_by_cmp memento_cmp x y) e.count 0) p.found in
    omega (arith, whole_is, count-append a (e ∷ b) x, same)

pub count_itself : (m : Memento) (a b old : List Counted) (r : Option Counted) → IsParted m a b old r → count_of old m ≡ taken r
count_itself m a b old r p =
    let all = count_parts m a b old r p m in
    let one : cond (eq_by_cmp memento_cmp m m) (taken r) 0 ≡ taken r = ap (λ o. cond (is_eq o) (taken r) 0) (tied_itself memento_cmp_total m) in
    omega (arith, all, one, none_below m a p.below, none_above m b p.above)

-- one archive more
pub counts_more : (m : Memento) (a b old : List Counted) (r : Option Counted) (n : ℕ) → IsParted m a b old r
    → n ≡ taken r + 1 → (x : Memento) → count_of ((a ++ record { memento = m; count = n } ∷ []) ++ b) x
    ≡ count_of old x + once x m
counts_more m a b old r n p is x =
    let all = count_parts m a b old r p x in
    let here = count-append (a ++ record { memento = m; count = n } ∷ []) b x in
    let there = count-append a (record { memento = m; count = n } ∷ []) x in
    let more : cond (eq_by_cmp memento_cmp x m) n 0 ≡ cond (eq_by_cmp memento_cmp x m) (taken r) 0 + once x m =
    ap (λ k. cond (eq_by_cmp memento_cmp x m) k 0) is ∙ once_or_not x m (taken r) in
    omega (arith, all, here, there, more)

-- one archive less, of several
pub counts_less : (m : Memento) (a b old : List Counted) (r : Option Counted) (n : ℕ) → IsParted m a b old r
    → n + 1 ≡ taken r → (x : Memento) → count_of ((a ++ record { memento = m; count = n } ∷ []) ++ b) x + once x m
    ≡ count_of old x
counts_less m a b old r n p is x =
    let all = count_parts m a b old r p x in
    let here = count-append (a ++ record { memento = m; count = n } ∷ []) b x in
    let there = count-append a (record { memento = m; count = n } ∷ []) x in
    let less : cond (eq_by_cmp memento_cmp x m) (taken r) 0 ≡ cond (eq_by_cmp memento_cmp x m) n 0 + once x m =
    ap (λ k. cond (eq_by_cmp memento_cmp x m) k 0) (sym is) ∙ once_or_not x m n in
    omega (arith, all, here, there, less)

-- and of one
pub counts_last : (m : Memento) (a b old : List Counted) (r : Option Counted) → IsParted m a b old r → taken r ≡ 1
    → (x : Memento) → count_of (a ++ b) x + once x m ≡ count_of old x
counts_last m a b old r p is x =
    let all = count_parts m a b old r p x in
    let here = count-append a b x in
    let one : cond (eq_by_cmp memento_cmp x m) (taken r) 0 ≡ once x m = ap (λ k. cond (eq_by_cmp memento_cmp x m) k 0) is in
    omega (arith, all, here, one)

-- ---- many steps

pub beginnings-push : (ss : List Step) (s : Step) (x : Memento) → beginnings (ss ++ s ∷ []) x ≡ beginnings ss x + cond s.begins (once x s.memento) 0
beginnings-push [] s x = omega arith
beginnings-push (t ∷ ss) s x = let h = beginnings-push ss s x in omega (arith, h)

pub endings-push : (ss : List Step) (s : Step) (x : Memento) → endings (ss ++ s ∷ []) x ≡ endings ss x + cond s.begins 0 (once x s.memento)
endings-push [] s x = omega arith
endings-push (t ∷ ss) s x = let h = endings-push ss s x in omega (arith, h)

pub once_itself : (m : Memento) → once m m ≡ 1
once_itself m = ap (λ o. cond (is_eq o) 1 0) (tied_itself memento_cmp_total m)

-- what is still to be counted of the steps, and what is counted now
pub record IsBetween (all rest : List Step) (old now : List Counted) : Type 0 where
  pub counts : (x : Memento) → count_of now x + (beginnings rest x + endings all x) ≡ count_of old x + (beginnings all x + endings rest x)
  pub shown : (x : Memento) → endings rest x ≤ count_of now x
  pub few : (x : Memento) → count_of now x + beginnings rest x ≤ 18446744073709551615

pub begun_step : (all ss rest : List Step) (s : Step) (old now after : List Counted) → ss ≡ s ∷ rest → s.begins ≡ true
    → IsBetween all ss old now → ((x : Memento) → count_of after x ≡ count_of now x + once x s.memento)
    → IsBetween all rest old after
begun_step all ss rest s old now after is begins between more = record {
  counts = λ x. omega (arith, between.counts x, more x, begun_is x, ceased_is x);
  shown = λ x. omega (arith, between.shown x, more x, ceased_is x);
  few = λ x. omega (arith, between.few x, more x, begun_is x);
}
  where
    begun_is : (x : Memento) → beginnings ss x ≡ once x s.memento + beginnings rest x
    begun_is x = ap (λ (ts : List Step). beginnings ts x) is ∙ ap (λ b. cond b (once x s.memento) 0 + beginnings rest x) begins

    ceased_is : (x : Memento) → endings ss x ≡ 0 + endings rest x
    ceased_is x = ap (λ (ts : List Step). endings ts x) is ∙ ap (λ b. cond b 0 (once x s.memento) + endings rest x) begins

pub ceased_step : (all ss rest : List Step) (s : Step) (old now after : List Counted) → ss ≡ s ∷ rest → s.begins ≡ false
    → IsBetween all ss old now → ((x : Memento) → count_of after x + once x s.memento ≡ count_of now x)
    → IsBetween all rest old after
ceased_step all ss rest s old now after is begins between less = record {
  counts = λ x. omega (arith, between.counts x, less x, begun_is x, ceased_is x);
  shown = λ x. omega (arith, between.shown x, less x, ceased_is x);
  few = λ x. omega (arith, between.few x, less x, begun_is x);
}
  where
    begun_is : (x : Memento) → beginnings ss x ≡ 0 + beginnings rest x
    begun_is x = ap (λ (ts : List Step). beginnings ts x) is ∙ ap (λ b. cond b (once x s.memento) 0 + beginnings rest x) begins

    ceased_is : (x : Memento) → endings ss x ≡ once x s.memento + endings rest x
    ceased_is x = ap (λ (ts : List Step). endings ts x) is ∙ ap (λ b. cond b 0 (once x s.memento) + endings rest x) begins

-- the step in turn begins, so there is room to count it
pub may_begin : (all ss rest : List Step) (s : Step) (old now : List Counted) → ss ≡ s ∷ rest → s.begins ≡ true
    → IsBetween all ss old now → count_of now s.memento < 18446744073709551615
may_begin all ss rest s old now is begins between =
    let few = between.few s.memento in
    let push = ap (λ (ts : List Step). beginnings ts s.memento) is ∙ ap (λ b. cond b (once s.memento s.memento) 0 + beginnings rest s.memento) begins in
    omega (arith, few, push, once_itself s.memento)

-- or it ceases, and it is counted
pub may_cease : (all ss rest : List Step) (s : Step) (old now : List Counted) → ss ≡ s ∷ rest → s.begins ≡ false
    → IsBetween all ss old now → 0 < count_of now s.memento
may_cease all ss rest s old now is begins between =
    let shown = between.shown s.memento in
    let push = ap (λ (ts : List Step). endings ts s.memento) is ∙ ap (λ b. cond b 0 (once s.memento s.memento) + endings rest s.memento) begins in
    omega (arith, shown, push, once_itself s.memento)

-- ---- a walk over two lists

pub held_drop : (xs : List Memento) (i : ℕ) (d x : Memento) → i < length xs → occurrences (drop i xs) x
    ≡ once x (get_or xs i d) + occurrences (drop (i + 1) xs) x
held_drop xs i d x lt = at_drop_more (λ (ys : List Memento). occurrences ys x) xs i d lt

pub begun_by : (old new : List Step) (m : Memento) (b : Bool) → new ≡ old ++ record { memento = m; begins = b } ∷ []
    → (x : Memento) → beginnings new x ≡ beginnings old x + cond b (once x m) 0
begun_by old new m b is x = ap (λ (ss : List Step). beginnings ss x) is ∙ beginnings-push old (record { memento = m; begins = b }) x

pub ceased_by : (old new : List Step) (m : Memento) (b : Bool) → new ≡ old ++ record { memento = m; begins = b } ∷ []
    → (x : Memento) → endings new x ≡ endings old x + cond b 0 (once x m)
ceased_by old new m b is x = ap (λ (ss : List Step). endings ss x) is ∙ endings-push old (record { memento = m; begins = b }) x

-- ---- steps in another order

begins_one : Memento → Step → ℕ
begins_one x s = cond s.begins (once x s.memento) 0

ceases_one : Memento → Step → ℕ
ceases_one x s = cond s.begins 0 (once x s.memento)

begun_sum : (ss : List Step) (x : Memento) → beginnings ss x ≡ sum_by (begins_one x) ss
unfolding begins_one
begun_sum [] x = refl
begun_sum (s ∷ ss) x = ap (λ n. cond s.begins (once x s.memento) 0 + n) (begun_sum ss x) ∙ sym (sum_by-cons (begins_one x) s ss)

ceased_sum : (ss : List Step) (x : Memento) → endings ss x ≡ sum_by (ceases_one x) ss
unfolding ceases_one
ceased_sum [] x = refl
ceased_sum (s ∷ ss) x = ap (λ n. cond s.begins 0 (once x s.memento) + n) (ceased_sum ss x) ∙ sym (sum_by-cons (ceases_one x) s ss)

pub beginnings-IsPermutation : (ss ts : List Step) (x : Memento) → IsPermutation ss ts → beginnings ts x ≡ beginnings ss x
beginnings-IsPermutation ss ts x h = begun_sum ts x ∙ (sum_by-IsPermutation (begins_one x) ss ts h ∙ sym (begun_sum ss x))

pub endings-IsPermutation : (ss ts : List Step) (x : Memento) → IsPermutation ss ts → endings ts x ≡ endings ss x
endings-IsPermutation ss ts x h = ceased_sum ts x ∙ (sum_by-IsPermutation (ceases_one x) ss ts h ∙ sym (ceased_sum ss x))

-- no step begins more than one
pub beginnings-le : (ss : List Step) (x : Memento) → beginnings ss x ≤ length ss
beginnings-le [] x = omega arith
beginnings-le (s ∷ ss) x = let rest = beginnings-le ss x in let one = one-le s.begins (eq_by_cmp memento_cmp x s.memento) in omega (arith, rest, one)
  where
    one-le : (a b : Bool) → cond a (cond b 1 0) 0 ≤ 1
    one-le true true = omega arith
    one-le true false = omega arith
    one-le false b = omega arith

pub no_steps : (ss : List Step) → length ss ≡ 0 → ss ≡ []
no_steps [] h = refl
no_steps (s ∷ ss) h = absurd (omega arith)
