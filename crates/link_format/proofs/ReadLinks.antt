-- How far a text is read, link by link.
use Rattle.std.proofs.Common.{◌≡◌, ℕ, zero, suc, ◌-◌, ◌+◌, ◌≤◌, List, [], ◌∷◌, ◌++◌, length, take, drop, get_or, Option, Some, None, Ok, Err, refl, sym, ap, subst, ◌∙◌, arith, inl, inr}
use Rattle.std.specs.Prelude.{MatchOption}
use Rattle.std.specs.List.{slice_get, AllByRecursion}
use Rattle.std.proofs.lemmas.List.{append-nil, length-append}
use Rattle.std.proofs.lemmas.Option.{same_Some}
use Rattle.link_format.specs.Grammar.{Link, Reading}
use Rattle.link_format.specs.Limits.{IsAnswer, FewParams, ShortTargets}
use Rattle.link_format.specs.Reader.{reading_left, with_left, BeginsWith, IsSamePlace, IsWithin, StandBefore, StandsBehind, IsReadTo}
use Rattle.link_format.specs.Scan.{reading_of}
use Rattle.link_format.specs.Walk.{in_list, left_by}
use Rattle.link_format.specs.declared.fault.LinkFault.TheVariants.{NotLinkFormat}
use Rattle.link_format.proofs.Answer.{stopped}
use Rattle.link_format.proofs.Begins.{up_to_more}
use Rattle.link_format.proofs.Complete.{reading_complete}
use Rattle.link_format.proofs.Sound.{bind_some, reading_sound}
use Rattle.link_format.proofs.Steps.{option_cases}

-- ---- lists

head_of : (x y : Link) (xs ys : List Link) → x ∷ xs ≡ y ∷ ys → (x ≡ y) × (xs ≡ ys)
head_of x y xs ys e = (ap (λ (l : List Link). get_or l 0 x) e, ap (λ (l : List Link). drop 1 l) e)

-- the element behind this many others
behind : (k : ℕ) (all more : List Link) (link : Link) → drop k all ≡ link ∷ more
    → (slice_get all k ≡ Some link) × (drop (k + 1) all ≡ more) × (k + 1 ≤ length all) × (take (k + 1) all ≡ take k all ++ link ∷ [])
behind zero [] more link e = absurd cc
behind zero (x ∷ all) more link e =
    let p = head_of x link all more e in
    (ap (λ (l : Link). Some l) p.0, p.1, omega arith, ap (λ (l : Link). l ∷ []) p.0)
behind (suc k) [] more link e = absurd cc
behind (suc k) (x ∷ all) more link e =
    let p = behind k all more link e in
    let next : suc k + 1 ≡ suc (k + 1) = omega arith in
    rw next (p.0, p.1, omega (arith, p.2), ap (λ (ls : List Link). x ∷ ls) p.3)

all_with : (P : Link → Type 0) (links : List Link) (link : Link) → AllByRecursion P links → P link → AllByRecursion P (links ++ link ∷ [])
all_with P [] link all h = (h, tt)
all_with P (x ∷ links) link all h = (all.0, all_with P links link all.1 h)

all_at : (P : Link → Type 0) (links : List Link) (k : ℕ) (link : Link) → slice_get links k ≡ Some link → AllByRecursion P links → P link
all_at P [] k link at all = absurd cc
all_at P (x ∷ links) zero link at all = subst P (same_Some x link at) all.0
all_at P (x ∷ links) (suc k) link at all = all_at P links k link at all.1

dropped_all : (k : ℕ) (all : List Link) → drop k all ≡ [] → k ≤ length all → (length all ≡ k) × (take k all ≡ all)
dropped_all zero [] e within = (refl, refl)
dropped_all zero (x ∷ all) e within = absurd cc
dropped_all (suc k) [] e within = absurd (omega (arith, within))
dropped_all (suc k) (x ∷ all) e within =
    let p = dropped_all k all e (omega (arith, within)) in
    (omega (arith, p.0), ap (λ (ls : List Link). x ∷ ls) p.1)

-- ---- the links of the rest

-- a link and those behind it
more_left : (link : Link) (after : Option (List ℕ)) (links : List Link) → with_left (link ∷ []) after ≡ Some links
    → (more : List Link) × (reading_left after ≡ Some more) × (links ≡ link ∷ more)
more_left link after links e =
    let b = bind_some (reading_left after) (λ more. Some (link ∷ more)) links e in
    (b.0, b.1, sym (same_Some (link ∷ b.0) links b.2))

-- none behind it, where there are none with it
none_left : (link : Link) (after : Option (List ℕ)) → with_left (link ∷ []) after ≡ None → reading_left after ≡ None
none_left link after e =
    elim (option_cases (reading_left after)) [
      | inl none ↦ none
      | inr some ↦ absurd (let k : Some (link ∷ some.0) ≡ None = rw some.1 at e in cc)
    ]

stand_of : (text : List ℕ) (rest : Option (List ℕ)) (count : ℕ) (links : List Link) → IsReadTo text rest count → reading_of text ≡ Some links → StandBefore rest count links
stand_of text rest count links is e = subst (λ (o : Option (List Link)). MatchOption o (reading_left rest ≡ None) (StandBefore rest count)) e is.links

-- of a text that has a reading, the next link and those behind it
next_of : (text rest : List ℕ) (after : Option (List ℕ)) (count : ℕ) (link : Link) (links : List Link) → IsReadTo text (Some rest) count
    → with_left (link ∷ []) after ≡ reading_of rest → reading_of text ≡ Some links
    → (more : List Link) × (reading_left after ≡ Some more) × (drop count links ≡ link ∷ more)
next_of text rest after count link links is found e =
    let stand = stand_of text (Some rest) count links is e in
    more_left link after (drop count links) (found ∙ stand.left)

pub link_here : (text rest : List ℕ) (after : Option (List ℕ)) (count : ℕ) (link : Link) → IsReadTo text (Some rest) count → with_left (link ∷ []) after ≡ reading_of rest
    → (links : List Link) → Reading text links → slice_get links count ≡ Some link
link_here text rest after count link is found links reads =
    let n = next_of text rest after count link links is found (reading_complete reads) in
    (behind count links n.0 link n.2).0

-- a text that is answered passes no limit at any link
pub within : (text rest : List ℕ) (after : Option (List ℕ)) (count : ℕ) (link : Link) → IsReadTo text (Some rest) count → with_left (link ∷ []) after ≡ reading_of rest
    → (links : List Link) → IsAnswer text (Ok links) → IsWithin count link
within text rest after count link is found links (reads, few, params, targets) =
    let n = next_of text rest after count link links is found (reading_complete reads) in
    let b = behind count links n.0 link n.2 in (
      omega (arith, b.2, few),
      all_at (λ (l : Link). length l.params ≤ 32) links count link b.0 params,
      all_at (λ (l : Link). length l.target ≤ 8192) links count link b.0 targets,
    )

same_place : (text rest : List ℕ) (after : Option (List ℕ)) → left_by in_list rest ≡ left_by in_list text → IsSamePlace rest after → IsSamePlace text after
same_place text rest None e is = tt
same_place text rest (Some more) e is = is ∙ e

-- one link more is read
-- the link that the rest begins with stands behind those that are read
pub stands_behind : (text rest : List ℕ) (after : Option (List ℕ)) (count : ℕ) (link : Link) → IsReadTo text (Some rest) count → BeginsWith rest after (link ∷ []) → StandsBehind count text link
stands_behind text rest after count link is begins =
    (is.given.0, after, up_to_more text rest after is.given.0 (link ∷ []) is.given.1 begins, is.given.2)

pub read_on : (text rest : List ℕ) (after : Option (List ℕ)) (count : ℕ) (link : Link) → IsReadTo text (Some rest) count → with_left (link ∷ []) after ≡ reading_of rest
    → BeginsWith rest after (link ∷ []) → IsSamePlace rest after → IsWithin count link → IsReadTo text after (count + 1)
read_on text rest after count link is found begins place (few, params, target) = record {
  given = (
    is.given.0 ++ link ∷ [],
    inr (up_to_more text rest after is.given.0 (link ∷ []) is.given.1 begins),
    omega (arith, length-append is.given.0 (link ∷ []), is.given.2),
  );
  links = elim (option_cases (reading_of text)) [
    | inl none ↦
        let before : reading_of rest ≡ None = subst (λ (o : Option (List Link)). MatchOption o (reading_of rest ≡ None) (StandBefore (Some rest) count)) none is.links in
        rw none (none_left link after (found ∙ before))
    | inr some ↦
        let n = next_of text rest after count link some.0 is found some.1 in
        let b = behind count some.0 n.0 link n.2 in
        let stand = stand_of text (Some rest) count some.0 is some.1 in
        rw some.1 (record {
          left = n.1 ∙ ap (λ (ls : List Link). Some ls) (sym b.1);
          within = b.2;
          params = subst FewParams (sym b.3) (all_with (λ (l : Link). length l.params ≤ 32) (take count some.0) link stand.params params);
          targets = subst ShortTargets (sym b.3) (all_with (λ (l : Link). length l.target ≤ 8192) (take count some.0) link stand.targets target);
        })
  ];
  place = same_place text rest after is.place place;
  few = omega (arith, few);
}

-- where no link is left, all are read
pub at_end : (text : List ℕ) (rest : Option (List ℕ)) (count : ℕ) → IsReadTo text rest count → reading_left rest ≡ Some [] → (links : List Link) × IsAnswer text (Ok links) × (length links ≡ count)
at_end text rest count is end =
    elim (option_cases (reading_of text)) [
      | inl none ↦
          let before : reading_left rest ≡ None = subst (λ (o : Option (List Link)). MatchOption o (reading_left rest ≡ None) (StandBefore rest count)) none is.links in
          absurd (let k : Some [] ≡ None = sym end ∙ before in cc)
      | inr some ↦
          let stand = stand_of text rest count some.0 is some.1 in
          let d = dropped_all count some.0 (same_Some (drop count some.0) [] (sym stand.left ∙ end)) stand.within in (
            some.0,
            (reading_sound text some.0 some.1, omega (arith, d.0, is.few), subst FewParams d.1 stand.params, subst ShortTargets d.1 stand.targets),
            d.0,
          )
    ]

-- then nothing is left
pub read_to_end : (text : List ℕ) (rest : Option (List ℕ)) (count : ℕ) → IsReadTo text rest count → reading_left rest ≡ Some [] → IsReadTo text None count
read_to_end text rest count is end =
    let all = at_end text rest count is end in
    let found = reading_complete all.1.0 in
    let stand = stand_of text rest count all.0 is found in
    record {
      given = (all.0, inr (text, sym (append-nil text), all.1.0), all.2);
      links = rw found (record { left = sym end ∙ stand.left; within = stand.within; params = stand.params; targets = stand.targets });
      place = tt;
      few = is.few;
    }

-- where the rest has no reading, the text has none
pub at_fault : (text rest : List ℕ) (count left at : ℕ) → IsReadTo text (Some rest) count → reading_of rest ≡ None → left ≡ left_by in_list rest → at ≡ length text - left
    → IsAnswer text (Err (NotLinkFormat at))
at_fault text rest count left at is none e f =
    let reading : reading_of text ≡ None =
    elim (option_cases (reading_of text)) [
      | inl missing ↦ missing
      | inr some ↦ absurd (let k : None ≡ Some (drop count some.0) = sym none ∙ (stand_of text (Some rest) count some.0 is some.1).left in cc)
    ] in
    stopped text (NotLinkFormat at) (reading, f ∙ ap (λ n. length text - n) (e ∙ is.place))
