-- Beginnings of a text that end with an element.
use Rattle.std.proofs.Common.{◌≡◌, ℕ, zero, suc, List, [], ◌∷◌, ◌++◌, length, drop, get_or, Option, Some, None, refl, sym, ap, subst, subst₂, ◌∙◌, append_assoc, arith, inl, inr, ◌⊎◌}
use Rattle.std.specs.List.{slice_get}
use Rattle.std.proofs.lemmas.List.{append-nil}
use Rattle.std.proofs.lemmas.Option.{same_Some}
use Rattle.link_format.specs.Bytes.{is_blank}
use Rattle.link_format.specs.Grammar as grammar
use Rattle.link_format.specs.Grammar.{Link, IsBlank, ElementText, ElementsText, Reading}
use Rattle.link_format.specs.Scan.{front, past, element_at, links_in, reading_of}
use Rattle.link_format.specs.Reader.{and_rest, BeginsWith, StandsBehind, StandUpTo}
use Rattle.link_format.proofs.Complete.{element_again, blank_ends, past_again, reading_complete}
use Rattle.link_format.proofs.Sound.{bind_some, blanks, element_sound, front_each, reading_last, reading_more}

-- ---- an element at the front

element_begins : (text : List ℕ) (x : List Link × List ℕ) (rest : Option (List ℕ)) → element_at (past is_blank text) ≡ Some x → x.1 ≡ and_rest rest → BeginsWith text rest x.0
element_begins text x rest e r =
    let s = element_sound (past is_blank text) x e in
    let before = front is_blank text in
    let beginning : List ℕ = before ++ (s.0 ++ s.1) in
    let whole : text ≡ beginning ++ and_rest rest = blanks text ∙ ap (λ (t : List ℕ). before ++ t) (s.2 ∙ ap (λ (t : List ℕ). s.0 ++ (s.1 ++ t)) r) ∙ sym (simp append_assoc) in
    let parts : beginning ≡ before ++ (s.0 ++ (s.1 ++ [])) = sym (simp append-nil) in
    (beginning, whole, reading_last before s.0 s.1 beginning x.0 (front_each is_blank text) s.4 s.3 parts)

pub element_ends : (text : List ℕ) (x : List Link × List ℕ) → element_at (past is_blank text) ≡ Some x → x.1 ≡ [] → BeginsWith text None x.0
element_ends text x e r = element_begins text x None e r

pub element_goes_on : (text rest : List ℕ) (x : List Link × List ℕ) → element_at (past is_blank text) ≡ Some x → x.1 ≡ 44 ∷ rest → BeginsWith text (Some rest) x.0
element_goes_on text rest x e r = element_begins text x (Some rest) e r

-- ---- one beginning behind the other

regroup_elements : (before text before' after' text' rest' behind : List ℕ)
    → before ++ (text ++ ((before' ++ 44 ∷ after' ++ text' ++ rest') ++ behind)) ≡ before ++ (text ++ (before' ++ 44 ∷ (after' ++ (text' ++ (rest' ++ behind)))))
regroup_elements before text before' after' text' rest' behind = simp append_assoc

join_elements : {rest : List ℕ} {more : List Link} → (before text after behind : List ℕ) (links others : List Link) → IsBlank before → ElementText text links → ElementsText rest more → IsBlank after
    → Reading behind others → Reading (before ++ (text ++ (rest ++ (after ++ 44 ∷ behind)))) ((links ++ more) ++ others)
join_elements before text after behind links others ib el grammar.none ia r =
    subst (λ (ls : List Link). Reading (before ++ (text ++ (after ++ 44 ∷ behind))) (ls ++ others)) (sym (append-nil links)) (reading_more before text after links ib el ia r)
join_elements before text after behind links others ib el (grammar.one before' after' text' rest' links' more' ib' ia' el' es') ia r =
    let made = reading_more before text before' links ib el ib' (join_elements after' text' after behind links' others ia' el' es' ia r) in
    let all : links ++ ((links' ++ more') ++ others) ≡ (links ++ (links' ++ more')) ++ others = sym (append_assoc links (links' ++ more') others) in
    let same = regroup_elements before text before' after' text' rest' (after ++ 44 ∷ behind) in
    subst₂ Reading (sym same) all made

readings_join : {text behind : List ℕ} {links others : List Link} → Reading text links → Reading behind others → Reading (text ++ 44 ∷ behind) (links ++ others)
readings_join {behind} {others} (grammar.list before text rest after links more ib el es ia) r =
    let same : before ++ (text ++ (rest ++ (after ++ 44 ∷ behind))) ≡ (before ++ text ++ rest ++ after) ++ 44 ∷ behind = sym (simp append_assoc) in
    subst (λ (t : List ℕ). Reading t ((links ++ more) ++ others)) same (join_elements before text after behind links others ib el es ia r)

-- what is read goes on by what the rest begins with
pub up_to_more : (text rest : List ℕ) (after : Option (List ℕ)) (links more : List Link) → StandUpTo text (Some rest) links → BeginsWith rest after more → BeginsWith text after (links ++ more)
up_to_more text rest after links more stands begins =
    elim stands [
      | inl start ↦
          let here : BeginsWith text after more = subst (λ (t : List ℕ). BeginsWith t after more) (same_Some rest text start.0) begins in
          subst (λ (ls : List Link). BeginsWith text after (ls ++ more)) (sym start.1) here
      | inr comma ↦
          let whole : text ≡ (comma.0 ++ 44 ∷ begins.0) ++ and_rest after = comma.1 ∙ ap (λ (t : List ℕ). comma.0 ++ 44 ∷ t) begins.1 ∙ sym (append_assoc comma.0 (44 ∷ begins.0) (and_rest after)) in
          (comma.0 ++ 44 ∷ begins.0, whole, readings_join comma.2 begins.2)
    ]

-- ---- a beginning and the whole text

no_count : (text : List ℕ) (all : List Link) → links_in zero text ≡ Some all → ⊥
unfolding links_in
no_count text all e = absurd cc

behind_first : (n : ℕ) (text rest : List ℕ) (links all : List Link) → element_at (past is_blank text) ≡ Some (links, 44 ∷ rest) → links_in (suc n) text ≡ Some all
    → (others : List Link) × (links_in n rest ≡ Some others) × (all ≡ links ++ others)
unfolding links_in
behind_first n text rest links all h e =
    let b = bind_some (links_in n rest) (λ more. Some (links ++ more)) all (rw h at e) in
    (b.0, b.1, sym (same_Some (links ++ b.0) all b.2))

first_is : (before text rest behind : List ℕ) (links : List Link) → IsBlank before → ElementText text links → IsBlank rest
    → element_at (past is_blank (before ++ (text ++ (rest ++ 44 ∷ behind)))) ≡ Some (links, 44 ∷ behind)
first_is before text rest behind links ib el ir =
    element_again before (rest ++ 44 ∷ behind) ib el (blank_ends rest (44 ∷ behind) ir (inr refl)) ∙ ap (λ (t : List ℕ). Some (links, t)) (past_again is_blank rest (44 ∷ behind) ir refl)

cut_elements : {rest : List ℕ} {more : List Link} → (n : ℕ) (before text after behind : List ℕ) (links all : List Link) → IsBlank before
    → ElementText text links → ElementsText rest more → IsBlank after
    → links_in n (before ++ (text ++ (rest ++ (after ++ 44 ∷ behind)))) ≡ Some all → (others : List Link) × (all ≡ (links ++ more) ++ others)
cut_elements zero before text after behind links all ib el es ia e = absurd (no_count _ all e)
cut_elements (suc n) before text after behind links all ib el grammar.none ia e =
    let b = behind_first n (before ++ (text ++ (after ++ 44 ∷ behind))) behind links all (first_is before text after behind links ib el ia) e in
    (b.0, b.2 ∙ ap (λ (ls : List Link). ls ++ b.0) (sym (append-nil links)))
cut_elements (suc n) before text after behind links all ib el (grammar.one before' after' text' rest' links' more' ib' ia' el' es') ia e =
    let inner : List ℕ = after' ++ (text' ++ (rest' ++ (after ++ 44 ∷ behind))) in
    let same = regroup_elements before text before' after' text' rest' (after ++ 44 ∷ behind) in
    let b = behind_first n (before ++ (text ++ (before' ++ 44 ∷ inner))) inner links all (first_is before text before' inner links ib el ib')
    (subst (λ (t : List ℕ). links_in (suc n) t ≡ Some all) same e) in
    let i = cut_elements n after' text' after behind links' b.0 ia' el' es' ia b.1 in
    (i.0, b.2 ∙ ap (λ (ls : List Link). links ++ ls) i.1 ∙ sym (append_assoc links (links' ++ more') i.0))

cut_reading : {beginning : List ℕ} {links : List Link} → (behind : List ℕ) (all : List Link) → Reading beginning links
    → reading_of (beginning ++ 44 ∷ behind) ≡ Some all → (others : List Link) × (all ≡ links ++ others)
unfolding reading_of
cut_reading behind all (grammar.list before text rest after links more ib el es ia) e =
    let same : (before ++ text ++ rest ++ after) ++ 44 ∷ behind ≡ before ++ (text ++ (rest ++ (after ++ 44 ∷ behind))) = simp append_assoc in
    cut_elements (suc (length ((before ++ text ++ rest ++ after) ++ 44 ∷ behind))) before text after behind links all ib el es ia (ap (links_in _) (sym same) ∙ e)

-- the links of a text begin with those of a beginning
begins_reading : (text : List ℕ) (rest : Option (List ℕ)) (links all : List Link) → BeginsWith text rest links → Reading text all → (others : List Link) × (all ≡ links ++ others)
begins_reading text None links all begins reads =
    let of_text : Reading text links = subst (λ (t : List ℕ). Reading t links) (sym (begins.1 ∙ append-nil begins.0)) begins.2 in
    ([], same_Some all links (sym (reading_complete reads) ∙ reading_complete of_text) ∙ sym (append-nil links))
begins_reading text (Some rest) links all begins reads =
    cut_reading rest all begins.2 (ap reading_of (sym begins.1) ∙ reading_complete reads)

-- of two beginnings of one text one begins the other
one_begins : (first second : List ℕ) (s t : List ℕ) → first ++ s ≡ second ++ t
    → ((middle : List ℕ) × (second ≡ first ++ middle) × (s ≡ middle ++ t)) ⊎ ((middle : List ℕ) × (first ≡ second ++ middle) × (t ≡ middle ++ s))
one_begins [] second s t e = inl (second, refl, e)
one_begins (b ∷ first) [] s t e = inr (b ∷ first, refl, sym e)
one_begins (b ∷ first) (c ∷ second) s t e =
    let heads : b ≡ c = ap (λ (l : List ℕ). get_or l 0 b) e in
    let tails : first ++ s ≡ second ++ t = ap (λ (l : List ℕ). drop 1 l) e in
    elim (one_begins first second s t tails) [
      | inl k ↦ inl (k.0, (cc), k.2)
      | inr k ↦ inr (k.0, (cc), k.2)
    ]

-- what stands between their ends is a comma and more, or nothing
middle_is : (rest : Option (List ℕ)) (middle behind : List ℕ) → and_rest rest ≡ middle ++ behind → (inner : Option (List ℕ)) × (middle ≡ and_rest inner)
middle_is rest [] behind e = (None, refl)
middle_is None (b ∷ middle) behind e = absurd cc
middle_is (Some rest) (b ∷ middle) behind e = (Some middle, ap (λ (c : ℕ). c ∷ middle) (sym (ap (λ (l : List ℕ). get_or l 0 b) e)))

later_begins : (first second : List ℕ) (rest : Option (List ℕ)) (middle behind : List ℕ) (links more : List Link) → Reading first links
    → Reading second more → second ≡ first ++ middle → and_rest rest ≡ middle ++ behind
    → (others : List Link) × (more ≡ links ++ others)
later_begins first second rest middle behind links more one two e r =
    let m = middle_is rest middle behind r in
    begins_reading second m.0 links more (first, e ∙ ap (λ (t : List ℕ). first ++ t) m.1, one) two

-- the last of each, where they are as many
same_last : (given others more : List Link) (link other : Link) → length given ≡ length others → others ++ other ∷ [] ≡ (given ++ link ∷ []) ++ more → other ≡ link
same_last [] [] more link other n e = ap (λ (l : List Link). get_or l 0 link) e
same_last [] (x ∷ others) more link other n e = absurd (omega (arith, n))
same_last (x ∷ given) [] more link other n e = absurd (omega (arith, n))
same_last (x ∷ given) (y ∷ others) more link other n e = same_last given others more link other (omega (arith, n)) (ap (λ (l : List Link). drop 1 l) e)

pub one_link : (text : List ℕ) (count : ℕ) (link other : Link) → StandsBehind count text link → StandsBehind count text other → link ≡ other
one_link text count link other (given, rest, begins, n) (others, behind, more, m) =
    elim (one_begins begins.0 more.0 (and_rest rest) (and_rest behind) (sym begins.1 ∙ more.1)) [
      | inl k ↦
          let l = later_begins begins.0 more.0 rest k.0 (and_rest behind) _ _ begins.2 more.2 k.1 k.2 in
          sym (same_last given others l.0 link other (n ∙ sym m) l.1)
      | inr k ↦
          let l = later_begins more.0 begins.0 behind k.0 (and_rest rest) _ _ more.2 begins.2 k.1 k.2 in
          same_last others given l.0 other link (m ∙ sym n) l.1
    ]

last_at : (given more : List Link) (link : Link) → slice_get ((given ++ link ∷ []) ++ more) (length given) ≡ Some link
last_at [] more link = refl
last_at (x ∷ given) more link = last_at given more link

pub link_of_reading : (text : List ℕ) (count : ℕ) (link : Link) (links : List Link) → Reading text links → StandsBehind count text link → slice_get links count ≡ Some link
link_of_reading text count link links reads (given, rest, begins, n) =
    let b = begins_reading text rest (given ++ link ∷ []) links begins reads in
    ap (λ (ls : List Link). slice_get ls count) b.1 ∙ ap (λ (k : ℕ). slice_get ((given ++ link ∷ []) ++ b.0) k) (sym n) ∙ last_at given b.0 link
