-- How a snapshot is written, section by section.
use Rattle.std.proofs.Common.{◌≡◌, ℕ, ◌<◌, ◌≤◌, ◌^◌, ◌+◌, ◌++◌, map, List, [], ◌∷◌, Option, Result, Err, IsErrOf, length, refl, sym, ap, ◌∙◌, subst, arith, append_assoc}
use Rattle.std.specs.Prelude.{T, All, Any, Some, slice_get, codes}
use Rattle.std.specs.List.{flat_map, AllByRecursion}
use Rattle.std.specs.Fmt.{decimal}
use Rattle.std.specs.FinMap as fmap
use Rattle.std.specs.Io.KnownBytes.{Appends}
use Rattle.std.proofs.KnownBytes.{Appends-trans}
use Rattle.std.proofs.lemmas.Fmt.{length-decimal-le}
use Rattle.std.proofs.lemmas.Option.{get_or_from_slice_get}
use Rattle.std.proofs.lemmas.List.{append-nil, length-append, length-map, length_push, map_push}
use Rattle.std.proofs.lemmas.List.Elements.{All-nil, All-push}
use Rattle.harvest_lattice.specs.Lattice.{Key, key_cmp, Kept, Entries}
use Rattle.harvest_lattice.proofs.RowLemmas.{entries_made}
use Rattle.replica_exchange.specs.StateText.{entry_text, state_text, IsEntry, AreEntries}
use Rattle.snapshot_sections.specs.Sections.{first_line, last_line, section_line, section_text, snapshot_text}
use Rattle.snapshots.specs.Cuts.{state_of, entries_joined}
use Rattle.snapshots.specs.Snapshots.{IsReadable, Writes, IsShort, IsLong, longest_body}
use Rattle.snapshots.specs.Standing.{Stands, Ended, IsPart, text_of}
use Rattle.snapshots.proofs.Cutting.{front_rises, back_rises}

push_all : {A : Type 0} (P : A → Type 0) (xs : List A) (x : A) → AllByRecursion P xs → P x → AllByRecursion P (xs ++ x ∷ [])
push_all P [] x all p = (p, tt)
push_all P (y ∷ xs) x all p = (all.0, push_all P xs x all.1 p)

joined_push : (ps : List (List (Key × Kept))) (p : List (Key × Kept)) → entries_joined (ps ++ p ∷ []) ≡ entries_joined ps ++ p
joined_push [] p = append-nil p
joined_push (q ∷ ps) p = ap (λ (l : List (Key × Kept)). q ++ l) (joined_push ps p) ∙ sym (append_assoc q (entries_joined ps) p)

pub flat_push : {A : Type 0} (f : A → List ℕ) (xs : List A) (x : A) → flat_map f (xs ++ x ∷ []) ≡ flat_map f xs ++ f x
flat_push f [] x = append-nil (f x)
flat_push f (y ∷ xs) x = ap (λ (l : List ℕ). f y ++ l) (flat_push f xs x) ∙ sym (append_assoc (f y) (flat_map f xs) (f x))

-- the text of entries, as it is written
abbrev pub written_text : ℕ → List ℕ → List ℕ
written_text entries body = codes "memento-state 2\nentries " ++ (decimal entries ++ (10 ∷ (body ++ codes "end\n")))

text_is : (es : List (Key × Kept)) → text_of es ≡ written_text (length es) (flat_map entry_text es)
text_is es = ap (λ (l : List ℕ). codes "memento-state 2\nentries " ++ l) (append_assoc (decimal (length es)) (10 ∷ []) (flat_map entry_text es ++ codes "end\n"))

text_short : (entries : ℕ) (body : List ℕ) → entries < 2 ^ 64 → length body ≤ longest_body → length (written_text entries body) ≤ 268435456
text_short entries body few short =
    let digits : length (decimal entries) ≤ 20 = length-decimal-le 20 entries (omega arith) (omega (arith, few)) few in
    let tail : length (body ++ codes "end\n") ≡ length body + 4 = length-append body (codes "end\n") in
    let whole = length-append (decimal entries) (10 ∷ (body ++ codes "end\n")) in
    omega (arith, digits, tail, whole, short)

module _ (start old : Option (List ℕ)) (body : List ℕ) (entries sections : ℕ) (done : List (Key × Kept)) (stands : Stands start old body entries sections done) where
  pub open_text : text_of stands.rest ≡ written_text entries body
  open_text = text_is stands.rest ∙ (λ i. written_text (sym stands.entries_are i) (sym stands.body_is i))

  pub joined_with_open : entries_joined (stands.parts ++ stands.rest ∷ []) ++ [] ≡ done
  joined_with_open = append-nil (entries_joined (stands.parts ++ stands.rest ∷ [])) ∙ (joined_push stands.parts stands.rest ∙ stands.all)

  pub all_fit_with_open : entries < 2 ^ 64 → AllByRecursion IsPart (stands.parts ++ stands.rest ∷ [])
  all_fit_with_open few = push_all IsPart stands.parts stands.rest stands.fit (record {
    entries = record { each = stands.rest_fits; count = subst (λ (n : ℕ). n < 2 ^ 64) stands.entries_are few };
    short = subst (λ (t : List ℕ). length t ≤ 268435456) (sym open_text) (text_short entries body few stands.short);
  })

-- the open section is written
pub section_ended : (start old now : Option (List ℕ)) (body : List ℕ) (entries sections : ℕ) (done : List (Key × Kept)) → Stands start old body entries sections done → entries < 2 ^ 64
    → sections + 1 < 2 ^ 64 → Appends old now (section_text (written_text entries body)) → Stands start now [] 0 (sections + 1) done
section_ended start old now body entries sections done stands few one section = record {
  parts = stands.parts ++ stands.rest ∷ [];
  rest = [];
  all = joined_with_open start old body entries sections done stands;
  fit = all_fit_with_open start old body entries sections done stands few;
  written = subst (Appends start now)
      (append_assoc first_line (flat_map section_text (map text_of stands.parts)) (section_text (text_of stands.rest))
      ∙ ap (λ (l : List ℕ). first_line ++ l)
      (sym (flat_push section_text (map text_of stands.parts) (text_of stands.rest))
      ∙ ap (flat_map section_text) (sym (map_push text_of stands.parts stands.rest))))
      (Appends-trans start old now (first_line ++ flat_map section_text (map text_of stands.parts)) (section_text (text_of stands.rest)) stands.written
      (subst (λ (t : List ℕ). Appends old now (section_text t)) (sym same) section));
  counted = ap (λ (n : ℕ). n + 1) stands.counted ∙ sym (length_push stands.parts stands.rest);
  few = one;
  body_is = refl;
  entries_are = refl;
  rest_fits = All-nil IsEntry;
  short = omega arith;
  each_short = stands.each_short;
}
  where
    same : text_of stands.rest ≡ written_text entries body
    same = open_text start old body entries sections done stands

-- an entry is added to the open section
pub entry_added : (start now : Option (List ℕ)) (body next : List ℕ) (entries sections : ℕ) (done : List (Key × Kept)) (e : Key × Kept) → Stands start now body entries sections done
    → next ≡ body ++ entry_text e → IsEntry e → IsShort e → length next ≤ longest_body → Stands start now next (entries + 1) sections (done ++ e ∷ [])
entry_added start now body next entries sections done e stands grown is fits short = record {
  parts = stands.parts;
  rest = stands.rest ++ e ∷ [];
  all = sym (append_assoc (entries_joined stands.parts) stands.rest (e ∷ [])) ∙ ap (λ (l : List (Key × Kept)). l ++ e ∷ []) stands.all;
  fit = stands.fit;
  written = stands.written;
  counted = stands.counted;
  few = stands.few;
  body_is = grown ∙ (ap (λ (b : List ℕ). b ++ entry_text e) stands.body_is ∙ sym (flat_push entry_text stands.rest e));
  entries_are = ap (λ (n : ℕ). n + 1) stands.entries_are ∙ sym (length_push stands.rest e);
  rest_fits = All-push IsEntry stands.rest e stands.rest_fits is;
  short = short;
  each_short = All-push IsShort done e stands.each_short fits;
}

-- entries without lines are none
no_lines : (es : List (Key × Kept)) → [] ≡ flat_map entry_text es → es ≡ []
no_lines [] none = refl
no_lines (e ∷ es) none = absurd (let lengths : 0 ≡ length (flat_map entry_text (e ∷ es)) = ap length none in omega (arith, lengths))

-- nothing is written but the first line
pub nothing_stands : (start now : Option (List ℕ)) → Appends start now first_line → Stands start now [] 0 0 []
nothing_stands start now first = record {
  parts = [];
  rest = [];
  all = refl;
  fit = tt;
  written = subst (Appends start now) (sym (append-nil first_line)) first;
  counted = refl;
  few = omega arith;
  body_is = refl;
  entries_are = refl;
  rest_fits = All-nil IsEntry;
  short = omega arith;
  each_short = All-nil IsShort;
}

-- nothing is open, and the last line is written
pub all_ended : (start old now : Option (List ℕ)) (body : List ℕ) (entries sections : ℕ) (done : List (Key × Kept)) → Stands start old body entries sections done → body ≡ [] → sections < 2 ^ 64
    → Appends old now (last_line sections) → Ended start now done
all_ended start old now body entries sections done stands empty few last = record {
  parts = stands.parts;
  all = sym (append-nil (entries_joined stands.parts)) ∙ (ap (λ (l : List (Key × Kept)). entries_joined stands.parts ++ l) (sym none) ∙ stands.all);
  fit = stands.fit;
  few = subst (λ (n : ℕ). n < 2 ^ 64) stands.counted few;
  written = subst (Appends start now)
      (append_assoc first_line (flat_map section_text (map text_of stands.parts)) (last_line sections)
      ∙ ap (λ (n : ℕ). first_line ++ (flat_map section_text (map text_of stands.parts) ++ last_line n))
      (stands.counted ∙ sym (length-map stands.parts text_of)))
      (Appends-trans start old now (first_line ++ flat_map section_text (map text_of stands.parts)) (last_line sections) stands.written last);
  each_short = stands.each_short;
}
  where
    none : stands.rest ≡ []
    none = no_lines stands.rest (sym empty ∙ stands.body_is)

-- ---- what is written is a snapshot

one_readable : (p : List (Key × Kept)) → T (fmap.is_sorted key_cmp p) → IsPart p → IsReadable (state_of p)
one_readable p rise is = record {
  state = subst AreEntries (sym (entries_made p rise)) is.entries;
  short = subst (λ (es : List (Key × Kept)). length (text_of es) ≤ 268435456) (sym (entries_made p rise)) is.short;
}

pub all_readable : (ps : List (List (Key × Kept))) → T (fmap.is_sorted key_cmp (entries_joined ps)) → AllByRecursion IsPart ps → AllByRecursion IsReadable (map state_of ps)
all_readable [] rise are = tt
all_readable (p ∷ ps) rise are = (one_readable p (front_rises p (entries_joined ps) rise) are.0, all_readable ps (back_rises p (entries_joined ps) rise) are.1)

pub same_texts : (ps : List (List (Key × Kept))) → T (fmap.is_sorted key_cmp (entries_joined ps)) → map text_of ps ≡ map state_text (map state_of ps)
same_texts [] rise = refl
same_texts (p ∷ ps) rise =
    let first : text_of p ≡ state_text (state_of p) = ap text_of (sym (entries_made p (front_rises p (entries_joined ps) rise))) in
    let rest = same_texts ps (back_rises p (entries_joined ps) rise) in
    λ i. first i ∷ rest i

pub state_written : (start now : Option (List ℕ)) (x : Entries) → Ended start now (fmap.entries x) → Writes start now x
state_written start now x ended =
    let rise : T (fmap.is_sorted key_cmp (entries_joined ended.parts)) = subst (λ (es : List (Key × Kept)). T (fmap.is_sorted key_cmp es)) (sym ended.all) (fmap.entries_sorted x) in
    record {
      bytes = snapshot_text (map text_of ended.parts);
      snapshot = record {
        states = map state_of ended.parts;
        cut = record { parts = ended.parts; whole = ended.all; states_are = refl };
        readable = all_readable ended.parts rise ended.fit;
        few = subst (λ (n : ℕ). n < 2 ^ 64) (sym (length-map ended.parts state_of)) ended.few;
        bytes_are = ap snapshot_text (same_texts ended.parts rise);
      };
      appended = ended.written;
    }

-- ---- one section

pub whole_text : (head body : List ℕ) (entries : ℕ) → head ≡ codes "memento-state 2\nentries " ++ (decimal entries ++ 10 ∷ []) → written_text entries body ≡ head ++ (body ++ codes "end\n")
whole_text head body entries is =
    sym (ap (λ (h : List ℕ). h ++ (body ++ codes "end\n")) is
    ∙ (append_assoc (codes "memento-state 2\nentries ") (decimal entries ++ 10 ∷ []) (body ++ codes "end\n")
    ∙ ap (λ (l : List ℕ). codes "memento-state 2\nentries " ++ l) (append_assoc (decimal entries) (10 ∷ []) (body ++ codes "end\n"))))

pub whole_length : (head body : List ℕ) (n : ℕ) → n ≡ length head + length body + 4 → n ≡ length (head ++ (body ++ codes "end\n"))
whole_length head body n is =
    let first : length (head ++ (body ++ codes "end\n")) ≡ length head + length (body ++ codes "end\n") = length-append head (body ++ codes "end\n") in
    let second : length (body ++ codes "end\n") ≡ length body + 4 = length-append body (codes "end\n") in
    omega (arith, is, first, second)

pub section_written : (old a b c now : Option (List ℕ)) (head body : List ℕ) (entries n : ℕ) → head ≡ codes "memento-state 2\nentries " ++ (decimal entries ++ 10 ∷ [])
    → n ≡ length head + length body + 4 → Appends old a (section_line n) → Appends a b head → Appends b c body → Appends c now (codes "end\n")
    → Appends old now (section_text (written_text entries body))
section_written old a b c now head body entries n head_is n_is line first middle last =
    let text : written_text entries body ≡ head ++ (body ++ codes "end\n") = whole_text head body entries head_is in
    let size : n ≡ length (written_text entries body) = whole_length head body n n_is ∙ ap length (sym text) in
    subst (Appends old now) ((λ i. section_line (size i) ++ sym text i))
    (Appends-trans old a now (section_line n) (head ++ (body ++ codes "end\n")) line
    (Appends-trans a b now head (body ++ codes "end\n") first (Appends-trans b c now body (codes "end\n") middle last)))

-- ---- the steps of the code

pub ended_step : (start old now : Option (List ℕ)) (body lines next : List ℕ) (entries none sections more : ℕ) (done : List (Key × Kept))
    → Stands start old body entries sections done → entries < 2 ^ 64 → more < 2 ^ 64 → Appends old now (section_text (written_text entries lines))
    → lines ≡ body → next ≡ [] → none ≡ 0 → more ≡ sections + 1 → Stands start now next none more done
ended_step start old now body lines next entries none sections more done stands few fits section same empty zero one =
    subst (λ (b : List ℕ). Stands start now b none more done) (sym empty)
    (subst (λ (n : ℕ). Stands start now [] n more done) (sym zero)
    (subst (λ (n : ℕ). Stands start now [] 0 n done) (sym one)
    (section_ended start old now body entries sections done stands few (subst (λ (n : ℕ). n < 2 ^ 64) one fits) (subst (λ (b : List ℕ). Appends old now (section_text (written_text entries b))) same section))))

pub added_step : (start now : Option (List ℕ)) (body next lines : List ℕ) (entries more sections : ℕ) (done : List (Key × Kept)) (e : Key × Kept) → Stands start now body entries sections done
    → next ≡ body ++ lines → lines ≡ entry_text e → more ≡ entries + 1 → IsEntry e → length body + length lines ≤ longest_body → Stands start now next more sections (done ++ e ∷ [])
added_step start now body next lines entries more sections done e stands grown lines_are one is short =
    let size : length next ≡ length body + length lines = ap length grown ∙ length-append body lines in
    let fits : IsShort e = subst (λ (l : List ℕ). length l ≤ longest_body) lines_are (omega (arith, short)) in
    subst (λ (n : ℕ). Stands start now next n sections (done ++ e ∷ [])) (sym one)
    (entry_added start now body next entries sections done e stands (grown ∙ ap (λ (l : List ℕ). body ++ l) lines_are) is fits (omega (arith, size, short)))

pub nothing_started : (start now : Option (List ℕ)) (body : List ℕ) (entries sections : ℕ) → Appends start now first_line → body ≡ [] → entries ≡ 0 → sections ≡ 0
    → Stands start now body entries sections []
nothing_started start now body entries sections first empty zero none =
    subst (λ (b : List ℕ). Stands start now b entries sections []) (sym empty)
    (subst (λ (n : ℕ). Stands start now [] n sections []) (sym zero)
    (subst (λ (n : ℕ). Stands start now [] 0 n []) (sym none) (nothing_stands start now first)))

-- ---- an entry that is too long

pub one_is_long : (es : List (Key × Kept)) (k : ℕ) (e : Key × Kept) → (k < length es) × (slice_get es k ≡ Some e) → IsLong e → Any IsLong es
one_is_long es k e at long = (k, e, at.0, get_or_from_slice_get es k e e at.1, long)

-- the fault that a step gives back is the one that came
pub same_fault : {T E : Type 0} (r : Result T E) (y e z : E) → r ≡ Err y → y ≡ e → IsErrOf r z → IsErrOf {T = T} (Err e) z
same_fault {T} {E} r y e z is same came = sym (subst (λ (x : E). r ≡ Err x) same is) ∙ came

-- ---- all rows

pub rows_written : (start now : Option (List ℕ)) (x : Entries) (rows : List (Key × Kept)) → Ended start now rows → rows ≡ fmap.entries x → Writes start now x
rows_written start now x rows ended all = state_written start now x (subst (λ (es : List (Key × Kept)). Ended start now es) all ended)

pub rows_short : (rows : List (Key × Kept)) (x : Entries) (start now : Option (List ℕ)) (body : List ℕ) (entries sections : ℕ) → Stands start now body entries sections rows → rows ≡ fmap.entries x
    → All IsShort (fmap.entries x)
rows_short rows x start now body entries sections stands all = subst (λ (es : List (Key × Kept)). All IsShort es) all stands.each_short
