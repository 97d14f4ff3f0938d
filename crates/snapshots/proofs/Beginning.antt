-- What is written of a snapshot where not all is written.
use Rattle.std.proofs.Common.{◌≡◌, ℕ, ◌+◌, ◌<◌, ◌^◌, ◌++◌, map, List, [], ◌∷◌, Option, length, refl, sym, ap, ◌∙◌, subst, arith, append_assoc}
use Rattle.std.specs.Prelude.{T, codes}
use Rattle.std.specs.List.{flat_map}
use Rattle.std.specs.Fmt.{decimal}
use Rattle.std.specs.FinMap as fmap
use Rattle.std.specs.Io.KnownBytes.{Appends}
use Rattle.std.proofs.lemmas.List.{length-map, length_push, map_push}
use Rattle.harvest_lattice.specs.Lattice.{Key, key_cmp, Kept, Entries}
use Rattle.harvest_lattice.proofs.RowLemmas.{entries_made}
use Rattle.snapshot_sections.specs.Sections.{first_line, last_line, section_line, section_text, snapshot_text}
use Rattle.snapshot_sections.specs.Writing.{AppendsLess}
use Rattle.snapshot_sections.proofs.Appending.{nothing_yet, less_of_more, less_behind}
use Rattle.snapshots.specs.Cuts.{state_of, entries_joined}
use Rattle.snapshots.specs.Snapshots.{WritesLess}
use Rattle.snapshots.specs.Standing.{Stands, Begun, text_of}
use Rattle.snapshots.proofs.Cutting.{front_rises}
use Rattle.snapshots.proofs.Sectioning.{written_text, whole_text, whole_length, flat_push, open_text, joined_with_open, all_fit_with_open, all_readable, same_texts}

-- ---- one section

module _ (head body : List ℕ) (entries n : ℕ) (head_is : head ≡ codes "memento-state 2\nentries " ++ (decimal entries ++ 10 ∷ [])) (n_is : n ≡ length head + length body + 4) where
  -- what is written, one behind the other
  pieces : section_line n ++ (head ++ (body ++ codes "end\n")) ≡ section_text (written_text entries body)
  pieces =
      let text : written_text entries body ≡ head ++ (body ++ codes "end\n") = whole_text head body entries head_is in
      let size : n ≡ length (written_text entries body) = whole_length head body n n_is ∙ ap length (sym text) in
      (λ i. section_line (size i) ++ sym text i)

  pub line_begun : (old now : Option (List ℕ)) → AppendsLess old now (section_line n) → AppendsLess old now (section_text (written_text entries body))
  line_begun old now less = subst (AppendsLess old now) pieces (less_of_more old now (section_line n) (head ++ (body ++ codes "end\n")) less)

  pub head_begun : (old a now : Option (List ℕ)) → Appends old a (section_line n) → AppendsLess a now head → AppendsLess old now (section_text (written_text entries body))
  head_begun old a now line less = subst (AppendsLess old now) pieces
      (less_behind old a now (section_line n) (head ++ (body ++ codes "end\n")) line (less_of_more a now head (body ++ codes "end\n") less))

  pub body_begun : (old a b now : Option (List ℕ)) → Appends old a (section_line n) → Appends a b head → AppendsLess b now body → AppendsLess old now (section_text (written_text entries body))
  body_begun old a b now line first less = subst (AppendsLess old now) pieces
      (less_behind old a now (section_line n) (head ++ (body ++ codes "end\n")) line
      (less_behind a b now head (body ++ codes "end\n") first (less_of_more b now body (codes "end\n") less)))

  pub end_begun : (old a b c now : Option (List ℕ)) → Appends old a (section_line n) → Appends a b head → Appends b c body → AppendsLess c now (codes "end\n")
      → AppendsLess old now (section_text (written_text entries body))
  end_begun old a b c now line first middle less = subst (AppendsLess old now) pieces
      (less_behind old a now (section_line n) (head ++ (body ++ codes "end\n")) line
      (less_behind a b now head (body ++ codes "end\n") first (less_behind b c now body (codes "end\n") middle less)))

pub no_section : (writer : Option (List ℕ)) (entries : ℕ) (body : List ℕ) → AppendsLess writer writer (section_text (written_text entries body))
no_section writer entries body = nothing_yet writer (section_text (written_text entries body)) (omega arith)

-- ---- all sections

-- what stands is a beginning of what ends with it
pub standing : (now : Option (List ℕ)) (body : List ℕ) (entries sections : ℕ)
    → (start : Option (List ℕ)) (done : List (Key × Kept)) → Stands start now body entries sections done → Begun start now done
standing now body entries sections start done stands = record {
  parts = stands.parts;
  rest = stands.rest;
  all = stands.all;
  fit = stands.fit;
  few = subst (λ (n : ℕ). n < 2 ^ 64) stands.counted stands.few;
  less = subst (AppendsLess start now) (append_assoc first_line (flat_map section_text (map text_of stands.parts)) (last_line (length (map text_of stands.parts))))
      (less_behind start now now (first_line ++ flat_map section_text (map text_of stands.parts)) (last_line (length (map text_of stands.parts))) stands.written
      (nothing_yet now (last_line (length (map text_of stands.parts))) (omega arith)));
}

one_more_section : (parts : List (List (Key × Kept))) (rest : List (Key × Kept))
    → (first_line ++ flat_map section_text (map text_of parts)) ++ section_text (text_of rest) ≡ first_line ++ flat_map section_text (map text_of (parts ++ rest ∷ []))
one_more_section parts rest =
    append_assoc first_line (flat_map section_text (map text_of parts)) (section_text (text_of rest))
    ∙ ap (λ (l : List ℕ). first_line ++ l)
    (sym (flat_push section_text (map text_of parts) (text_of rest)) ∙ ap (flat_map section_text) (sym (map_push text_of parts rest)))

-- the open section is written in part
in_section : (start old now : Option (List ℕ)) (body : List ℕ) (entries sections : ℕ) (done : List (Key × Kept)) → Stands start old body entries sections done → entries < 2 ^ 64
    → sections + 1 < 2 ^ 64 → AppendsLess old now (section_text (written_text entries body)) → Begun start now done
in_section start old now body entries sections done stands few one less =
    let front : AppendsLess start now ((first_line ++ flat_map section_text (map text_of stands.parts)) ++ section_text (text_of stands.rest)) =
    less_behind start old now (first_line ++ flat_map section_text (map text_of stands.parts)) (section_text (text_of stands.rest)) stands.written
    (subst (λ (t : List ℕ). AppendsLess old now (section_text t)) (sym (open_text start old body entries sections done stands)) less) in
    let more = stands.parts ++ stands.rest ∷ [] in
    let line = last_line (length (map text_of more)) in
    record {
      parts = more;
      rest = [];
      all = joined_with_open start old body entries sections done stands;
      fit = all_fit_with_open start old body entries sections done stands few;
      few = subst (λ (n : ℕ). n < 2 ^ 64) (ap (λ n. n + 1) stands.counted ∙ sym (length_push stands.parts stands.rest)) one;
      less = subst (AppendsLess start now) (append_assoc first_line (flat_map section_text (map text_of more)) line)
          (less_of_more start now (first_line ++ flat_map section_text (map text_of more)) line
          (subst (AppendsLess start now) (one_more_section stands.parts stands.rest) front));
    }

pub section_step : (old now : Option (List ℕ)) (body lines : List ℕ) (entries sections : ℕ) → entries < 2 ^ 64 → sections + 1 < 2 ^ 64
    → AppendsLess old now (section_text (written_text entries lines)) → lines ≡ body
    → (start : Option (List ℕ)) (done : List (Key × Kept)) → Stands start old body entries sections done → Begun start now done
section_step old now body lines entries sections few one less same start done stands =
    in_section start old now body entries sections done stands few one (subst (λ (b : List ℕ). AppendsLess old now (section_text (written_text entries b))) same less)

-- nothing is open, and the last line is written in part
in_last_line : (old now : Option (List ℕ)) (body : List ℕ) (entries sections : ℕ) → AppendsLess old now (last_line sections)
    → (start : Option (List ℕ)) (done : List (Key × Kept)) → Stands start old body entries sections done → Begun start now done
in_last_line old now body entries sections less start done stands = record {
  parts = stands.parts;
  rest = stands.rest;
  all = stands.all;
  fit = stands.fit;
  few = subst (λ (n : ℕ). n < 2 ^ 64) stands.counted stands.few;
  less = subst (AppendsLess start now)
      (append_assoc first_line (flat_map section_text (map text_of stands.parts)) (last_line sections)
      ∙ ap (λ (n : ℕ). first_line ++ (flat_map section_text (map text_of stands.parts) ++ last_line n))
      (stands.counted ∙ sym (length-map stands.parts text_of)))
      (less_behind start old now (first_line ++ flat_map section_text (map text_of stands.parts)) (last_line sections) stands.written less);
}

-- a step that leaves something standing, and behind it nothing, or less than the last line
module _ (old mid : Option (List ℕ)) (body after : List ℕ) (entries more sections written : ℕ)
    (step : (start : Option (List ℕ)) (done : List (Key × Kept)) → Stands start old body entries sections done → Stands start mid after more written done) where
  pub standing_then : (start : Option (List ℕ)) (done : List (Key × Kept)) → Stands start old body entries sections done → Begun start mid done
  standing_then start done stands = standing mid after more written start done (step start done stands)

  pub last_line_then : (now : Option (List ℕ)) → AppendsLess mid now (last_line written)
      → (start : Option (List ℕ)) (done : List (Key × Kept)) → Stands start old body entries sections done → Begun start now done
  last_line_then now less start done stands = in_last_line mid now after more written less start done (step start done stands)

-- the first line is written in part
pub in_first_line : (start now : Option (List ℕ)) → AppendsLess start now first_line → Begun start now []
in_first_line start now less = record {
  parts = [];
  rest = [];
  all = refl;
  fit = tt;
  few = omega arith;
  less = less_of_more start now first_line (last_line 0) less;
}

-- ---- a state

pub state_begun : (start now : Option (List ℕ)) (x : Entries) (done others : List (Key × Kept)) → Begun start now done → done ++ others ≡ fmap.entries x → WritesLess start now x
state_begun start now x done others begun in_order =
    let whole : entries_joined begun.parts ++ (begun.rest ++ others) ≡ fmap.entries x =
    sym (append_assoc (entries_joined begun.parts) begun.rest others) ∙ (ap (λ (l : List (Key × Kept)). l ++ others) begun.all ∙ in_order) in
    let rise : T (fmap.is_sorted key_cmp (entries_joined begun.parts)) =
    front_rises (entries_joined begun.parts) (begun.rest ++ others) (subst (λ (es : List (Key × Kept)). T (fmap.is_sorted key_cmp es)) (sym whole) (fmap.entries_sorted x)) in
    let made : fmap.entries (state_of (entries_joined begun.parts)) ≡ entries_joined begun.parts = entries_made (entries_joined begun.parts) rise in
    record {
      first = state_of (entries_joined begun.parts);
      others = begun.rest ++ others;
      in_order = ap (λ (l : List (Key × Kept)). l ++ (begun.rest ++ others)) made ∙ whole;
      bytes = snapshot_text (map text_of begun.parts);
      snapshot = record {
        states = map state_of begun.parts;
        cut = record { parts = begun.parts; whole = sym made; states_are = refl };
        readable = all_readable begun.parts rise begun.fit;
        few = subst (λ (n : ℕ). n < 2 ^ 64) (sym (length-map begun.parts state_of)) begun.few;
        bytes_are = ap snapshot_text (same_texts begun.parts rise);
      };
      less = begun.less;
    }
