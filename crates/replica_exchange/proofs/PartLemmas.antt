-- The lines of a state's text, part by part: what each reader has found or refused, and that it is the only reading.
use Rattle.std.proofs.Common.{◌≡◌, ℕ, ◌<◌, ◌^◌, Bool, true, false, cond, List, [], ◌∷◌, ◌++◌, length, Option, None, Some, refl, sym, ap, subst, ◌∙◌, append_assoc, arith}
use Rattle.std.specs.Prelude.{codes, All}
use Rattle.std.specs.List.{flat_map}
use Rattle.std.specs.Fmt.{decimal}
use Rattle.std.proofs.lemmas.List.{append_cancel_left}
use Rattle.memento_time.specs.Text.{IsArchiveName, IsOriginal, IsClean}
use Rattle.memento_time.specs.Second.{IsSecond}
use Rattle.memento_time.specs.Mementos.{IsMemento, memento_cmp}
use Rattle.memento_time.specs.declared.mementos.Memento.{Memento}
use Rattle.memento_sets.specs.Sets as set
use Rattle.memento_sets.specs.MementoSets.{Mementos, mementos_rise, mementos_with}
use Rattle.memento_sets.proofs.Sets.{items_sorted}
use Rattle.memento_sets.proofs.Ordered.{sorted_marked, items_in_order}
use Rattle.memento_sets.proofs.Rising.{rise_in_order, is_true}
use Rattle.harvest_lattice.specs.Lattice.{Key, whole}
use Rattle.harvest_lattice.proofs.Entries.{same_items}
use Rattle.replica_exchange.specs.StateText.{memento_lines, line_of_entry, whole_field, part_line}
use Rattle.replica_exchange.specs.Spelling.{Spelling, Begins, value_and_end, field, number}
use Rattle.replica_exchange.specs.Parts.{memento, IsWholeField, line_with, head, old_head, set_of, part_head, part, many}
use Rattle.replica_exchange.proofs.SpellingLemmas.{Once, number_once, whole_once, archive_once, original_once, uri_once, ended_apart}
use Rattle.replica_exchange.proofs.Sequences.{Leaves, seq, seq_found, seq_first, seq_then, seq_once, many_once}

-- ---- a memento's line

abbrev second_and_uri : Spelling (ℕ × List ℕ)
second_and_uri = seq (number 32) (field IsClean 10)

memento_parts : (text rest : List ℕ) (m : Memento) → Begins memento text m rest → Begins second_and_uri text (m.at, m.uri) rest
memento_parts text rest m begins = record {
  is = (omega (arith, begins.is.at), begins.is.uri);
  whole = begins.whole ∙ ap (λ (u : List ℕ). u ++ rest) (ended_apart (decimal m.at) 32 (m.uri ++ 10 ∷ []));
}

-- a text that begins with a memento begins with its second
pub memento_leaves_second : (text : List ℕ) → Leaves (number 32) memento text text
memento_leaves_second text m rest begins = (m.at, (m.uri ++ 10 ∷ []) ++ rest, seq_first (number 32) (field IsClean 10) text rest m.at m.uri (memento_parts text rest m begins))

second_is : (text mid rest : List ℕ) (second : ℕ) (m : Memento) → Begins (number 32) text second mid → Begins memento text m rest → (m.at ≡ second) × Begins (field IsClean 10) mid m.uri rest
second_is text mid rest second m first begins =
    seq_then (number 32) (field IsClean 10) (number_once 32 (omega arith)) text mid rest m.at second m.uri first (memento_parts text rest m begins)

-- and what follows the second begins with its URI
pub memento_leaves_uri : (text mid : List ℕ) (second : ℕ) → Begins (number 32) text second mid → Leaves (field IsClean 10) memento text mid
memento_leaves_uri text mid second first m rest begins = (m.uri, rest, (second_is text mid rest second m first begins).1)

-- no memento has a second after the year 9999
pub memento_too_late : (text mid : List ℕ) (second : ℕ) → Begins (number 32) text second mid → ¬ IsSecond second → (m : Memento) (rest : List ℕ) → ¬ Begins memento text m rest
memento_too_late text mid second first late m rest begins = late (subst IsSecond (second_is text mid rest second m first begins).0 begins.is.at)

pub memento_found : (text mid rest uri : List ℕ) (at : ℕ) → IsSecond at → Begins (number 32) text at mid → Begins (field IsClean 10) mid uri rest
    → Begins memento text (record { at = at; uri = uri }) rest
memento_found text mid rest uri at second first then =
    let both = seq_found (number 32) (field IsClean 10) text mid rest at uri first then in
    record {
      is = record { at = second; uri = then.is };
      whole = both.whole ∙ ap (λ (u : List ℕ). u ++ rest) (sym (ended_apart (decimal at) 32 (uri ++ 10 ∷ [])));
    }

pub memento_once : Once memento
memento_once text m n r u bm bn =
    let same = seq_once (number 32) (field IsClean 10) (number_once 32 (omega arith)) uri_once text (m.at, m.uri) (n.at, n.uri) r u (memento_parts text r m bm) (memento_parts text u n bn) in
    ((λ i. record { at = (same.0 i).0; uri = (same.0 i).1 }), same.1)

-- ---- the mementos of a revision

set_lines : (count : ℕ) (text rest : List ℕ) (s : Mementos) → Begins (set_of count) text s rest → Begins (many count memento) text (set.items s) rest
set_lines count text rest s begins = record { is = begins.is; whole = begins.whole }

-- they begin with so many lines
pub set_leaves_mementos : (count : ℕ) (text : List ℕ) → Leaves (many count memento) (set_of count) text text
set_leaves_mementos count text s rest begins = (set.items s, rest, set_lines count text rest s begins)

-- the items of a set stand in order
items_rise : (s : Mementos) → mementos_rise (set.items s) ≡ true
items_rise s = is_true (mementos_rise (set.items s)) (sorted_marked (set.items s) (items_sorted memento_cmp s))

-- what stands in order is kept as it stands
items_of_made : (rises : Bool) (mementos : List Memento) (s : Mementos) → mementos_rise mementos ≡ rises → cond rises (Some (set.from_list mementos)) None ≡ Some s → set.items s ≡ mementos
items_of_made true mementos s rises is =
    let same : set.from_list mementos ≡ s = cc in
    ap (λ (x : Mementos). set.items x) (sym same) ∙ items_in_order mementos (rise_in_order mementos rises)
items_of_made false mementos s rises is = absurd cc

unmade : (rises : Bool) (mementos : List Memento) → rises ≡ true → ¬ (cond {A = Option Mementos} rises (Some (set.from_list mementos)) None ≡ None)
unmade true mementos is none = absurd cc
unmade false mementos is none = absurd cc

module _ (count : ℕ) (text rest : List ℕ) (mementos : List Memento) (listed : Begins (many count memento) text mementos rest) where
  pub set_found : (s : Mementos) → mementos_with mementos ≡ Some s → Begins (set_of count) text s rest
  set_found s is =
      let items : set.items s ≡ mementos = items_of_made (mementos_rise mementos) mementos s refl is in
      record {
        is = subst (λ (ms : List Memento). (length ms ≡ count) × All IsMemento ms) (sym items) listed.is;
        whole = listed.whole ∙ ap (λ (ms : List Memento). flat_map memento.spelled ms ++ rest) (sym items);
      }

  -- mementos out of order are no set's
  pub set_unordered : mementos_with mementos ≡ None → (s : Mementos) (r : List ℕ) → ¬ Begins (set_of count) text s r
  set_unordered none s r begins =
      let same = many_once memento count memento_once text (set.items s) mementos r rest (set_lines count text r s begins) listed in
      unmade (mementos_rise mementos) mementos (ap mementos_rise (sym same.0) ∙ items_rise s) none

pub set_once : (count : ℕ) → Once (set_of count)
set_once count text x y r u bx by =
    let same = many_once memento count memento_once text (set.items x) (set.items y) r u (set_lines count text r x bx) (set_lines count text u y by) in
    (same_items x y same.0, same.1)

-- ---- a revision's line

abbrev part_numbers : Spelling (ℕ × ℕ)
part_numbers = seq (number 32) (number 10)

part_line_parts : (h : ℕ × ℕ) → part_line h.0 h.1 ≡ codes "at " ++ part_numbers.spelled h
part_line_parts h = ap (λ (u : List ℕ). codes "at " ++ u) (ended_apart (decimal h.0) 32 (decimal h.1 ++ 10 ∷ []))

part_head_whole : (text rest : List ℕ) (h : ℕ × ℕ) → Begins part_head text h rest → text ≡ codes "at " ++ (part_numbers.spelled h ++ rest)
part_head_whole text rest h begins = begins.whole ∙ (ap (λ (u : List ℕ). u ++ rest) (part_line_parts h) ∙ append_assoc (codes "at ") (part_numbers.spelled h) rest)

-- it begins with its word
pub part_has_front : (text : List ℕ) → ((rest : List ℕ) → ¬ (text ≡ codes "at " ++ rest)) → (h : ℕ × ℕ) (rest : List ℕ) → ¬ Begins part_head text h rest
part_has_front text none h rest begins = none (part_numbers.spelled h ++ rest) (part_head_whole text rest h begins)

module _ (text left : List ℕ) (front : text ≡ codes "at " ++ left) where
  from_revision : (h : ℕ × ℕ) (rest : List ℕ) → Begins part_head text h rest → Begins part_numbers left h rest
  from_revision h rest begins = record {
    is = (begins.is.revision_fits, begins.is.count_fits);
    whole = append_cancel_left (codes "at ") left (part_numbers.spelled h ++ rest) (sym front ∙ part_head_whole text rest h begins);
  }

  -- and goes on with the revision
  pub part_leaves_revision : Leaves (number 32) part_head text left
  part_leaves_revision h rest begins = (h.0, (number 10).spelled h.1 ++ rest, seq_first (number 32) (number 10) left rest h.0 h.1 (from_revision h rest begins))

  module _ (revision : ℕ) (left_1 : List ℕ) (revised : Begins (number 32) left revision left_1) where
    -- and the number of its mementos
    pub part_leaves_count : Leaves (number 10) part_head text left_1
    part_leaves_count h rest begins =
        (h.1, rest, (seq_then (number 32) (number 10) (number_once 32 (omega arith)) left left_1 rest h.0 revision h.1 revised (from_revision h rest begins)).1)

    pub part_head_found : (count : ℕ) (rest : List ℕ) → Begins (number 10) left_1 count rest → Begins part_head text (revision, count) rest
    part_head_found count rest counted =
        let both = seq_found (number 32) (number 10) left left_1 rest revision count revised counted in
        record {
          is = record { revision_fits = revised.is; count_fits = counted.is };
          whole =
              front
              ∙ (ap (λ (u : List ℕ). codes "at " ++ u) both.whole
              ∙ (sym (append_assoc (codes "at ") (part_numbers.spelled (revision, count)) rest) ∙ ap (λ (u : List ℕ). u ++ rest) (sym (part_line_parts (revision, count)))));
        }

part_head_once : Once part_head
part_head_once text x y r u bx by =
    let left : List ℕ = part_numbers.spelled y ++ u in
    let front = part_head_whole text u y by in
    seq_once (number 32) (number 10) (number_once 32 (omega arith)) (number_once 10 (omega arith)) left x y r u (from_revision text left front x r bx) (from_revision text left front y u by)

-- ---- a revision

abbrev part_head_of : ℕ × Mementos → ℕ × ℕ
part_head_of p = (p.0, length (set.items p.1))

part_begins : (text rest : List ℕ) (p : ℕ × Mementos) → Begins part text p rest → Begins part_head text (part_head_of p) (memento_lines p.1 ++ rest)
part_begins text rest p begins = record {
  is = begins.is.line;
  whole = begins.whole ∙ append_assoc (part_line p.0 (length (set.items p.1))) (memento_lines p.1) rest;
}

-- a revision begins with its line
pub part_leaves_head : (text : List ℕ) → Leaves part_head part text text
part_leaves_head text p rest begins = (part_head_of p, memento_lines p.1 ++ rest, part_begins text rest p begins)

module _ (text left : List ℕ) (h : ℕ × ℕ) (begun : Begins part_head text h left) where
  part_set : (p : ℕ × Mementos) (rest : List ℕ) → Begins part text p rest → (p.0 ≡ h.0) × Begins (set_of h.1) left p.1 rest
  part_set p rest begins =
      let same = part_head_once text (part_head_of p) h (memento_lines p.1 ++ rest) left (part_begins text rest p begins) begun in
      ((λ i. (same.0 i).0), record { is = ((λ i. (same.0 i).1), begins.is.mementos); whole = sym same.1 })

  -- and goes on with as many mementos as the line says
  pub part_leaves_set : Leaves (set_of h.1) part text left
  part_leaves_set p rest begins = (p.1, rest, (part_set p rest begins).1)

  pub part_found : (s : Mementos) (rest : List ℕ) → Begins (set_of h.1) left s rest → Begins part text (h.0, s) rest
  part_found s rest listed =
      let count : h.1 ≡ length (set.items s) = sym listed.is.0 in
      record {
        is = record {
          line = record { revision_fits = begun.is.revision_fits; count_fits = subst (λ (n : ℕ). n < 2 ^ 64) count begun.is.count_fits };
          mementos = listed.is.1;
        };
        whole =
            begun.whole
            ∙ ((λ i. part_line h.0 (count i) ++ listed.whole i)
            ∙ sym (append_assoc (part_line h.0 (length (set.items s))) (memento_lines s) rest));
      }

pub part_once : Once part
part_once text x y r u bx by =
    let left : List ℕ = memento_lines y.1 ++ u in
    let begun = part_begins text u y by in
    let mine = part_set text left (part_head_of y) begun x r bx in
    let other = part_set text left (part_head_of y) begun y u by in
    let sets = set_once (length (set.items y.1)) left x.1 y.1 r u mine.1 other.1 in
    ((λ i. (mine.0 i, sets.0 i)), sets.1)

-- ---- an entry's line

abbrev number_and_original : Spelling (ℕ × List ℕ)
number_and_original = seq (number 32) (field IsOriginal 10)

number_and_original_once : Once number_and_original
number_and_original_once = seq_once (number 32) (field IsOriginal 10) (number_once 32 (omega arith)) original_once

module _ {A : Type 0} (Is : A → Type 0) (written : A → List ℕ) where
  abbrev field_on : Spelling (A × (ℕ × List ℕ))
  field_on = seq (value_and_end Is written 32) number_and_original

  abbrev archive_on : Spelling (List ℕ × (A × (ℕ × List ℕ)))
  archive_on = seq (field IsArchiveName 32) field_on

  abbrev fields_of : Key × (A × ℕ) → List ℕ × (A × (ℕ × List ℕ))
  fields_of h = (h.0.0, (h.1.0, (h.1.1, h.0.1)))

  line_parts : (h : Key × (A × ℕ)) → line_of_entry h.0 (written h.1.0) h.1.1 ≡ codes "entry " ++ archive_on.spelled (fields_of h)
  line_parts h =
      ap (λ (u : List ℕ). codes "entry " ++ u)
      (ended_apart h.0.0 32 (written h.1.0 ++ 32 ∷ (decimal h.1.1 ++ 32 ∷ (h.0.1 ++ 10 ∷ [])))
      ∙ ap (λ (u : List ℕ). (h.0.0 ++ 32 ∷ []) ++ u)
      (ended_apart (written h.1.0) 32 (decimal h.1.1 ++ 32 ∷ (h.0.1 ++ 10 ∷ []))
      ∙ ap (λ (u : List ℕ). (written h.1.0 ++ 32 ∷ []) ++ u) (ended_apart (decimal h.1.1) 32 (h.0.1 ++ 10 ∷ []))))

  line_whole : (text rest : List ℕ) (h : Key × (A × ℕ)) → Begins (line_with Is written) text h rest → text ≡ codes "entry " ++ (archive_on.spelled (fields_of h) ++ rest)
  line_whole text rest h begins = begins.whole ∙ (ap (λ (u : List ℕ). u ++ rest) (line_parts h) ∙ append_assoc (codes "entry ") (archive_on.spelled (fields_of h)) rest)

  -- it begins with its word
  pub line_has_front : (text : List ℕ) → ((rest : List ℕ) → ¬ (text ≡ codes "entry " ++ rest)) → (h : Key × (A × ℕ)) (rest : List ℕ) → ¬ Begins (line_with Is written) text h rest
  line_has_front text none h rest begins = none (archive_on.spelled (fields_of h) ++ rest) (line_whole text rest h begins)

  module _ (text left : List ℕ) (front : text ≡ codes "entry " ++ left) where
    from_archive : (h : Key × (A × ℕ)) (rest : List ℕ) → Begins (line_with Is written) text h rest → Begins archive_on left (fields_of h) rest
    from_archive h rest begins = record {
      is = (begins.is.0.0, (begins.is.1.0, (begins.is.1.1, begins.is.0.1)));
      whole = append_cancel_left (codes "entry ") left (archive_on.spelled (fields_of h) ++ rest) (sym front ∙ line_whole text rest h begins);
    }

    -- and goes on with the name of an archive
    pub line_without_archive : ((name rest : List ℕ) → ¬ Begins (field IsArchiveName 32) left name rest) → (h : Key × (A × ℕ)) (rest : List ℕ) → ¬ Begins (line_with Is written) text h rest
    line_without_archive none h rest begins =
        none h.0.0 (field_on.spelled (fields_of h).1 ++ rest) (seq_first (field IsArchiveName 32) field_on left rest h.0.0 (fields_of h).1 (from_archive h rest begins))

    module _ (name left_1 : List ℕ) (archive : Begins (field IsArchiveName 32) left name left_1) where
      from_field : (h : Key × (A × ℕ)) (rest : List ℕ) → Begins (line_with Is written) text h rest → Begins field_on left_1 (fields_of h).1 rest
      from_field h rest begins = (seq_then (field IsArchiveName 32) field_on archive_once left left_1 rest h.0.0 name (fields_of h).1 archive (from_archive h rest begins)).1

      -- and the field
      pub line_leaves_field : Leaves (value_and_end Is written 32) (line_with Is written) text left_1
      line_leaves_field h rest begins =
          (h.1.0, number_and_original.spelled (h.1.1, h.0.1) ++ rest, seq_first (value_and_end Is written 32) number_and_original left_1 rest h.1.0 (h.1.1, h.0.1) (from_field h rest begins))

      module _ (once : Once (value_and_end Is written 32)) (value : A) (left_2 : List ℕ) (valued : Begins (value_and_end Is written 32) left_1 value left_2) where
        from_number : (h : Key × (A × ℕ)) (rest : List ℕ) → Begins (line_with Is written) text h rest → Begins number_and_original left_2 (h.1.1, h.0.1) rest
        from_number h rest begins = (seq_then (value_and_end Is written 32) number_and_original once left_1 left_2 rest h.1.0 value (h.1.1, h.0.1) valued (from_field h rest begins)).1

        -- and the number
        pub line_leaves_number : Leaves (number 32) (line_with Is written) text left_2
        line_leaves_number h rest begins = (h.1.1, (h.0.1 ++ 10 ∷ []) ++ rest, seq_first (number 32) (field IsOriginal 10) left_2 rest h.1.1 h.0.1 (from_number h rest begins))

        module _ (count : ℕ) (left_3 : List ℕ) (counted : Begins (number 32) left_2 count left_3) where
          -- and the original
          pub line_leaves_original : Leaves (field IsOriginal 10) (line_with Is written) text left_3
          line_leaves_original h rest begins =
              (h.0.1, rest, (seq_then (number 32) (field IsOriginal 10) (number_once 32 (omega arith)) left_2 left_3 rest h.1.1 count h.0.1 counted (from_number h rest begins)).1)

          pub line_found : (original rest : List ℕ) → Begins (field IsOriginal 10) left_3 original rest → Begins (line_with Is written) text ((name, original), (value, count)) rest
          line_found original rest last =
              let h : Key × (A × ℕ) = ((name, original), (value, count)) in
              let after_number = seq_found (number 32) (field IsOriginal 10) left_2 left_3 rest count original counted last in
              let after_field = seq_found (value_and_end Is written 32) number_and_original left_1 left_2 rest value (count, original) valued after_number in
              let all = seq_found (field IsArchiveName 32) field_on left left_1 rest name (value, (count, original)) archive after_field in
              record {
                is = ((archive.is, last.is), (valued.is, counted.is));
                whole =
                    front
                    ∙ (ap (λ (u : List ℕ). codes "entry " ++ u) all.whole
                    ∙ (sym (append_assoc (codes "entry ") (archive_on.spelled (fields_of h)) rest) ∙ ap (λ (u : List ℕ). u ++ rest) (sym (line_parts h))));
              }

  line_once : Once (value_and_end Is written 32) → Once (line_with Is written)
  line_once once text x y r u bx by =
      let left : List ℕ = archive_on.spelled (fields_of y) ++ u in
      let front = line_whole text u y by in
      let from_value = seq_once (value_and_end Is written 32) number_and_original once number_and_original_once in
      let same = seq_once (field IsArchiveName 32) field_on archive_once from_value left (fields_of x) (fields_of y) r u (from_archive text left front x r bx) (from_archive text left front y u by) in
      ((λ i. (((same.0 i).0, (same.0 i).1.1.1), ((same.0 i).1.0, (same.0 i).1.1.0))), same.1)

pub head_once : Once head
head_once = line_once IsWholeField whole_field whole_once

pub old_head_once : Once old_head
old_head_once = line_once (λ n. n < 2 ^ 64) decimal (number_once 32 (omega arith))
