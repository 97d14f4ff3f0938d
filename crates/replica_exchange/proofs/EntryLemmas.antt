-- The lines of an entry in a state's text, in either format, and that they are the only reading.
use Rattle.std.proofs.Common.{◌≡◌, ℕ, ◌<◌, ◌^◌, Bool, true, false, cond, List, [], ◌∷◌, ◌++◌, length, Option, None, Some, IsSome, refl, sym, ap, subst, ◌∙◌, append_assoc, arith}
use Rattle.std.specs.Prelude.{All}
use Rattle.std.specs.List.{flat_map}
use Rattle.std.specs.FinMap as map
use Rattle.std.proofs.lemmas.List.{append-nil}
use Rattle.std.proofs.lemmas.List.Elements.{All-nil, All-cons, All-head}
use Rattle.std.proofs.lemmas.Option.{none-some}
use Rattle.memento_time.specs.Text.{IsArchiveName, IsOriginal}
use Rattle.memento_sets.specs.Sets as set
use Rattle.memento_sets.specs.MementoSets.{Mementos}
use Rattle.harvest_lattice.specs.Lattice.{Key, Kept, least, first_of, whole}
use Rattle.harvest_lattice.specs.Parts.{kept_in, kept_with}
use Rattle.harvest_lattice.proofs.Parts.{entries_in, whole_in}
use Rattle.harvest_lattice.proofs.Made.{kept_of_its_own}
use Rattle.replica_exchange.specs.declared.format.Format.{Format}
use Rattle.replica_exchange.specs.declared.format.Format.TheVariants.{One, Two}
use Rattle.replica_exchange.specs.StateText.{memento_lines, entry_line, part_text, old_entry_line, old_part_text}
use Rattle.replica_exchange.specs.StateText.{IsPart, IsEntry}
use Rattle.replica_exchange.specs.Spelling.{Spelling, Begins}
use Rattle.replica_exchange.specs.Parts.{IsWholeField, head, old_head, set_of, part, new_entry, old_entry, entry, many}
use Rattle.replica_exchange.proofs.SpellingLemmas.{Once}
use Rattle.replica_exchange.proofs.Sequences.{Leaves, many_once, many_more, many_leaves}
use Rattle.replica_exchange.proofs.PartLemmas.{set_once, part_once, head_once, old_head_once}

-- ---- an entry in format 2

-- the entry of one revision
pub one_made : (w : Bool) (p : ℕ × Mementos) → kept_with (cond w (Some p.0) None) (p ∷ []) ≡ Some (kept_in w p [])
one_made w p = (kept_of_its_own (cond w (Some p.0) None) (p ∷ []) (kept_in w p [])).1 (whole_in w p [] tt, entries_in w p [] tt)

none_yet : (text : List ℕ) → Begins (many 0 part) text [] text
none_yet text = record { is = (refl, All-nil part.Is); whole = refl }

-- one revision is a list of them
pub one_begins : (text rest : List ℕ) (p : ℕ × Mementos) → Begins part text p rest → Begins (many 1 part) text (p ∷ []) rest
one_begins text rest p begins = many_more part 0 text text rest [] p (none_yet text) begins

pub one_leaves : (text : List ℕ) → Leaves part (many 1 part) text text
one_leaves text = many_leaves part part_once 1 0 text text [] (omega arith) (none_yet text)

-- entries of the same whole revision and the same revisions are one
same_kept : (a b : Kept) → whole a ≡ whole b → map.entries a.revisions ≡ map.entries b.revisions → a ≡ b
same_kept a b same_whole same_parts =
    let made_a : kept_with (whole b) (map.entries b.revisions) ≡ Some a = (kept_of_its_own (whole b) (map.entries b.revisions) a).1 (same_whole, same_parts) in
    let made_b : kept_with (whole b) (map.entries b.revisions) ≡ Some b = (kept_of_its_own (whole b) (map.entries b.revisions) b).1 (refl, refl) in
    let both : Some a ≡ Some b = sym made_a ∙ made_b in
    cc

abbrev head_of : Key × Kept → Key × (Option ℕ × ℕ)
head_of e = (e.0, (whole e.1, length (map.entries e.1.revisions)))

new_begins : (text rest : List ℕ) (e : Key × Kept) → Begins new_entry text e rest → Begins head text (head_of e) (flat_map part_text (map.entries e.1.revisions) ++ rest)
new_begins text rest e begins = record {
  is = ((begins.is.line.archive, begins.is.line.original), (begins.is.line.whole_fits, begins.is.line.revisions_fit));
  whole =
      begins.whole
      ∙ append_assoc (entry_line e.0 (whole e.1) (length (map.entries e.1.revisions))) (flat_map part_text (map.entries e.1.revisions)) rest;
}

-- an entry begins with its line
pub new_leaves_head : (text : List ℕ) → Leaves head new_entry text text
new_leaves_head text e rest begins = (head_of e, flat_map part_text (map.entries e.1.revisions) ++ rest, new_begins text rest e begins)

module _ (text left : List ℕ) (h : Key × (Option ℕ × ℕ)) (begun : Begins head text h left) where
  new_parts : (e : Key × Kept) (rest : List ℕ) → Begins new_entry text e rest → ((e.0 ≡ h.0) × (whole e.1 ≡ h.1.0)) × Begins (many h.1.1 part) left (map.entries e.1.revisions) rest
  new_parts e rest begins =
      let same = head_once text (head_of e) h (flat_map part_text (map.entries e.1.revisions) ++ rest) left (new_begins text rest e begins) begun in
      (((λ i. (same.0 i).0), (λ i. (same.0 i).1.0)), record { is = ((λ i. (same.0 i).1.1), begins.is.parts); whole = sym same.1 })

  -- and goes on with as many revisions as the line says
  pub new_leaves_parts : Leaves (many h.1.1 part) new_entry text left
  new_leaves_parts e rest begins = (map.entries e.1.revisions, rest, (new_parts e rest begins).1)

  module _ (parts : List (ℕ × Mementos)) (rest : List ℕ) (listed : Begins (many h.1.1 part) left parts rest) where
    -- revisions out of order, a whole one that isn't the first, and none are no entry's
    pub new_unordered : kept_with h.1.0 parts ≡ None → (e : Key × Kept) (r : List ℕ) → ¬ Begins new_entry text e r
    new_unordered none e r begins =
        let its = new_parts e r begins in
        let same = many_once part h.1.1 part_once left (map.entries e.1.revisions) parts r rest its.1 listed in
        let made : kept_with h.1.0 parts ≡ Some e.1 = (kept_of_its_own h.1.0 parts e.1).1 (its.0.1, same.0) in
        none-some e.1 (sym none ∙ made)

    pub new_found : (kept : Kept) → kept_with h.1.0 parts ≡ Some kept → Begins new_entry text (h.0, kept) rest
    new_found kept is =
        let its = (kept_of_its_own h.1.0 parts kept).0 is in
        let count : length (map.entries kept.revisions) ≡ h.1.1 = ap length its.1 ∙ listed.is.0 in
        record {
          is = record {
            line = record {
              archive = begun.is.0.0;
              original = begun.is.0.1;
              whole_fits = subst IsWholeField (sym its.0) begun.is.1.0;
              revisions_fit = subst (λ (n : ℕ). n < 2 ^ 64) (sym count) begun.is.1.1;
            };
            parts = subst (All IsPart) (sym its.1) listed.is.1;
          };
          whole =
              begun.whole
              ∙ ((λ i. entry_line h.0 (sym its.0 i) (sym count i) ++ (listed.whole ∙ ap (λ (ps : List (ℕ × Mementos)). flat_map part_text ps ++ rest) (sym its.1)) i)
              ∙ sym (append_assoc (entry_line h.0 (whole kept) (length (map.entries kept.revisions))) (flat_map part_text (map.entries kept.revisions)) rest));
        }

new_once : Once new_entry
new_once text x y r u bx by =
    let left : List ℕ = flat_map part_text (map.entries y.1.revisions) ++ u in
    let begun = new_begins text u y by in
    let mine = new_parts text left (head_of y) begun x r bx in
    let other = new_parts text left (head_of y) begun y u by in
    let lists = many_once part (length (map.entries y.1.revisions)) part_once left (map.entries x.1.revisions) (map.entries y.1.revisions) r u mine.1 other.1 in
    let same : x.1 ≡ y.1 = same_kept x.1 y.1 mine.0.1 lists.0 in
    ((λ i. (mine.0.0 i, same i)), lists.1)

-- ---- an entry in format 1

one_part : (ps : List (ℕ × Mementos)) → length ps ≡ 1 → (p : ℕ × Mementos) × (ps ≡ p ∷ [])
one_part [] one = absurd (omega (arith, one))
one_part (p ∷ []) one = (p, refl)
one_part (p ∷ q ∷ ps) one = absurd (omega (arith, one))

first_is : (b : Bool) (o : Option ℕ) → IsSome (cond b o None) → cond b o None ≡ o
first_is true o some = refl
first_is false o some = absurd cc

-- an entry's key and its one revision
abbrev alone : Spelling (Key × (ℕ × Mementos))
alone = record { Is = λ a. (IsArchiveName a.0.0 × IsOriginal a.0.1) × IsPart a.1; spelled = λ a. old_part_text a.0 a.1 }

-- an entry that is its whole revision
record IsOf (text rest : List ℕ) (e : Key × Kept) : Type 0 where
  its_part : ℕ × Mementos
  parts_are : map.entries e.1.revisions ≡ its_part ∷ []
  whole_is : whole e.1 ≡ Some its_part.0
  begins : Begins alone text (e.0, its_part) rest

old_begins : (text rest : List ℕ) (e : Key × Kept) → Begins old_entry text e rest → IsOf text rest e
old_begins text rest e begins =
    let one = one_part (map.entries e.1.revisions) begins.is.1.alone in
    record {
      its_part = one.0;
      parts_are = one.1;
      whole_is = first_is e.1.is_whole (least e.1.revisions) begins.is.1.is_whole ∙ ap first_of one.1;
      begins = record {
        is = ((begins.is.0.line.archive, begins.is.0.line.original), All-head IsPart one.0 [] (subst (All IsPart) one.1 begins.is.0.parts));
        whole = begins.whole ∙ ap (λ (u : List ℕ). u ++ rest) (ap (flat_map (old_part_text e.0)) one.1 ∙ append-nil (old_part_text e.0 one.0));
      };
    }

abbrev old_head_of : Key × (ℕ × Mementos) → Key × (ℕ × ℕ)
old_head_of a = (a.0, (a.1.0, length (set.items a.1.1)))

alone_begins : (text rest : List ℕ) (a : Key × (ℕ × Mementos)) → Begins alone text a rest → Begins old_head text (old_head_of a) (memento_lines a.1.1 ++ rest)
alone_begins text rest a begins = record {
  is = (begins.is.0, (begins.is.1.line.revision_fits, begins.is.1.line.count_fits));
  whole = begins.whole ∙ append_assoc (old_entry_line a.0 a.1.0 (length (set.items a.1.1))) (memento_lines a.1.1) rest;
}

-- it begins with its line
pub old_leaves_head : (text : List ℕ) → Leaves old_head old_entry text text
old_leaves_head text e rest begins =
    let its = old_begins text rest e begins in
    (old_head_of (e.0, its.its_part), memento_lines its.its_part.1 ++ rest, alone_begins text rest (e.0, its.its_part) its.begins)

module _ (text left : List ℕ) (h : Key × (ℕ × ℕ)) (begun : Begins old_head text h left) where
  alone_set : (a : Key × (ℕ × Mementos)) (rest : List ℕ) → Begins alone text a rest → ((a.0 ≡ h.0) × (a.1.0 ≡ h.1.0)) × Begins (set_of h.1.1) left a.1.1 rest
  alone_set a rest begins =
      let same = old_head_once text (old_head_of a) h (memento_lines a.1.1 ++ rest) left (alone_begins text rest a begins) begun in
      (((λ i. (same.0 i).0), (λ i. (same.0 i).1.0)), record { is = ((λ i. (same.0 i).1.1), begins.is.1.mementos); whole = sym same.1 })

  -- and goes on with as many mementos as the line says
  pub old_leaves_set : Leaves (set_of h.1.1) old_entry text left
  old_leaves_set e rest begins =
      let its = old_begins text rest e begins in
      (its.its_part.1, rest, (alone_set (e.0, its.its_part) rest its.begins).1)

  module _ (s : Mementos) (rest : List ℕ) (listed : Begins (set_of h.1.1) left s rest) where
    pub old_found : (kept : Kept) → kept_with (Some h.1.0) ((h.1.0, s) ∷ []) ≡ Some kept → Begins old_entry text (h.0, kept) rest
    old_found kept is =
        let its = (kept_of_its_own (Some h.1.0) ((h.1.0, s) ∷ []) kept).0 is in
        let count : h.1.1 ≡ length (set.items s) = sym listed.is.0 in
        let one : length (map.entries kept.revisions) ≡ 1 = ap length its.1 in
        let part_is : IsPart (h.1.0, s) = record {
          line = record { revision_fits = begun.is.1.0; count_fits = subst (λ (n : ℕ). n < 2 ^ 64) count begun.is.1.1 };
          mementos = listed.is.1;
        } in
        let entry_is : IsEntry (h.0, kept) = record {
          line = record {
            archive = begun.is.0.0;
            original = begun.is.0.1;
            whole_fits = subst IsWholeField (sym its.0) begun.is.1.0;
            revisions_fit = omega (arith, one);
          };
          parts = subst (All IsPart) (sym its.1) (All-cons IsPart (h.1.0, s) [] part_is (All-nil IsPart));
        } in
        record {
          is = (entry_is, record { is_whole = subst IsSome (sym its.0) refl; alone = one });
          whole =
              begun.whole
              ∙ ((λ i. old_entry_line h.0 h.1.0 (count i) ++ listed.whole i)
              ∙ (sym (append_assoc (old_entry_line h.0 h.1.0 (length (set.items s))) (memento_lines s) rest)
              ∙ ap (λ (u : List ℕ). u ++ rest) (sym (ap (flat_map (old_part_text h.0)) its.1 ∙ append-nil (old_part_text h.0 (h.1.0, s))))));
        }

old_once : Once old_entry
old_once text x y r u bx by =
    let its_x = old_begins text r x bx in
    let its_y = old_begins text u y by in
    let a : Key × (ℕ × Mementos) = (y.0, its_y.its_part) in
    let left : List ℕ = memento_lines a.1.1 ++ u in
    let begun = alone_begins text u a its_y.begins in
    let mine = alone_set text left (old_head_of a) begun (x.0, its_x.its_part) r its_x.begins in
    let other = alone_set text left (old_head_of a) begun a u its_y.begins in
    let sets = set_once (length (set.items a.1.1)) left its_x.its_part.1 a.1.1 r u mine.1 other.1 in
    let parts : its_x.its_part ≡ its_y.its_part = λ i. (mine.0.1 i, sets.0 i) in
    let same : x.1 ≡ y.1 = same_kept x.1 y.1
    (its_x.whole_is ∙ (ap (λ (p : ℕ × Mementos). Some p.0) parts ∙ sym its_y.whole_is))
    (its_x.parts_are ∙ (ap (λ (p : ℕ × Mementos). p ∷ []) parts ∙ sym its_y.parts_are)) in
    ((λ i. (mine.0.0 i, same i)), sets.1)

-- ---- an entry

pub entry_once : (f : Format) → Once (entry f)
entry_once One = old_once
entry_once Two = new_once
