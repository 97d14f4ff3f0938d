-- What can't be read as the next part of a snapshot is none.
use Rattle.std.proofs.Common.{◌≡◌, ◌≢◌, ℕ, ◌+◌, ◌<◌, ◌≤◌, ◌^◌, ◌==◌, not, true, List, [], ◌∷◌, ◌++◌, length, get_or, Option, Some, None, IfSome}
use Rattle.std.proofs.Common.{refl, sym, ap, subst, ◌∙◌, append_assoc, arith}
use Rattle.std.specs.Prelude.{codes, nat_eq, IfNone, IsErrOf}
use lib.Pointwise.{pointwise}
use Rattle.std.specs.Option.{ok_or}
use Rattle.std.specs.List.{list_all}
use Rattle.std.specs.Fmt.{decimal}
use Rattle.std.specs.Io.KnownBytes.{Consumes, IsAtEnd}
use Rattle.std.proofs.lemmas.Fmt.{length-decimal-le}
use Rattle.std.proofs.lemmas.Grind.{common_steps}
use Rattle.std.proofs.lemmas.List.{append-nil, append_cancel_left, length-append}
use Rattle.std.proofs.lemmas.List.Elements.{All-head, All-tail, All-cons, All-append}
use Rattle.text_fields.specs.Parts.{Lacks}
use Rattle.text_fields.proofs.DecimalLemmas.{decimal_lacks}
use Rattle.text_fields.proofs.PartLemmas.{one_split, no_split}
use Rattle.snapshot_sections.specs.Sections.{section_line, last_line, line_text, section_text, IsLine}
use Rattle.snapshot_sections.specs.Refusals.{LacksFirstLine, LacksLine, LacksSection, LacksShortLine, longest_section}
use Rattle.snapshot_sections.specs.declared.fault.SectionFault.TheVariants.{NotSections}
use Rattle.snapshot_sections.specs.declared.lines.Line.{Line}
use Rattle.snapshot_sections.specs.declared.lines.Line.TheVariants.{Section, Last}
use Rattle.snapshot_sections.proofs.Sections.{one_number}

-- ---- bytes without an LF

other_byte : (b : ℕ) → not (b == 10) ≡ true → b ≢ 10
other_byte b is same = absurd (grind (arith, common_steps))

lacks_end : (word : List ℕ) → list_all (λ b. not (b == 10)) word ≡ true → Lacks 10 word
lacks_end [] is = λ k d lt. absurd (omega arith)
lacks_end (b ∷ word) is =
    let first : not (b == 10) ≡ true = grind (arith, common_steps) in
    let later : list_all (λ b. not (b == 10)) word ≡ true = grind (arith, common_steps) in
    All-cons (λ d. d ≢ 10) b word (other_byte b first) (lacks_end word later)

-- no shorter front ends with an LF
no_short_line : (l rest line more : List ℕ) → Lacks 10 l → length line < length l → l ++ rest ≢ line ++ 10 ∷ more
no_short_line [] rest line more lacks lt same = absurd (omega (arith, lt))
no_short_line (c ∷ l) rest [] more lacks lt same = All-head (λ d. d ≢ 10) c l lacks (cc)
no_short_line (c ∷ l) rest (d ∷ line) more lacks lt same =
    let tails : l ++ rest ≡ line ++ 10 ∷ more = cc in
    let less : length line < length l = omega (arith, lt) in
    no_short_line l rest line more (All-tail (λ d. d ≢ 10) c l lacks) less tails

pub long_line : (old new : Option (List ℕ)) (l : List ℕ) → Consumes old new l → Lacks 10 l → 32 ≤ length l → IfSome old LacksShortLine
long_line None new l consumed lacks long = tt
long_line (Some bytes) None l consumed lacks long = absurd consumed
long_line (Some bytes) (Some rest) l consumed lacks long =
    λ line more short same. no_short_line l rest line more lacks (omega (arith, long, short)) (sym consumed ∙ same)

pub ended_line : (old new : Option (List ℕ)) (l : List ℕ) → Consumes old new l → Lacks 10 l → IsAtEnd new → IfSome old LacksShortLine
ended_line None new l consumed lacks end = tt
ended_line (Some bytes) None l consumed lacks end = absurd consumed
ended_line (Some bytes) (Some rest) l consumed lacks end = λ line more short same.
    let all : l ≡ line ++ 10 ∷ more = sym (append-nil l) ∙ (ap (λ (r : List ℕ). l ++ r) (sym end) ∙ (sym consumed ∙ same)) in
    no_split 10 line more (subst (Lacks 10) all lacks)

-- ---- lines

-- a line's bytes before its LF
abbrev before_end : Line → List ℕ
before_end (Section size) = codes "section " ++ decimal size
before_end (Last count) = codes "sections " ++ decimal count

ends : (line : Line) (more : List ℕ) → line_text line ++ more ≡ before_end line ++ 10 ∷ more
ends (Section size) more = sym (ap (λ (l : List ℕ). l ++ more) (append_assoc (codes "section ") (decimal size) (10 ∷ []))) ∙ append_assoc (before_end (Section size)) (10 ∷ []) more
ends (Last count) more = sym (ap (λ (l : List ℕ). l ++ more) (append_assoc (codes "sections ") (decimal count) (10 ∷ []))) ∙ append_assoc (before_end (Last count)) (10 ∷ []) more

ends_alone : (line : Line) → before_end line ++ 10 ∷ [] ≡ line_text line
ends_alone line = sym (ends line []) ∙ append-nil (line_text line)

is_short : (line : Line) → IsLine line → length (before_end line) < 32
is_short (Section size) fits =
    let digits = length-decimal-le 20 size (omega arith) (omega (arith, fits)) fits in
    omega (arith, digits, length-append (codes "section ") (decimal size))
is_short (Last count) fits =
    let digits = length-decimal-le 20 count (omega arith) (omega (arith, fits)) fits in
    omega (arith, digits, length-append (codes "sections ") (decimal count))

lacks_own : (line : Line) → IsLine line → Lacks 10 (before_end line)
lacks_own (Section size) fits = All-append (λ d. d ≢ 10) (codes "section ") (decimal size) (lacks_end (codes "section ") refl) (decimal_lacks 10 (omega arith) size fits)
lacks_own (Last count) fits = All-append (λ d. d ≢ 10) (codes "sections ") (decimal count) (lacks_end (codes "sections ") refl) (decimal_lacks 10 (omega arith) count fits)

pub no_first_line : (bytes : List ℕ) → LacksShortLine bytes → LacksFirstLine bytes
no_first_line bytes lacks more same = lacks (codes "memento-snapshot 1") more (omega arith) (same ∙ append_assoc (codes "memento-snapshot 1") (10 ∷ []) more)

pub no_line : (bytes : List ℕ) → LacksShortLine bytes → LacksLine bytes
no_line bytes lacks line more fits same = lacks (before_end line) more (is_short line fits) (same ∙ ends line more)

pub other_first_line : (old new : Option (List ℕ)) (l : List ℕ) → Consumes old new (l ++ 10 ∷ []) → Lacks 10 l → l ≢ codes "memento-snapshot 1" → IfSome old LacksFirstLine
other_first_line None new l consumed lacks other = tt
other_first_line (Some bytes) None l consumed lacks other = absurd consumed
other_first_line (Some bytes) (Some rest) l consumed lacks other = λ more same.
    other (one_split 10 l (codes "memento-snapshot 1") rest more lacks (lacks_end (codes "memento-snapshot 1") refl)
    (sym (append_assoc l (10 ∷ []) rest) ∙ (sym consumed ∙ (same ∙ append_assoc (codes "memento-snapshot 1") (10 ∷ []) more)))).0

pub other_line : (old new : Option (List ℕ)) (l : List ℕ) → Consumes old new (l ++ 10 ∷ []) → Lacks 10 l
    → ((line : Line) → IsLine line → l ++ 10 ∷ [] ≢ line_text line) → IfSome old LacksLine
other_line None new l consumed lacks none = tt
other_line (Some bytes) None l consumed lacks none = absurd consumed
other_line (Some bytes) (Some rest) l consumed lacks none = λ line more fits same.
    let front : l ≡ before_end line = (one_split 10 l (before_end line) rest more lacks (lacks_own line fits)
    (sym (append_assoc l (10 ∷ []) rest) ∙ (sym consumed ∙ (same ∙ ends line more)))).0 in
    none line fits (ap (λ (l : List ℕ). l ++ 10 ∷ []) front ∙ ends_alone line)

-- nothing was found, so it is told why
pub none_there : {A P : Type 0} (found : Option A) → IsErrOf (ok_or found NotSections) NotSections → IfNone found P → P
none_there None is none = none
none_there (Some a) is none = absurd (cc)

pub is_first_line : true ≡ not (pointwise nat_eq (codes "memento-snapshot 1") (codes "memento-snapshot 1")) → ⊥
is_first_line same = absurd (grind (arith, common_steps))

-- ---- texts

-- a text behind its line, and what follows
behind_line : (text more : List ℕ) → section_text text ++ more ≡ section_line (length text) ++ (text ++ more)
behind_line text more = append_assoc (section_line (length text)) text more

pub no_section : (count : ℕ) (bytes : List ℕ) → LacksLine bytes → LacksSection count bytes
no_section count bytes lacks = record {
  no_text = λ text more short same. lacks (Section (length text)) (text ++ more) (omega (arith, short)) (same ∙ behind_line text more);
  no_end = λ few same. lacks (Last count) [] few (same ∙ sym (append-nil (last_line count)));
}

-- two lines of one kind, and what follows each
same_section : (m n : ℕ) (x y : List ℕ) → m < 2 ^ 64 → n < 2 ^ 64 → section_line m ++ x ≡ section_line n ++ y → (m ≡ n) × (x ≡ y)
same_section m n x y fm fn same = one_number m n x y fm fn
    (append_cancel_left (codes "section ") ((decimal m ++ 10 ∷ []) ++ x) ((decimal n ++ 10 ∷ []) ++ y)
    (sym (append_assoc (codes "section ") (decimal m ++ 10 ∷ []) x) ∙ (same ∙ append_assoc (codes "section ") (decimal n ++ 10 ∷ []) y)))

same_last : (m n : ℕ) (x y : List ℕ) → m < 2 ^ 64 → n < 2 ^ 64 → last_line m ++ x ≡ last_line n ++ y → (m ≡ n) × (x ≡ y)
same_last m n x y fm fn same = one_number m n x y fm fn
    (append_cancel_left (codes "sections ") ((decimal m ++ 10 ∷ []) ++ x) ((decimal n ++ 10 ∷ []) ++ y)
    (sym (append_assoc (codes "sections ") (decimal m ++ 10 ∷ []) x) ∙ (same ∙ append_assoc (codes "sections ") (decimal n ++ 10 ∷ []) y)))

-- a line of one kind isn't one of the other
other_kinds : (m n : ℕ) (x y : List ℕ) → section_line m ++ x ≢ last_line n ++ y
other_kinds m n x y same = absurd (let letters : 32 ≡ 115 = ap (λ (l : List ℕ). get_or l 7 0) same in omega (arith, letters))

too_few : (size : ℕ) (text more rest : List ℕ) → length text ≡ size → length rest < size → rest ≢ text ++ more
too_few size text more rest is less same =
    let long : length rest ≡ length text + length more = ap length same ∙ length-append text more in
    absurd (omega (arith, is, less, long))

pub cut_section : (count size : ℕ) (old new : Option (List ℕ)) → Consumes old new (section_line size) → size < 2 ^ 64
    → (size ≤ longest_section → IfSome new (λ bytes. length bytes < size)) → IfSome old (LacksSection count)
cut_section count size None new consumed fits less = tt
cut_section count size (Some bytes) None consumed fits less = absurd consumed
cut_section count size (Some bytes) (Some rest) consumed fits less = record {
  no_text = λ text more short same.
      let both = same_section size (length text) rest (text ++ more) fits (omega (arith, short)) (sym consumed ∙ (same ∙ behind_line text more)) in
      let within : size ≤ longest_section = omega (arith, both.0, short) in
      too_few size text more rest (sym both.0) (less within) both.1;
  no_end = λ few same. other_kinds size count rest [] (sym consumed ∙ (same ∙ sym (append-nil (last_line count))));
}

-- a text doesn't begin with the last line
no_text_there : (number : ℕ) (rest text more : List ℕ) → last_line number ++ rest ≢ section_text text ++ more
no_text_there number rest text more same = other_kinds (length text) number (text ++ more) rest (sym (same ∙ behind_line text more))

pub other_count : (count number : ℕ) (old new : Option (List ℕ)) → Consumes old new (last_line number) → number < 2 ^ 64 → number ≢ count → IfSome old (LacksSection count)
other_count count number None new consumed fits other = tt
other_count count number (Some bytes) None consumed fits other = absurd consumed
other_count count number (Some bytes) (Some rest) consumed fits other = record {
  no_text = λ text more short same. no_text_there number rest text more (sym consumed ∙ same);
  no_end = λ few same. other (same_last number count rest [] fits few (sym consumed ∙ (same ∙ sym (append-nil (last_line count))))).0;
}

pub more_behind_end : (count : ℕ) (old new : Option (List ℕ)) → Consumes old new (last_line count) → count < 2 ^ 64
    → IfSome new (λ bytes. 0 < length bytes) → IfSome old (LacksSection count)
more_behind_end count None new consumed fits more = tt
more_behind_end count (Some bytes) None consumed fits more = absurd consumed
more_behind_end count (Some bytes) (Some rest) consumed fits long = record {
  no_text = λ text more short same. no_text_there count rest text more (sym consumed ∙ same);
  no_end = λ few same.
      let none : rest ≡ [] = (same_last count count rest [] fits few (sym consumed ∙ (same ∙ sym (append-nil (last_line count))))).1 in
      let zero : length rest ≡ 0 = ap length none in
      absurd (omega (arith, zero, long));
}
