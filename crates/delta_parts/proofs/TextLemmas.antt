-- The text of a part: how its lines are read, and that they are read in one way.
use Rattle.std.proofs.Common.{◌≡◌, ◌≢◌, ℕ, ◌<◌, inl, inr, List, [], ◌∷◌, ◌++◌, length, Option, None, Some, Result, Ok, Err, refl, sym, ap, subst, ◌∙◌, append_assoc, arith}
use Rattle.std.specs.Prelude.{codes, IfErr}
use Rattle.std.specs.Result.{IsErrAnd}
use Rattle.std.specs.FinMap as map
use Rattle.std.proofs.lemmas.List.{append_cancel_left}
use Rattle.std.proofs.lemmas.List.Elements.{All-nil, All-push, All-append, All-weaker}
use Rattle.memento_time.specs.Text.{IsArchiveName, IsNameByte, IsOriginal}
use Rattle.text_fields.specs.Parts.{Lacks}
use Rattle.text_fields.proofs.PartLemmas.{one_split, no_split}
use Rattle.replica_exchange.specs.Spelling.{Spelling, Begins, Refuses, field}
use Rattle.replica_exchange.specs.Faults.{IsDeltaCause}
use Rattle.replica_exchange.specs.StateText.{counted_text}
use Rattle.replica_exchange.specs.DeltaText.{from_line, delta_text, IsDeltaText}
use Rattle.replica_exchange.specs.declared.delta.Delta.{Delta}
use Rattle.replica_exchange.specs.declared.fault.StateFault.{StateFault}
use Rattle.replica_exchange.specs.declared.fault.StateFault.TheVariants.{TooLong, NotState, NoMemory}
use Rattle.replica_exchange.proofs.DeltaLemmas.{one_delta, one_delta_text}
use Rattle.replica_exchange.proofs.Sequences.{Leaves, refused_with, seq, seq_found, seq_first, seq_then, seq_once}
use Rattle.replica_exchange.proofs.SpellingLemmas.{Once, archive_once, original_once, original_lacks}
use Rattle.replica_exchange.proofs.WritingLemmas.{delta_counted}
use Rattle.delta_parts.specs.declared.place.Place.{Place}
use Rattle.delta_parts.specs.declared.part.Part.{Part}
use Rattle.delta_parts.specs.PartText.{IsPlace, place, place_text, behind_word, place_lines, head, part_text, IsPart, IsPartText, IsTooLong, IsPartCause}

-- the fault of a reader of the part is one of the whole
pub err_with : {X A B : Type 0} (s : Spelling A) (t : Spelling B) (text left : List ℕ) → Leaves s t text left → (r : Result X StateFault) → IfErr r (λ f. Refuses s left f)
    → IfErr r (λ f. Refuses t text f)
err_with s t text left leaves (Ok x) refused = tt
err_with s t text left leaves (Err e) refused = refused_with s t text left leaves e refused

-- ---- behind a word

module _ {A : Type 0} (word : List ℕ) (s : Spelling A) where
  regrouped : (text : List ℕ) (v : A) (rest : List ℕ) → Begins (behind_word word s) text v rest → text ≡ word ++ (s.spelled v ++ rest)
  regrouped text v rest begins = begins.whole ∙ append_assoc word (s.spelled v) rest

  pub word_found : (text left rest : List ℕ) (v : A) → text ≡ word ++ left → Begins s left v rest → Begins (behind_word word s) text v rest
  word_found text left rest v front begins = record {
    is = begins.is;
    whole = front ∙ (ap (λ (u : List ℕ). word ++ u) begins.whole ∙ sym (append_assoc word (s.spelled v) rest));
  }

  -- a text that doesn't begin with the word
  pub word_none : (text : List ℕ) → ((rest : List ℕ) → ¬ (text ≡ word ++ rest)) → (v : A) (rest : List ℕ) → ¬ Begins (behind_word word s) text v rest
  word_none text none v rest begins = none (s.spelled v ++ rest) (regrouped text v rest begins)

  module _ (text left : List ℕ) (front : text ≡ word ++ left) where
    pub word_left : (v : A) (rest : List ℕ) → Begins (behind_word word s) text v rest → Begins s left v rest
    word_left v rest begins = record {
      is = begins.is;
      whole = append_cancel_left word left (s.spelled v ++ rest) (sym front ∙ regrouped text v rest begins);
    }

    pub word_leaves : Leaves s (behind_word word s) text left
    word_leaves v rest begins = (v, rest, word_left v rest begins)

  pub word_once : Once s → Once (behind_word word s)
  word_once once text x y r u bx by =
      let left : List ℕ = s.spelled x ++ r in
      once left x y r u (record { is = bx.is; whole = refl }) (word_left text left (regrouped text x r bx) y u by)

-- ---- a place

abbrev name_and_original : Spelling (List ℕ × List ℕ)
name_and_original = seq (field IsArchiveName 32) (field IsOriginal 10)

some_parts : (text rest : List ℕ) (p : Place) → Begins place text (Some p) rest → Begins name_and_original text (p.archive, p.original) rest
some_parts text rest p begins = record { is = begins.is; whole = begins.whole }

pub no_place_found : (text rest : List ℕ) → text ≡ codes "-\n" ++ rest → Begins place text None rest
no_place_found text rest whole = record { is = tt; whole = whole }

pub place_found : (text mid rest archive original : List ℕ) → Begins (field IsArchiveName 32) text archive mid → Begins (field IsOriginal 10) mid original rest
    → Begins place text (Some (record { archive = archive; original = original })) rest
place_found text mid rest archive original first then =
    let both = seq_found (field IsArchiveName 32) (field IsOriginal 10) text mid rest archive original first then in
    record { is = both.is; whole = both.whole }

module _ (text : List ℕ) (some : (rest : List ℕ) → ¬ (text ≡ codes "-\n" ++ rest)) where
  -- neither a hyphen nor an archive's name
  pub place_without_archive : ((name rest : List ℕ) → ¬ Begins (field IsArchiveName 32) text name rest) → (v : Option Place) (rest : List ℕ) → ¬ Begins place text v rest
  place_without_archive none None rest begins = some rest begins.whole
  place_without_archive none (Some p) rest begins =
      none p.archive ((p.original ++ 10 ∷ []) ++ rest)
      (seq_first (field IsArchiveName 32) (field IsOriginal 10) text rest p.archive p.original (some_parts text rest p begins))

  -- a name, and then no original
  pub place_leaves_original : (mid name : List ℕ) → Begins (field IsArchiveName 32) text name mid → Leaves (field IsOriginal 10) place text mid
  place_leaves_original mid name first None rest begins = absurd (some rest begins.whole)
  place_leaves_original mid name first (Some p) rest begins =
      (p.original, rest, (seq_then (field IsArchiveName 32) (field IsOriginal 10) archive_once text mid rest p.archive name p.original first (some_parts text rest p begins)).1)

name_byte : (b : ℕ) → IsNameByte b → b ≢ 10
name_byte b (inl letter) same = omega (arith, letter, same)
name_byte b (inr (inl digit)) same = omega (arith, digit, same)
name_byte b (inr (inr (inl dot))) same = omega (arith, dot, same)
name_byte b (inr (inr (inr dash))) same = omega (arith, dash, same)

name_lacks : (text : List ℕ) → IsArchiveName text → Lacks 10 text
name_lacks text name = All-weaker IsNameByte (λ b. b ≢ 10) name_byte text name.1

hyphen_lacks : (byte : ℕ) → 45 ≢ byte → Lacks byte (codes "-")
hyphen_lacks byte other = All-push (λ b. b ≢ byte) [] 45 (All-nil (λ b. b ≢ byte)) other

-- no text begins with a hyphen's line and with that of a name and an original
apart : (text : List ℕ) (p : Place) (r u : List ℕ) → Begins place text None r → ¬ Begins place text (Some p) u
apart text p r u none some =
    let line : List ℕ = (p.archive ++ 32 ∷ []) ++ p.original in
    let lacks : Lacks 10 line =
    All-append (λ b. b ≢ 10) (p.archive ++ 32 ∷ []) p.original (All-push (λ b. b ≢ 10) p.archive 32 (name_lacks p.archive some.is.0) (λ same. omega (arith, same))) (original_lacks p.original some.is.1) in
    let whole : text ≡ line ++ 10 ∷ u =
    some.whole ∙ (append_assoc (p.archive ++ 32 ∷ []) (p.original ++ 10 ∷ []) u
    ∙ (ap (λ (l : List ℕ). (p.archive ++ 32 ∷ []) ++ l) (append_assoc p.original (10 ∷ []) u) ∙ sym (append_assoc (p.archive ++ 32 ∷ []) p.original (10 ∷ u)))) in
    let same : codes "-" ≡ line = (one_split 10 (codes "-") line r u (hyphen_lacks 10 (λ same. omega (arith, same))) lacks (sym none.whole ∙ whole)).0 in
    no_split 32 p.archive p.original (subst (Lacks 32) (same ∙ append_assoc p.archive (32 ∷ []) p.original) (hyphen_lacks 32 (λ same. omega (arith, same))))

pub place_once : Once place
place_once text None None r u bx by = (refl, append_cancel_left (codes "-\n") r u (sym bx.whole ∙ by.whole))
place_once text None (Some q) r u bx by = absurd (apart text q r u bx by)
place_once text (Some p) None r u bx by = absurd (apart text p u r by bx)
place_once text (Some p) (Some q) r u bx by =
    let same = seq_once (field IsArchiveName 32) (field IsOriginal 10) archive_once original_once text (p.archive, p.original) (q.archive, q.original) r u
    (some_parts text r p bx) (some_parts text u q by) in
    ((λ i. Some (record { archive = (same.0 i).0; original = (same.0 i).1 })), same.1)

-- ---- a part's own lines

abbrev pub behind_line : Spelling (Option Place)
behind_line = behind_word (codes "behind ") place

abbrev pub until_line : Spelling (Option Place)
until_line = behind_word (codes "until ") place

abbrev lines : Spelling (Option Place × Option Place)
lines = seq behind_line until_line

as_lines : (text : List ℕ) (v : Option Place × Option Place) (rest : List ℕ) → Begins place_lines text v rest → Begins lines text v rest
as_lines text v rest begins = record { is = begins.is; whole = begins.whole }

from_lines : (text : List ℕ) (v : Option Place × Option Place) (rest : List ℕ) → Begins lines text v rest → Begins place_lines text v rest
from_lines text v rest begins = record { is = begins.is; whole = begins.whole }

lines_once : Once lines
lines_once = seq_once behind_line until_line (word_once (codes "behind ") place place_once) (word_once (codes "until ") place place_once)

pub head_once : Once head
head_once = word_once (codes "memento-part 1\n") place_lines (λ text x y r u bx by. lines_once text x y r u (as_lines text x r bx) (as_lines text y u by))

pub head_has_front : (text : List ℕ) → ((rest : List ℕ) → ¬ (text ≡ codes "memento-part 1\n" ++ rest)) → (v : Option Place × Option Place) (rest : List ℕ) → ¬ Begins head text v rest
head_has_front text none v rest = word_none (codes "memento-part 1\n") place_lines text none v rest

module _ (text left : List ℕ) (front : text ≡ codes "memento-part 1\n" ++ left) where
  its_lines : (v : Option Place × Option Place) (rest : List ℕ) → Begins head text v rest → Begins lines left v rest
  its_lines v rest begins = as_lines left v rest (word_left (codes "memento-part 1\n") place_lines text left front v rest begins)

  pub head_leaves_behind : Leaves behind_line head text left
  head_leaves_behind v rest begins = (v.0, until_line.spelled v.1 ++ rest, seq_first behind_line until_line left rest v.0 v.1 (its_lines v rest begins))

  module _ (behind : Option Place) (mid : List ℕ) (first : Begins behind_line left behind mid) where
    pub head_leaves_until : Leaves until_line head text mid
    head_leaves_until v rest begins =
        (v.1, rest, (seq_then behind_line until_line (word_once (codes "behind ") place place_once) left mid rest v.0 behind v.1 first (its_lines v rest begins)).1)

    pub head_found : (until : Option Place) (rest : List ℕ) → Begins until_line mid until rest → Begins head text (behind, until) rest
    head_found until rest then = word_found (codes "memento-part 1\n") place_lines text left rest (behind, until) front
        (from_lines left (behind, until) rest (seq_found behind_line until_line left mid rest behind until first then))

-- ---- a part

-- the exit of a `?` passes the fault on
pub cause_passed : {X : Type 0} (text : List ℕ) (r : Result X StateFault) (fault : StateFault) → IsErrAnd r (λ e. e ≡ fault) → IsPartCause fault text → IfErr r (λ f. IsPartCause f text)
cause_passed text (Ok x) fault out cause = tt
cause_passed text (Err e) fault out cause = subst (λ (f : StateFault). IsPartCause f text) (sym out) cause

pub head_refused : (text : List ℕ) (fault : StateFault) → Refuses head text fault → IsPartCause fault text
head_refused text TooLong refused = absurd refused
head_refused text NotState refused = λ p is. refused (p.behind, p.until) is.rest is.head
head_refused text NoMemory refused = tt

pub delta_refused : (text rest : List ℕ) (v : Option Place × Option Place) → Begins head text v rest → (fault : StateFault) → IsDeltaCause fault rest → IsPartCause fault text
delta_refused text rest v begins TooLong long = record { places = v; rest = rest; head = begins; long = long }
delta_refused text rest v begins NotState none = λ p is.
    none.1 p.delta (subst (λ (t : List ℕ). IsDeltaText t p.delta) (head_once text (p.behind, p.until) v is.rest rest is.head begins).1 is.delta)
delta_refused text rest v begins NoMemory cause = tt

same_part : (x y : Part) → x.delta ≡ y.delta → ◌≡◌ {A = Option Place × Option Place} (x.behind, x.until) (y.behind, y.until) → x ≡ y
same_part x y delta places = λ i. record { delta = delta i; behind = (places i).0; until = (places i).1 }

pub one_part_text : (text : List ℕ) (x y : Part) → IsPartText text x → IsPartText text y → x ≡ y
one_part_text text x y tx ty =
    let heads = head_once text (x.behind, x.until) (y.behind, y.until) tx.rest ty.rest tx.head ty.head in
    same_part x y (one_delta_text ty.rest x.delta y.delta (subst (λ (t : List ℕ). IsDeltaText t x.delta) heads.1 tx.delta) ty.delta) heads.0

its_head : (x : Part) → IsPart x → Begins head (part_text x) (x.behind, x.until) (delta_text x.delta)
its_head x is = record { is = (is.behind, is.until); whole = refl }

pub one_part : (x y : Part) → IsPart x → IsPart y → part_text x ≡ part_text y → x ≡ y
one_part x y is_x is_y same =
    let heads = head_once (part_text y) (x.behind, x.until) (y.behind, y.until) (delta_text x.delta) (delta_text y.delta)
    (subst (λ (t : List ℕ). Begins head t (x.behind, x.until) (delta_text x.delta)) same (its_head x is_x)) (its_head y is_y) in
    same_part x y (one_delta x.delta y.delta is_x.delta is_y.delta heads.1) heads.0

-- behind a part's own lines the text is that of a delta
pub part_written : (d : Delta) (own h first spanned named listed out : List ℕ) → h ≡ own → first ≡ h ++ codes "memento-delta 2\n"
    → spanned ≡ first ++ from_line d.incarnation d.start d.end → named ≡ spanned ++ codes "entries "
    → listed ≡ named ++ counted_text (map.entries d.state) → out ≡ listed ++ codes "end\n" → out ≡ own ++ delta_text d
part_written d own h first spanned named listed out is_h is_first is_spanned is_named is_listed is_out =
    let f : List ℕ = codes "memento-delta 2\n" in
    let line : List ℕ = from_line d.incarnation d.start d.end in
    let word : List ℕ = codes "entries " in
    let counted : List ℕ = counted_text (map.entries d.state) in
    let end : List ℕ = codes "end\n" in
    let one : first ≡ own ++ f = is_first ∙ ap (λ (u : List ℕ). u ++ f) is_h in
    let two : spanned ≡ own ++ (f ++ line) = is_spanned ∙ (ap (λ (u : List ℕ). u ++ line) one ∙ append_assoc own f line) in
    let three : named ≡ own ++ ((f ++ line) ++ word) = is_named ∙ (ap (λ (u : List ℕ). u ++ word) two ∙ append_assoc own (f ++ line) word) in
    let four : listed ≡ own ++ (((f ++ line) ++ word) ++ counted) = is_listed ∙ (ap (λ (u : List ℕ). u ++ counted) three ∙ append_assoc own ((f ++ line) ++ word) counted) in
    let five : out ≡ own ++ ((((f ++ line) ++ word) ++ counted) ++ end) = is_out ∙ (ap (λ (u : List ℕ). u ++ end) four ∙ append_assoc own (((f ++ line) ++ word) ++ counted) end) in
    five ∙ ap (λ (u : List ℕ). own ++ u)
    (delta_counted d f (f ++ line) ((f ++ line) ++ word) (((f ++ line) ++ word) ++ counted) ((((f ++ line) ++ word) ++ counted) ++ end) refl refl refl refl refl)
