-- A line is read as the form whose text it is.
use Rattle.std.proofs.Common.{◌≡◌, ℕ, ◌<◌, ◌≤◌, Bool, true, false, ◌==◌, ◌&&◌, nat_le, if◌then◌else◌, List, [], ◌∷◌, ◌++◌, length, Option, Some, None, refl, sym, ap, subst, ◌∙◌, arith}
use Rattle.std.specs.Prelude.{not, codes, bytes_eq}
use Rattle.std.specs.Fmt.{decimal}
use Rattle.std.specs.List.{list_all}
use Rattle.std.proofs.lemmas.Grind.{common_steps}
use Rattle.std.proofs.lemmas.List.Elements.{All-cons}
use Rattle.std.proofs.lemmas.Option.{same_Some}
use Rattle.std.proofs.lemmas.Slice.Eq.{bytes_eq-Decides}
use Rattle.text_fields.specs.Finds.{Finds}
use Rattle.text_fields.specs.Decimals.{number_of}
use Rattle.text_fields.specs.Parts.{Lacks, spaced_fields}
use Rattle.text_fields.proofs.DecimalLemmas.{number_is, decimal_lacks}
use Rattle.text_fields.proofs.PartLemmas.{parts_are, parts_none_lacks, parts_lacking}
use Rattle.replica_world.specs.Fields.{field, number_field, word_field, is_visible}
use Rattle.replica_world.specs.Form.{Form, TakeForm, AskForm, Take, Map, Gate, GateAt, Ask, Send, SendFrom, Deliver, Receive, Restart, form_text}
use Rattle.replica_world.specs.Form.{IsNumber, IsWord, IsWritten, most_asked, take_word, take_of, map_of, gate_at, gate_of, ask_of, send_of}
use Rattle.replica_world.specs.Form.{send_from_of, deliver_of, receive_of, restart_of, form_by_word, form_of}
use Rattle.link_format.specs.Scan.{◌>>=◌}
use Rattle.link_format.proofs.Sound.{bind_some}

-- ---- one reading after another

-- the second goes on from what the first found
pub onward : {A B : Type 0} (o : Option A) (next : A → Option B) (a : A) → o ≡ Some a → (o >>= next) ≡ next a
onward {A} o next a is = ap (λ (o : Option A). o >>= next) is

-- what passes a test
pub kept : {A : Type 0} (test : Bool) (x y : A) → (if test then Some x else None) ≡ Some y → (test ≡ true) × (x ≡ y)
kept true x y is = (refl, same_Some x y is)
kept false x y is = absurd (let none : None ≡ Some y = is in cc)

left : {A : Type 0} (test : Bool) (x y : A) → (if test then None else Some x) ≡ Some y → (test ≡ false) × (x ≡ y)
left true x y is = absurd (let none : None ≡ Some y = is in cc)
left false x y is = (refl, same_Some x y is)

-- ---- the fields in front

-- a number, a space, and what follows
abbrev pub NumberAt : List ℕ → ℕ × List ℕ → Type 0
NumberAt text p = IsNumber p.0 × (text ≡ decimal p.0 ++ 32 ∷ p.1)

pub number_field_is : (text : List ℕ) → Finds (number_field text) (NumberAt text)
number_field_is text p = (there, here) where
  there : number_field text ≡ Some p → NumberAt text p
  there is =
      let part = bind_some (field text) _ p is in
      let n = bind_some (number_of part.0.0) _ p part.2 in
      let split = (parts_are 32 text part.0).0 part.1 in
      let laid = (number_is part.0.0 n.0).0 n.1 in
      subst (NumberAt text) (same_Some (n.0, part.0.1) p n.2) (laid.0, split.1 ∙ ap (λ (d : List ℕ). d ++ 32 ∷ part.0.1) laid.1)

  here : NumberAt text p → number_field text ≡ Some p
  here laid =
      let split : field text ≡ Some (decimal p.0, p.1) = (parts_are 32 text (decimal p.0, p.1)).1 (decimal_lacks 32 (omega arith) p.0 laid.0, laid.1) in
      onward (field text) _ (decimal p.0, p.1) split ∙ onward (number_of (decimal p.0)) _ p.0 ((number_is (decimal p.0) p.0).1 (laid.0, refl))

-- a word, a space, and what follows
abbrev WordAt : List ℕ → List ℕ × List ℕ → Type 0
WordAt text p = IsWord p.0 × (text ≡ p.0 ++ 32 ∷ p.1)

some_bytes : (word : List ℕ) → (length word == 0) ≡ false → 0 < length word
some_bytes word is = grind (arith, common_steps)

not_empty : (word : List ℕ) → 0 < length word → (length word == 0) ≡ false
not_empty word some = grind (arith, common_steps)

word_field_is : (text : List ℕ) → Finds (word_field text) (WordAt text)
word_field_is text p = (there, here) where
  there : word_field text ≡ Some p → WordAt text p
  there is =
      let part = bind_some (field text) _ p is in
      let some = left (length part.0.0 == 0) part.0 p part.2 in
      let split = (parts_are 32 text part.0).0 part.1 in
      subst (WordAt text) some.1 ((some_bytes part.0.0 some.0, split.0), split.1)

  here : WordAt text p → word_field text ≡ Some p
  here laid =
      onward (field text) _ p ((parts_are 32 text p).1 (laid.0.1, laid.1))
      ∙ ap (λ (empty : Bool). if empty then None else Some p) (not_empty p.0 laid.0.0)

-- ---- the word of a form, and the fields behind it

abbrev word_of : Form → List ℕ
word_of (Take f) = take_word f.is_whole
word_of (Map replica original) = codes "map"
word_of (Gate replica original) = codes "gate"
word_of (GateAt replica original asked) = codes "gate"
word_of (Ask f) = codes "ask"
word_of (Send replica) = codes "send"
word_of (SendFrom replica merges) = codes "sendfrom"
word_of (Deliver replica message) = codes "deliver"
word_of (Receive replica len) = codes "receive"
word_of (Restart replica) = codes "restart"

abbrev fields_of : Form → List ℕ
fields_of (Take f) = spaced_fields (decimal f.replica ∷ f.archive ∷ decimal f.revision ∷ f.address ∷ decimal f.len ∷ f.original ∷ [])
fields_of (Map replica original) = spaced_fields (decimal replica ∷ original ∷ [])
fields_of (Gate replica original) = spaced_fields (decimal replica ∷ original ∷ [])
fields_of (GateAt replica original asked) = spaced_fields (decimal replica ∷ original ∷ asked ∷ [])
fields_of (Ask f) = spaced_fields (decimal f.replica ∷ f.method ∷ decimal f.count ∷ f.target ∷ [])
fields_of (Send replica) = decimal replica
fields_of (SendFrom replica merges) = spaced_fields (decimal replica ∷ decimal merges ∷ [])
fields_of (Deliver replica message) = spaced_fields (decimal replica ∷ decimal message ∷ [])
fields_of (Receive replica len) = spaced_fields (decimal replica ∷ decimal len ∷ [])
fields_of (Restart replica) = decimal replica

form_text-parts : (f : Form) → form_text f ≡ word_of f ++ 32 ∷ fields_of f
form_text-parts (Take f) = refl
form_text-parts (Map replica original) = refl
form_text-parts (Gate replica original) = refl
form_text-parts (GateAt replica original asked) = refl
form_text-parts (Ask f) = refl
form_text-parts (Send replica) = refl
form_text-parts (SendFrom replica merges) = refl
form_text-parts (Deliver replica message) = refl
form_text-parts (Receive replica len) = refl
form_text-parts (Restart replica) = refl

other_byte : (b : ℕ) → not (b == 32) ≡ true → b ≡ 32 → ⊥
other_byte b is same = absurd (grind (arith, common_steps))

pub lacks_space : (word : List ℕ) → list_all (λ b. not (b == 32)) word ≡ true → Lacks 32 word
lacks_space [] is = λ k d lt. absurd (omega arith)
lacks_space (b ∷ word) is =
    let first : not (b == 32) ≡ true = grind (arith, common_steps) in
    let later : list_all (λ b. not (b == 32)) word ≡ true = grind (arith, common_steps) in
    All-cons (λ b. b ≡ 32 → ⊥) b word (other_byte b first) (lacks_space word later)

take_word_lacks : (is_whole : Bool) → Lacks 32 (take_word is_whole)
take_word_lacks true = lacks_space (codes "take") refl
take_word_lacks false = lacks_space (codes "takepart") refl

word_lacks : (f : Form) → Lacks 32 (word_of f)
word_lacks (Take f) = take_word_lacks f.is_whole
word_lacks (Map replica original) = lacks_space (codes "map") refl
word_lacks (Gate replica original) = lacks_space (codes "gate") refl
word_lacks (GateAt replica original asked) = lacks_space (codes "gate") refl
word_lacks (Ask f) = lacks_space (codes "ask") refl
word_lacks (Send replica) = lacks_space (codes "send") refl
word_lacks (SendFrom replica merges) = lacks_space (codes "sendfrom") refl
word_lacks (Deliver replica message) = lacks_space (codes "deliver") refl
word_lacks (Receive replica len) = lacks_space (codes "receive") refl
word_lacks (Restart replica) = lacks_space (codes "restart") refl

-- the word and the fields are those of a form
abbrev Laid : List ℕ → List ℕ → Form → Type 0
Laid word fields f = IsWritten f × (word ≡ word_of f) × (fields ≡ fields_of f)

-- ---- what is read was written so

take_laid : (is_whole : Bool) (fields : List ℕ) (f : Form) → take_of is_whole fields ≡ Some f → Laid (take_word is_whole) fields f
unfolding take_of
take_laid is_whole fields f is =
    let replica = bind_some (number_field fields) _ f is in
    let archive = bind_some (word_field replica.0.1) _ f replica.2 in
    let revision = bind_some (number_field archive.0.1) _ f archive.2 in
    let address = bind_some (word_field revision.0.1) _ f revision.2 in
    let len = bind_some (number_field address.0.1) _ f address.2 in
    let r = (number_field_is fields replica.0).0 replica.1 in
    let a = (word_field_is replica.0.1 archive.0).0 archive.1 in
    let v = (number_field_is archive.0.1 revision.0).0 revision.1 in
    let d = (word_field_is revision.0.1 address.0).0 address.1 in
    let n = (number_field_is address.0.1 len.0).0 len.1 in
    subst (Laid (take_word is_whole) fields) (same_Some _ _ len.2) (
      (r.0, a.0, v.0, d.0, n.0),
      refl,
      r.1 ∙ ap (λ (t : List ℕ). decimal replica.0.0 ++ 32 ∷ t)
          (a.1 ∙ ap (λ (t : List ℕ). archive.0.0 ++ 32 ∷ t) (v.1
          ∙ ap (λ (t : List ℕ). decimal revision.0.0 ++ 32 ∷ t) (d.1 ∙ ap (λ (t : List ℕ). address.0.0 ++ 32 ∷ t) n.1))),
    )

map_laid : (fields : List ℕ) (f : Form) → map_of fields ≡ Some f → Laid (codes "map") fields f
unfolding map_of
map_laid fields f is =
    let replica = bind_some (number_field fields) _ f is in
    let r = (number_field_is fields replica.0).0 replica.1 in
    subst (Laid (codes "map") fields) (same_Some _ _ replica.2) (r.0, refl, r.1)

gate_laid : (fields : List ℕ) (f : Form) → gate_of fields ≡ Some f → Laid (codes "gate") fields f
unfolding gate_of
gate_laid fields f is =
    let replica = bind_some (number_field fields) _ f is in
    subst (Laid (codes "gate") fields) (same_Some _ _ replica.2) (on replica.0.0 replica.0.1 ((number_field_is fields replica.0).0 replica.1) (field replica.0.1) refl) where
      on : (replica : ℕ) (rest : List ℕ) → NumberAt fields (replica, rest) → (found : Option (List ℕ × List ℕ)) → field rest ≡ found → Laid (codes "gate") fields (gate_at replica rest found)
      on replica rest r None is = ((r.0, parts_none_lacks 32 rest is), refl, r.1)
      on replica rest r (Some parts) is =
          let split = (parts_are 32 rest parts).0 is in
          ((r.0, split.0), refl, r.1 ∙ ap (λ (t : List ℕ). decimal replica ++ 32 ∷ t) split.1)

fits : (visible : Bool) (count : ℕ) → (visible && nat_le count most_asked) ≡ true → (visible ≡ true) × (count ≤ most_asked)
fits true count is = (refl, grind (arith, common_steps))
fits false count is = absurd (let both : false ≡ true = is in cc)

fits_both : (visible : Bool) (count : ℕ) → visible ≡ true → count ≤ most_asked → (visible && nat_le count most_asked) ≡ true
fits_both true count seen few = grind (arith, common_steps)
fits_both false count seen few = absurd (let both : false ≡ true = seen in cc)

ask_laid : (fields : List ℕ) (f : Form) → ask_of fields ≡ Some f → Laid (codes "ask") fields f
unfolding ask_of
ask_laid fields f is =
    let replica = bind_some (number_field fields) _ f is in
    let method = bind_some (word_field replica.0.1) _ f replica.2 in
    let count = bind_some (number_field method.0.1) _ f method.2 in
    let some = kept _ _ f count.2 in
    let seen = fits (list_all is_visible method.0.0) count.0.0 some.0 in
    let r = (number_field_is fields replica.0).0 replica.1 in
    let m = (word_field_is replica.0.1 method.0).0 method.1 in
    let n = (number_field_is method.0.1 count.0).0 count.1 in
    subst (Laid (codes "ask") fields) some.1 (
      (r.0, (m.0, seen.0), seen.1),
      refl,
      r.1 ∙ ap (λ (t : List ℕ). decimal replica.0.0 ++ 32 ∷ t) (m.1 ∙ ap (λ (t : List ℕ). method.0.0 ++ 32 ∷ t) n.1),
    )

send_laid : (fields : List ℕ) (f : Form) → send_of fields ≡ Some f → Laid (codes "send") fields f
unfolding send_of
send_laid fields f is =
    let replica = bind_some (number_of fields) _ f is in
    let r = (number_is fields replica.0).0 replica.1 in
    subst (Laid (codes "send") fields) (same_Some _ _ replica.2) (r.0, refl, r.1)

send_from_laid : (fields : List ℕ) (f : Form) → send_from_of fields ≡ Some f → Laid (codes "sendfrom") fields f
unfolding send_from_of
send_from_laid fields f is =
    let replica = bind_some (number_field fields) _ f is in
    let merges = bind_some (number_of replica.0.1) _ f replica.2 in
    let r = (number_field_is fields replica.0).0 replica.1 in
    let n = (number_is replica.0.1 merges.0).0 merges.1 in
    subst (Laid (codes "sendfrom") fields) (same_Some _ _ merges.2) ((r.0, n.0), refl, r.1 ∙ ap (λ (t : List ℕ). decimal replica.0.0 ++ 32 ∷ t) n.1)

deliver_laid : (fields : List ℕ) (f : Form) → deliver_of fields ≡ Some f → Laid (codes "deliver") fields f
unfolding deliver_of
deliver_laid fields f is =
    let replica = bind_some (number_field fields) _ f is in
    let message = bind_some (number_of replica.0.1) _ f replica.2 in
    let r = (number_field_is fields replica.0).0 replica.1 in
    let m = (number_is replica.0.1 message.0).0 message.1 in
    subst (Laid (codes "deliver") fields) (same_Some _ _ message.2) ((r.0, m.0), refl, r.1 ∙ ap (λ (t : List ℕ). decimal replica.0.0 ++ 32 ∷ t) m.1)

receive_laid : (fields : List ℕ) (f : Form) → receive_of fields ≡ Some f → Laid (codes "receive") fields f
unfolding receive_of
receive_laid fields f is =
    let replica = bind_some (number_field fields) _ f is in
    let len = bind_some (number_of replica.0.1) _ f replica.2 in
    let r = (number_field_is fields replica.0).0 replica.1 in
    let n = (number_is replica.0.1 len.0).0 len.1 in
    subst (Laid (codes "receive") fields) (same_Some _ _ len.2) ((r.0, n.0), refl, r.1 ∙ ap (λ (t : List ℕ). decimal replica.0.0 ++ 32 ∷ t) n.1)

restart_laid : (fields : List ℕ) (f : Form) → restart_of fields ≡ Some f → Laid (codes "restart") fields f
unfolding restart_of
restart_laid fields f is =
    let replica = bind_some (number_of fields) _ f is in
    let r = (number_is fields replica.0).0 replica.1 in
    subst (Laid (codes "restart") fields) (same_Some _ _ replica.2) (r.0, refl, r.1)

-- a line's word is the one that is looked for
by_word : (word name fields : List ℕ) (f : Form) → bytes_eq word name ≡ true → Laid name fields f → Laid word fields f
by_word word name fields f is laid = (laid.0, (bytes_eq-Decides word name).0 is ∙ laid.1, laid.2)

-- a word that is looked for, or else another
or_else : (word name fields : List ℕ) (f : Form) (found later : Option Form) → (found ≡ Some f → Laid name fields f) → (later ≡ Some f → Laid word fields f)
    → (if bytes_eq word name then found else later) ≡ Some f → Laid word fields f
or_else word name fields f found later own others = on (bytes_eq word name) refl where
  on : (is : Bool) → bytes_eq word name ≡ is → (if is then found else later) ≡ Some f → Laid word fields f
  on true same is = by_word word name fields f same (own is)
  on false same is = others is

named_laid : (word fields : List ℕ) (f : Form) → form_by_word word fields ≡ Some f → Laid word fields f
unfolding form_by_word
named_laid word fields f =
    or_else word (codes "take") fields f _ _ (take_laid true fields f)
    (or_else word (codes "takepart") fields f _ _ (take_laid false fields f)
    (or_else word (codes "map") fields f _ _ (map_laid fields f)
    (or_else word (codes "gate") fields f _ _ (gate_laid fields f)
    (or_else word (codes "ask") fields f _ _ (ask_laid fields f)
    (or_else word (codes "send") fields f _ _ (send_laid fields f)
    (or_else word (codes "sendfrom") fields f _ _ (send_from_laid fields f)
    (or_else word (codes "deliver") fields f _ _ (deliver_laid fields f)
    (or_else word (codes "receive") fields f _ _ (receive_laid fields f)
    (or_else word (codes "restart") fields f _ _ (restart_laid fields f)
    (λ is. absurd (let none : None ≡ Some f = is in cc)))))))))))

-- ---- what was written is read

-- a number in front
number_first : (n : ℕ) (rest : List ℕ) → IsNumber n → number_field (decimal n ++ 32 ∷ rest) ≡ Some (n, rest)
number_first n rest small = (number_field_is (decimal n ++ 32 ∷ rest) (n, rest)).1 (small, refl)

word_first : (word rest : List ℕ) → IsWord word → word_field (word ++ 32 ∷ rest) ≡ Some (word, rest)
word_first word rest is = (word_field_is (word ++ 32 ∷ rest) (word, rest)).1 (is, refl)

-- a number alone
number_alone : (n : ℕ) → IsNumber n → number_of (decimal n) ≡ Some n
number_alone n small = (number_is (decimal n) n).1 (small, refl)

take_read : (f : TakeForm) → IsWritten (Take f) → take_of f.is_whole (fields_of (Take f)) ≡ Some (Take f)
unfolding take_of
take_read f w =
    onward _ _ _ (number_first f.replica (spaced_fields (f.archive ∷ decimal f.revision ∷ f.address ∷ decimal f.len ∷ f.original ∷ [])) w.0)
    ∙ onward _ _ _ (word_first f.archive (spaced_fields (decimal f.revision ∷ f.address ∷ decimal f.len ∷ f.original ∷ [])) w.1)
    ∙ onward _ _ _ (number_first f.revision (spaced_fields (f.address ∷ decimal f.len ∷ f.original ∷ [])) w.2)
    ∙ onward _ _ _ (word_first f.address (spaced_fields (decimal f.len ∷ f.original ∷ [])) w.3)
    ∙ onward _ _ _ (number_first f.len f.original w.4)

ask_read : (f : AskForm) → IsWritten (Ask f) → ask_of (fields_of (Ask f)) ≡ Some (Ask f)
unfolding ask_of
ask_read f w =
    onward _ _ _ (number_first f.replica (spaced_fields (f.method ∷ decimal f.count ∷ f.target ∷ [])) w.0)
    ∙ onward _ _ _ (word_first f.method (spaced_fields (decimal f.count ∷ f.target ∷ [])) w.1.0)
    ∙ onward _ _ _ (number_first f.count f.target (omega (arith, w.2)))
    ∙ ap (λ (b : Bool). if b then Some (Ask f) else None) (fits_both (list_all is_visible f.method) f.count w.1.1 w.2)

named_take : (is_whole : Bool) (fields : List ℕ) → form_by_word (take_word is_whole) fields ≡ take_of is_whole fields
unfolding form_by_word
named_take true fields = refl
named_take false fields = refl

named_read : (f : Form) → IsWritten f → form_by_word (word_of f) (fields_of f) ≡ Some f
unfolding form_by_word map_of gate_of send_of send_from_of deliver_of receive_of restart_of
named_read (Take f) w = named_take f.is_whole (fields_of (Take f)) ∙ take_read f w
named_read (Map replica original) w = onward _ _ _ (number_first replica original w)
named_read (Gate replica original) w =
    onward _ _ _ (number_first replica original w.0) ∙ ap (λ (found : Option (List ℕ × List ℕ)). Some (gate_at replica original found)) (parts_lacking 32 original w.1)
named_read (GateAt replica original asked) w =
    onward _ _ _ (number_first replica (original ++ 32 ∷ asked) w.0)
    ∙ ap (λ (found : Option (List ℕ × List ℕ)). Some (gate_at replica (original ++ 32 ∷ asked) found)) ((parts_are 32 (original ++ 32 ∷ asked) (original, asked)).1 (w.1, refl))
named_read (Ask f) w = ask_read f w
named_read (Send replica) w = onward _ _ _ (number_alone replica w)
named_read (SendFrom replica merges) w = onward _ _ _ (number_first replica (decimal merges) w.0) ∙ onward _ _ _ (number_alone merges w.1)
named_read (Deliver replica message) w = onward _ _ _ (number_first replica (decimal message) w.0) ∙ onward _ _ _ (number_alone message w.1)
named_read (Receive replica len) w = onward _ _ _ (number_first replica (decimal len) w.0) ∙ onward _ _ _ (number_alone len w.1)
named_read (Restart replica) w = onward _ _ _ (number_alone replica w)

-- ---- so a line is read as the one form whose text it is

pub form_is : (line : List ℕ) → Finds (form_of line) (λ f. IsWritten f × (line ≡ form_text f))
unfolding form_of
form_is line f = (there, here) where
  there : (field line >>= λ word. form_by_word word.0 word.1) ≡ Some f → IsWritten f × (line ≡ form_text f)
  there is =
      let word = bind_some (field line) _ f is in
      let laid = named_laid word.0.0 word.0.1 f word.2 in
      let split = (parts_are 32 line word.0).0 word.1 in
      (laid.0, split.1 ∙ (λ i. laid.1 i ++ 32 ∷ laid.2 i) ∙ sym (form_text-parts f))

  here : IsWritten f × (line ≡ form_text f) → (field line >>= λ word. form_by_word word.0 word.1) ≡ Some f
  here (w, is) = onward (field line) _ (word_of f, fields_of f) ((parts_are 32 line (word_of f, fields_of f)).1 (word_lacks f, is ∙ form_text-parts f)) ∙ named_read f w
