-- What is read of a snapshot, and what it joins to.
use Rattle.std.proofs.Common.{◌≡◌, ℕ, ◌<◌, ◌≤◌, ◌^◌, ◌+◌, ◌++◌, map, List, [], ◌∷◌, Option, Some, None, IfSome, length, refl, sym, ap, ◌∙◌, subst, arith, append_assoc, inl}
use Rattle.std.specs.Prelude.{All, Result, Ok, Err, IsErrAnd, IsErrOf}
use Rattle.std.specs.List.{flat_map, AllByRecursion}
use Rattle.std.specs.Io.KnownBytes.{Consumes, IsAtEnd}
use Rattle.std.proofs.KnownBytes.{Consumes-trans}
use Rattle.std.proofs.lemmas.List.{append-nil, append_cancel_left, length-append, length-map, length_push}
use Rattle.std.proofs.lemmas.List.Elements.{All-nil, All-cons, All-push, All-head, All-tail}
use Rattle.harvest_lattice.specs.Lattice.{Entries, join}
use Rattle.harvest_lattice.specs.Knowledge.{Harvested, lat, adds}
use Rattle.harvest_lattice.proofs.Knowledge.{lat-append, lat-adds, lat-nil}
use Rattle.memento_index.specs.Merges.{adds_of}
use Rattle.memento_index.specs.declared.merge.Merge.TheVariants.{State}
use Rattle.replica_exchange.specs.StateText.{state_text, IsTextOf}
use Rattle.replica_exchange.specs.Faults.{IsCause}
use Rattle.replica_exchange.specs.declared.fault.StateFault.{StateFault}
use Rattle.replica_exchange.specs.declared.fault.StateFault.TheVariants.{TooLong, NotState, NoMemory}
use Rattle.replica_exchange.proofs.StateLemmas.{one_state}
use Rattle.snapshot_sections.specs.Sections.{first_line, last_line, section_text, snapshot_text, AreSections}
use Rattle.snapshot_sections.specs.Refusals.{LacksFirstLine, LacksSection}
use Rattle.snapshot_sections.proofs.Sections.{one_snapshot, front_texts, no_last, same_text}
use Rattle.snapshots.specs.Cuts.{join_all}
use Rattle.snapshots.specs.Faults.{of_text}
use Rattle.snapshots.specs.declared.faults.ReadFault.{ReadFault}
use Rattle.snapshots.specs.declared.faults.ReadFault.TheVariants.{NotSnapshot}
use Rattle.snapshots.specs.Snapshots.{IsReadable, IsSnapshotOf, AreTextsOf, IsReadAs, IsNoSnapshot}
use Rattle.snapshots.proofs.Cutting.{cut_joined}

-- texts of the same states
same_states : (xs ys : List Entries) → AllByRecursion IsReadable xs → AreTextsOf (map state_text xs) ys → xs ≡ ys
same_states [] [] fit texts = refl
same_states [] (y ∷ ys) fit texts = absurd texts
same_states (x ∷ xs) [] fit texts = absurd texts
same_states (x ∷ xs) (y ∷ ys) fit texts =
    let own : IsTextOf (state_text x) x = record { state = fit.0.state; text = inl refl } in
    let first : x ≡ y = one_state (state_text x) x y own texts.0 in
    let rest : xs ≡ ys = same_states xs ys fit.1 texts.1 in
    λ i. first i ∷ rest i

-- texts that can be read are sections
each_is_short : (xs : List Entries) → AllByRecursion IsReadable xs → All (λ (t : List ℕ). length t < 2 ^ 64) (map state_text xs)
each_is_short [] fit = All-nil (λ (t : List ℕ). length t < 2 ^ 64)
each_is_short (x ∷ xs) fit =
    let short = fit.0.short in
    All-cons (λ (t : List ℕ). length t < 2 ^ 64) (state_text x) (map state_text xs) (omega (arith, short)) (each_is_short xs fit.1)

as_sections : (bytes : List ℕ) (x : Entries) → (s : IsSnapshotOf bytes x) → AreSections (map state_text s.states)
as_sections bytes x s = record {
  each = each_is_short s.states s.readable;
  count = subst (λ (n : ℕ). n < 2 ^ 64) (sym (length-map s.states state_text)) s.few;
}

pub read_back : (bytes : List ℕ) (x : Entries) (states : List Entries) → IsSnapshotOf bytes x → IsReadAs bytes states → join_all states ≡ x
read_back bytes x states snapshot read =
    let one = one_snapshot (map state_text snapshot.states) read.texts [] [] (as_sections bytes x snapshot) read.sections
    (append-nil (snapshot_text (map state_text snapshot.states)) ∙ (sym snapshot.bytes_are ∙ (read.bytes_are ∙ sym (append-nil (snapshot_text read.texts))))) in
    let same : snapshot.states ≡ states = same_states snapshot.states states snapshot.readable (subst (λ (ts : List (List ℕ)). AreTextsOf ts states) (sym one.0) read.texts_are) in
    ap join_all (sym same) ∙ cut_joined x snapshot.states snapshot.cut

pub cut_short : (bytes rest : List ℕ) (x : Entries) (states : List Entries) → IsSnapshotOf (bytes ++ rest) x → IsReadAs bytes states → rest ≡ []
cut_short bytes rest x states snapshot read =
    sym (one_snapshot (map state_text snapshot.states) read.texts [] rest (as_sections (bytes ++ rest) x snapshot) read.sections
    (append-nil (snapshot_text (map state_text snapshot.states)) ∙ (sym snapshot.bytes_are ∙ ap (λ (t : List ℕ). t ++ rest) read.bytes_are))).1

pub more_behind : (bytes rest : List ℕ) (x : Entries) (states : List Entries) → IsSnapshotOf bytes x → IsReadAs (bytes ++ rest) states → rest ≡ []
more_behind bytes rest x states snapshot read =
    (one_snapshot (map state_text snapshot.states) read.texts rest [] (as_sections bytes x snapshot) read.sections
    (ap (λ (t : List ℕ). t ++ rest) (sym snapshot.bytes_are) ∙ (read.bytes_are ∙ sym (append-nil (snapshot_text read.texts))))).1

-- what states add, one after the other
added_states : (xs : List Entries) → lat (flat_map adds_of (map State xs)) ≡ join_all xs
added_states [] = lat-nil
added_states (x ∷ xs) =
    lat-append (adds x) (flat_map adds_of (map State xs))
    ∙ (λ i. join (lat-adds x i) (added_states xs i))

pub taken_in : (hs : List Harvested) (xs : List Entries) → lat (hs ++ flat_map adds_of (map State xs)) ≡ join (lat hs) (join_all xs)
taken_in hs xs = lat-append hs (flat_map adds_of (map State xs)) ∙ ap (join (lat hs)) (added_states xs)

-- ---- reading on

pub record HasRead (old now : Option (List ℕ)) (count : ℕ) (states : List Entries) : Type 0 where
  pub texts : List (List ℕ)
  pub consumed : Consumes old now (first_line ++ flat_map section_text texts)
  pub texts_are : AreTextsOf texts states
  pub counted : length texts ≡ count
  pub short : All (λ (t : List ℕ). length t < 2 ^ 64) texts

pub none_read : (old now : Option (List ℕ)) (states : List Entries) → Consumes old now first_line → states ≡ [] → HasRead old now 0 states
none_read old now states first none = record {
  texts = [];
  consumed = subst (Consumes old now) (sym (append-nil first_line)) first;
  texts_are = subst (AreTextsOf []) (sym none) tt;
  counted = refl;
  short = All-nil (λ (t : List ℕ). length t < 2 ^ 64);
}

push_text : (ts : List (List ℕ)) (xs : List Entries) (t : List ℕ) (x : Entries) → AreTextsOf ts xs → IsTextOf t x → AreTextsOf (ts ++ t ∷ []) (xs ++ x ∷ [])
push_text [] [] t x are is = (is, tt)
push_text [] (y ∷ xs) t x are is = absurd are
push_text (s ∷ ts) [] t x are is = absurd are
push_text (s ∷ ts) (y ∷ xs) t x are is = (are.0, push_text ts xs t x are.1 is)

pub one_read : (old mid now : Option (List ℕ)) (count : ℕ) (states : List Entries) (text : List ℕ) (x : Entries) → HasRead old mid count states
    → Consumes mid now (section_text text) → length text ≤ 268435456 → IsTextOf text x → HasRead old now (count + 1) (states ++ x ∷ [])
one_read old mid now count states text x before section short is = record {
  texts = before.texts ++ text ∷ [];
  consumed = subst (Consumes old now)
      (append_assoc first_line (flat_map section_text before.texts) (section_text text)
      ∙ ap (λ (l : List ℕ). first_line ++ l) (one_more before.texts))
      (Consumes-trans old mid now (first_line ++ flat_map section_text before.texts) (section_text text) before.consumed section);
  texts_are = push_text before.texts states text x before.texts_are is;
  counted = length_push before.texts text ∙ ap (λ (n : ℕ). n + 1) before.counted;
  short = All-push (λ (t : List ℕ). length t < 2 ^ 64) before.texts text before.short (omega (arith, short));
}
  where
    one_more : (ts : List (List ℕ)) → flat_map section_text ts ++ section_text text ≡ flat_map section_text (ts ++ text ∷ [])
    one_more [] = sym (append-nil (section_text text))
    one_more (t ∷ ts) = append_assoc (section_text t) (flat_map section_text ts) (section_text text) ∙ ap (λ (l : List ℕ). section_text t ++ l) (one_more ts)

pub all_read : (old mid now : Option (List ℕ)) (count : ℕ) (states : List Entries) → HasRead old mid count states → count < 2 ^ 64
    → Consumes mid now (last_line count) → IsAtEnd now → IfSome old (λ bytes. IsReadAs bytes states)
all_read None mid now count states before few last end = tt
all_read (Some bytes) None now count states before few last end = absurd before.consumed
all_read (Some bytes) (Some left) None count states before few last end = absurd last
all_read (Some bytes) (Some left) (Some rest) count states before few last end = record {
  texts = before.texts;
  sections = record { each = before.short; count = subst (λ (n : ℕ). n < 2 ^ 64) (sym before.counted) few };
  bytes_are =
      before.consumed
      ∙ (ap (λ (l : List ℕ). (first_line ++ flat_map section_text before.texts) ++ l)
      (last ∙ (ap (λ (l : List ℕ). last_line count ++ l) end ∙ (append-nil (last_line count) ∙ ap last_line (sym before.counted))))
      ∙ append_assoc first_line (flat_map section_text before.texts) (last_line (length before.texts)));
  texts_are = before.texts_are;
}

-- ---- what is read as no snapshot

-- a text that is written in a snapshot
record IsWritten (t : List ℕ) : Type 0 where
  pub state : Entries
  pub is : t ≡ state_text state
  pub readable : IsReadable state

each_is_written : (xs : List Entries) → AllByRecursion IsReadable xs → All IsWritten (map state_text xs)
each_is_written [] fit = All-nil IsWritten
each_is_written (x ∷ xs) fit = All-cons IsWritten (state_text x) (map state_text xs) (record { state = x; is = refl; readable = fit.0 }) (each_is_written xs fit.1)

written_behind : (ts us : List (List ℕ)) → All IsWritten (ts ++ us) → All IsWritten us
written_behind [] us all = all
written_behind (t ∷ ts) us all = written_behind ts us (All-tail IsWritten t (ts ++ us) all)

-- what is left of a snapshot behind texts that were read
record IsLeft (count : ℕ) (rest : List ℕ) : Type 0 where
  pub texts : List (List ℕ)
  pub written : All IsWritten texts
  pub few : count + length texts < 2 ^ 64
  pub rest_is : rest ≡ flat_map section_text texts ++ last_line (count + length texts)

is_left : (bytes rest : List ℕ) (x : Entries) (count : ℕ) (states : List Entries) → IsSnapshotOf bytes x → HasRead (Some bytes) (Some rest) count states → IsLeft count rest
is_left bytes rest x count states s read =
    let us : List (List ℕ) = map state_text s.states in
    let few : length us < 2 ^ 64 = subst (λ (n : ℕ). n < 2 ^ 64) (sym (length-map s.states state_text)) s.few in
    let left = front_texts read.texts us (length us) rest read.short (each_is_short s.states s.readable)
    (append_cancel_left first_line (flat_map section_text read.texts ++ rest) (flat_map section_text us ++ last_line (length us))
    (sym (append_assoc first_line (flat_map section_text read.texts) rest) ∙ (sym read.consumed ∙ s.bytes_are))) in
    let counted = read.counted in
    let sum : length us ≡ count + length left.0 = ap length left.1 ∙ (length-append read.texts left.0 ∙ ap (λ (n : ℕ). n + length left.0) counted) in
    record {
      texts = left.0;
      written = written_behind read.texts left.0 (subst (All IsWritten) left.1 (each_is_written s.states s.readable));
      few = subst (λ (n : ℕ). n < 2 ^ 64) sum few;
      rest_is = left.2 ∙ ap (λ (n : ℕ). flat_map section_text left.0 ++ last_line n) sum;
    }

pub no_first_line : (bytes : List ℕ) → LacksFirstLine bytes → IsNoSnapshot bytes
no_first_line bytes lacks x s = lacks (flat_map section_text (map state_text s.states) ++ last_line (length (map state_text s.states))) s.bytes_are

no_section_left : (count : ℕ) (rest : List ℕ) (ts : List (List ℕ)) → LacksSection count rest → All IsWritten ts → count + length ts < 2 ^ 64
    → rest ≡ flat_map section_text ts ++ last_line (count + length ts) → ⊥
no_section_left count rest [] lacks written few same =
    let none : count + 0 ≡ count = omega arith in
    lacks.no_end (omega (arith, few)) (same ∙ ap last_line none)
no_section_left count rest (t ∷ ts) lacks written few same =
    let own = All-head IsWritten t ts written in
    let short = own.readable.short in
    let size : length t ≡ length (state_text own.state) = ap length own.is in
    lacks.no_text t (flat_map section_text ts ++ last_line (count + length (t ∷ ts))) (omega (arith, short, size))
    (same ∙ append_assoc (section_text t) (flat_map section_text ts) (last_line (count + length (t ∷ ts))))

pub no_section : (old now : Option (List ℕ)) (count : ℕ) (states : List Entries) → HasRead old now count states → IfSome now (LacksSection count) → IfSome old IsNoSnapshot
no_section None now count states read lacks = tt
no_section (Some bytes) None count states read lacks = absurd read.consumed
no_section (Some bytes) (Some rest) count states read lacks = λ x s.
    let left = is_left bytes rest x count states s read in
    no_section_left count rest left.texts lacks left.written left.few left.rest_is

other_text_left : (count : ℕ) (text rest more : List ℕ) (ts : List (List ℕ)) → ((x : Entries) → ¬ IsTextOf text x) → length text ≤ 268435456 → All IsWritten ts
    → section_text text ++ more ≡ flat_map section_text ts ++ last_line (count + length ts) → ⊥
other_text_left count text rest more [] none short written same = no_last text more (count + 0) same
other_text_left count text rest more (t ∷ ts) none short written same =
    let own = All-head IsWritten t ts written in
    let fits = own.readable.short in
    let size : length t ≡ length (state_text own.state) = ap length own.is in
    let one : text ≡ t = same_text text t more (flat_map section_text ts ++ last_line (count + length (t ∷ ts))) (omega (arith, short)) (omega (arith, fits, size))
    (same ∙ append_assoc (section_text t) (flat_map section_text ts) (last_line (count + length (t ∷ ts)))) in
    none own.state (record { state = own.readable.state; text = inl (one ∙ own.is) })

pub no_text : (old mid now : Option (List ℕ)) (count : ℕ) (states : List Entries) (text : List ℕ) → HasRead old mid count states → Consumes mid now (section_text text)
    → length text ≤ 268435456 → ((x : Entries) → ¬ IsTextOf text x) → IfSome old IsNoSnapshot
no_text None mid now count states text read section short none = tt
no_text (Some bytes) None now count states text read section short none = absurd read.consumed
no_text (Some bytes) (Some rest) None count states text read section short none = absurd section
no_text (Some bytes) (Some rest) (Some more) count states text read section short none = λ x s.
    let left = is_left bytes rest x count states s read in
    other_text_left count text rest more left.texts none short left.written (sym section ∙ left.rest_is)

-- what a fault becomes
pub became : {A : Type 0} (result : Result A ReadFault) (fault : ReadFault) → IsErrAnd result (λ e. e ≡ fault) → IsErrOf result NotSnapshot → fault ≡ NotSnapshot
became (Ok a) fault gives is = absurd gives
became (Err e) fault gives is = sym gives ∙ cc

-- why a section's text is refused
pub refused_text : (old mid now : Option (List ℕ)) (count : ℕ) (states : List Entries) (text : List ℕ) (fault : StateFault) → HasRead old mid count states
    → Consumes mid now (section_text text) → length text ≤ 268435456 → IsCause fault text → of_text fault ≡ NotSnapshot → IfSome old IsNoSnapshot
refused_text old mid now count states text TooLong read section short cause is = absurd (omega (arith, short, cause))
refused_text old mid now count states text NotState read section short cause is = no_text old mid now count states text read section short cause.1
refused_text old mid now count states text NoMemory read section short cause is = absurd (cc)

pub too_many : (old now : Option (List ℕ)) (count : ℕ) (states : List Entries) → HasRead old now count states → 2 ^ 64 ≤ count → IfSome old IsNoSnapshot
too_many None now count states read many = tt
too_many (Some bytes) None count states read many = absurd read.consumed
too_many (Some bytes) (Some rest) count states read many = λ x s.
    let left = is_left bytes rest x count states s read in
    let few = left.few in
    absurd (omega (arith, few, many))
