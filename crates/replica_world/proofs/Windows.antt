-- What is held of a script and what its reader still has are what is left of it.
use Rattle.std.proofs.Common.{◌≡◌, ◌≢◌, ℕ, ◌+◌, ◌-◌, ◌<◌, ◌≤◌, ◌⊎◌, inl, inr, true, false, ◌==◌, List, [], ◌∷◌, ◌++◌, length, take, drop}
use Rattle.std.proofs.Common.{Option, Some, None, Result, Ok, Err, refl, sym, ap, subst, ◌∙◌, append_assoc, length-append, arith}
use Rattle.std.specs.Prelude.{IfSome, cond}
use Rattle.std.proofs.lemmas.Grind.{common_steps}
use Rattle.std.proofs.lemmas.List.Sums.{sum_by-append}
use Rattle.std.proofs.lemmas.List.Elements.{All-head, All-tail}
use Rattle.text_fields.specs.Parts.{Lacks}
use Rattle.std.specs.Io.KnownBytes.{Consumes, IsAtEnd}
use Rattle.std.proofs.lemmas.List.{drop-drop, take-append-drop}
use Rattle.std.proofs.Math.Seq.{take-append_seam}
use Rattle.replica_world.specs.declared.replaying.fault.ReplayFault.{ReplayFault}
use Rattle.replica_world.specs.declared.replaying.fault.ReplayFault.TheVariants.{BadLine, Read, Write, NoMemory}
use Rattle.replica_world.specs.Watching.{count_after, Counted}
use Rattle.replica_world.specs.Fields.{after_empty_lines}
use Rattle.replica_world.specs.Script.{number_of_line}
use Rattle.replica_world.specs.Reading.{Held, Told, Drops, IsLeft, IsLeftOf, IsReadTo, BlamesReader, SameText, Fills, ReadsOn, ends_of_lines, nothing_held, room}
use Rattle.replica_world.proofs.Written.{one_more_counted, none_counted}
use Rattle.replica_world.proofs.Ends.{EndsWith, one_end, empty_lines_twice}

-- ---- ends of lines

pub ends_append : (a b : List ℕ) → ends_of_lines (a ++ b) ≡ ends_of_lines a + ends_of_lines b
ends_append a b = sum_by-append (λ (x : ℕ). cond (x == 10) 1 0) a b

-- a text without LF
pub ends_lacking : (text : List ℕ) → Lacks 10 text → ends_of_lines text ≡ 0
ends_lacking [] lacks = refl
ends_lacking (b ∷ text) lacks =
    let other : b ≢ 10 = All-head (λ d. d ≢ 10) b text lacks in
    let is : (b == 10) ≡ false = grind (arith, common_steps) in
    let rest : ends_of_lines text ≡ 0 = ends_lacking text (All-tail (λ d. d ≢ 10) b text lacks) in
    ends_append (b ∷ []) text ∙ (λ i. (0 + cond (is i) 1 0) + rest i)

-- a line that ends
pub ends_next : (text line after : List ℕ) → text ≡ line ++ 10 ∷ after → Lacks 10 line → ends_of_lines text ≡ 1 + ends_of_lines after
ends_next text line after whole lacks =
    let split : ends_of_lines text ≡ ends_of_lines line + ends_of_lines (10 ∷ after) = ap ends_of_lines whole ∙ ends_append line (10 ∷ after) in
    let none : ends_of_lines line ≡ 0 = ends_lacking line lacks in
    let one : ends_of_lines (10 ∷ after) ≡ 1 + ends_of_lines after = ends_append (10 ∷ []) after in
    omega (arith, split, none, one)

-- ---- bytes that are used

left_dropped : (script : List ℕ) (old new : Held) (rest : List ℕ) → IsLeft script old rest → Drops old new → IsLeft script new rest
left_dropped script old new rest left drops = record {
  used = left.used ++ drops.front;
  whole = left.whole ∙ ap (λ (t : List ℕ). left.used ++ (t ++ rest)) drops.whole
      ∙ ap (λ (t : List ℕ). left.used ++ t) (append_assoc drops.front new.bytes rest) ∙ sym (append_assoc left.used drops.front (new.bytes ++ rest));
  lines = drops.lines ∙ ap (λ (n : ℕ). n + ends_of_lines drops.front) left.lines ∙ sym (ends_append left.used drops.front);
  pieces = omega (arith, left.pieces, drops.pieces, length-append left.used drops.front, ap length drops.whole, length-append drops.front new.bytes);
  ended = λ is. left.ended (sym drops.ended ∙ is);
}

leftof_dropped : (script : Option (List ℕ)) (old new : Held) (rest : Option (List ℕ)) → IsLeftOf script old rest → Drops old new → IsLeftOf script new rest
leftof_dropped None old new rest left drops = tt
leftof_dropped (Some script) old new None left drops = absurd left
leftof_dropped (Some script) old new (Some rest) left drops = left_dropped script old new rest left drops

-- what was read stays read
pub reads_dropped : (begun : Told) (old new : Held) (now : Told) → IsReadTo begun old now → Drops old new → IsReadTo begun new now
reads_dropped begun old new now reads drops = record {
  left = leftof_dropped begun.bytes old new now.bytes reads.left drops;
  pieces = subst (λ (n : ℕ). Counted n begun.pieces now.pieces) (sym drops.pieces) reads.pieces;
  failures = reads.failures;
}

-- all but so many bytes were used, which are as many as the text ends with
pub dropped_to : (old new : Held) (rest : List ℕ) → Drops old new → EndsWith old.bytes rest → length new.bytes ≡ length rest → new.bytes ≡ rest
dropped_to old new rest drops ends same = one_end drops.front ends.front new.bytes rest (sym drops.whole ∙ ends.whole) same

pub drops_room : (old new : Held) → Drops old new → room new ≤ room old
drops_room old new drops =
    let long : length old.bytes ≡ length drops.front + length new.bytes = ap length drops.whole ∙ length-append drops.front new.bytes in
    let same : 1000000000 - new.pieces ≡ 1000000000 - old.pieces = ap (λ (n : ℕ). 1000000000 - n) drops.pieces in
    omega (arith, long, same)

-- what stands before the new front was used
pub front_used : (start next : ℕ) (items : List ℕ) (old new : Held) → start ≤ next → old.bytes ≡ drop start items → new.bytes ≡ drop next items
    → new.lines ≡ old.lines + ends_of_lines (take (next - start) (drop start items)) → new.pieces ≡ old.pieces → new.ended ≡ old.ended → Drops old new
front_used start next items old new low bytes rest lines pieces ended =
    let step : start + (next - start) ≡ next = omega (arith, low) in
    let back : drop (next - start) (drop start items) ≡ new.bytes = drop-drop (next - start) start items ∙ ap (λ (n : ℕ). drop n items) step ∙ sym rest in
    record {
      front = take (next - start) (drop start items);
      whole = bytes ∙ sym (take-append-drop (next - start) (drop start items)) ∙ ap (λ (t : List ℕ). take (next - start) (drop start items) ++ t) back;
      lines = lines;
      pieces = pieces;
      ended = ended;
    }

-- ---- a piece more

-- a piece came
pub filled : (old mid new : Held) (before after : Told) (piece : List ℕ) → mid ≡ old → new ≡ record mid { bytes = mid.bytes ++ piece; pieces = mid.pieces + 1 } → old.ended ≡ false
    → length piece ≤ 65536 → 0 < length piece → Consumes before.bytes after.bytes piece → after.failures ≡ before.failures → old.pieces < 1000000000 → after.pieces ≡ count_after 1 before.pieces
    → Fills old before new after
filled old mid new before after piece mid_is new_is more short some consumed failures most counted =
    let is : new ≡ record old { bytes = old.bytes ++ piece; pieces = old.pieces + 1 } = new_is ∙ ap (λ (h : Held). record h { bytes = h.bytes ++ piece; pieces = h.pieces + 1 }) mid_is in
    record {
      piece = piece;
      short = short;
      bytes = ap (λ (h : Held). h.bytes) is;
      lines = ap (λ (h : Held). h.lines) is;
      consumed = consumed;
      failures = failures;
      counted = inr (ap (λ (h : Held). h.ended) is ∙ more, some, ap (λ (h : Held). h.pieces) is, most, counted);
    }

left_filled : (script : List ℕ) (old new : Held) (rest left : List ℕ) (piece : List ℕ) → IsLeft script old rest → new.bytes ≡ old.bytes ++ piece → new.lines ≡ old.lines
    → rest ≡ piece ++ left → new.pieces ≤ old.pieces + length piece → (new.ended ≡ true → left ≡ []) → IsLeft script new left
left_filled script old new rest left piece before bytes lines consumed pieces ended = record {
  used = before.used;
  whole = before.whole ∙ ap (λ (t : List ℕ). before.used ++ t)
      (ap (λ (t : List ℕ). old.bytes ++ t) consumed ∙ sym (append_assoc old.bytes piece left) ∙ ap (λ (t : List ℕ). t ++ left) (sym bytes));
  lines = lines ∙ before.lines;
  pieces = omega (arith, before.pieces, pieces, ap length bytes, length-append old.bytes piece);
  ended = ended;
}

leftof_filled : (script : Option (List ℕ)) (old new : Held) (rest left : Option (List ℕ)) (piece : List ℕ) → IsLeftOf script old rest → new.bytes ≡ old.bytes ++ piece → new.lines ≡ old.lines
    → Consumes rest left piece → new.pieces ≤ old.pieces + length piece → (new.ended ≡ true → IsAtEnd left) → IsLeftOf script new left
leftof_filled None old new rest left piece before bytes lines consumed pieces ended = tt
leftof_filled (Some script) old new None left piece before bytes lines consumed pieces ended = absurd before
leftof_filled (Some script) old new (Some rest) None piece before bytes lines consumed pieces ended = absurd consumed
leftof_filled (Some script) old new (Some rest) (Some left) piece before bytes lines consumed pieces ended =
    left_filled script old new rest left piece before bytes lines consumed pieces ended

text_filled : (old new piece : List ℕ) (rest left : Option (List ℕ)) → new ≡ old ++ piece → Consumes rest left piece → SameText old rest new left
text_filled old new piece None left bytes consumed = tt
text_filled old new piece (Some rest) None bytes consumed = absurd consumed
text_filled old new piece (Some rest) (Some left) bytes consumed =
    ap after_empty_lines (ap (λ (t : List ℕ). t ++ left) bytes ∙ append_assoc old piece left ∙ ap (λ (t : List ℕ). old ++ t) (sym consumed))

reads_filled : (begun : Told) (old : Held) (before : Told) (new : Held) (after : Told) → Fills old before new after → IsReadTo begun old before → IsReadTo begun new after
reads_filled begun old before new after fills reads = on fills.counted where
  on : ((new.ended ≡ true) × (fills.piece ≡ []) × IsAtEnd after.bytes × (new.pieces ≡ old.pieces) × (after.pieces ≡ before.pieces))
      ⊎ ((new.ended ≡ false) × (0 < length fills.piece) × (new.pieces ≡ old.pieces + 1) × (old.pieces < 1000000000) × (after.pieces ≡ count_after 1 before.pieces))
      → IsReadTo begun new after
  on (inl (ended, none, end, pieces, counted)) = record {
    left = leftof_filled begun.bytes old new before.bytes after.bytes fills.piece reads.left fills.bytes fills.lines fills.consumed (omega (arith, pieces)) (λ is. end);
    pieces = subst (λ (n : ℕ). Counted n begun.pieces after.pieces) (sym pieces) (subst (Counted old.pieces begun.pieces) (sym counted) reads.pieces);
    failures = fills.failures ∙ reads.failures;
  }
  on (inr (ended, some, pieces, most, counted)) = record {
    left = leftof_filled begun.bytes old new before.bytes after.bytes fills.piece reads.left fills.bytes fills.lines fills.consumed (omega (arith, pieces, some))
        (λ is. absurd (let both : true ≡ false = sym is ∙ ended in cc));
    pieces = subst (λ (n : ℕ). Counted n begun.pieces after.pieces) (sym pieces) (one_more_counted old.pieces begun.pieces before.pieces after.pieces reads.pieces counted);
    failures = fills.failures ∙ reads.failures;
  }

room_filled : (old : Held) (before : Told) (new : Held) (after : Told) → Fills old before new after → room new ≤ room old
room_filled old before new after fills = on fills.counted where
  on : ((new.ended ≡ true) × (fills.piece ≡ []) × IsAtEnd after.bytes × (new.pieces ≡ old.pieces) × (after.pieces ≡ before.pieces))
      ⊎ ((new.ended ≡ false) × (0 < length fills.piece) × (new.pieces ≡ old.pieces + 1) × (old.pieces < 1000000000) × (after.pieces ≡ count_after 1 before.pieces))
      → room new ≤ room old
  on (inl (ended, none, end, pieces, counted)) =
      omega (arith, pieces, ap length fills.bytes, length-append old.bytes fills.piece, ap length none)
  on (inr (ended, some, pieces, most, counted)) = omega (arith, pieces, most, fills.short, ap length fills.bytes, length-append old.bytes fills.piece)

-- ---- one step after the other

text_on : (a b c : List ℕ) (x y z : Option (List ℕ)) → SameText a x b y → SameText b y c z → SameText a x c z
text_on a b c None y z first next = tt
text_on a b c (Some x) None z first next = absurd first
text_on a b c (Some x) (Some y) None first next = absurd next
text_on a b c (Some x) (Some y) (Some z) first next = next ∙ first

text_skipped : (old new : List ℕ) (rest : Option (List ℕ)) → new ≡ after_empty_lines old → SameText old rest new rest
text_skipped old new None is = tt
text_skipped old new (Some rest) is = ap (λ (t : List ℕ). after_empty_lines (t ++ rest)) is ∙ empty_lines_twice old rest

-- empty lines are passed over
pub skips_on : (old new : Held) (now : Told) → Drops old new → new.bytes ≡ after_empty_lines old.bytes → ReadsOn old now new now
skips_on old new now drops is = record {
  reads = λ begun reads. reads_dropped begun old new now reads drops;
  text = text_skipped old.bytes new.bytes now.bytes is;
  room = drops_room old new drops;
}

text_same : (held : List ℕ) (rest : Option (List ℕ)) → SameText held rest held rest
text_same held None = tt
text_same held (Some rest) = refl

-- nothing happens
pub same_on : (held : Held) (now : Told) → ReadsOn held now held now
same_on held now = record { reads = λ begun reads. reads; text = text_same held.bytes now.bytes; room = omega arith }

pub fills_on : (old : Held) (before : Told) (new : Held) (after : Told) → Fills old before new after → ReadsOn old before new after
fills_on old before new after fills = record {
  reads = λ begun reads. reads_filled begun old before new after fills reads;
  text = text_filled old.bytes new.bytes fills.piece before.bytes after.bytes fills.bytes fills.consumed;
  room = room_filled old before new after fills;
}

pub reads_on_on : (old : Held) (before : Told) (mid : Held) (between : Told) (new : Held) (after : Told) → ReadsOn old before mid between → ReadsOn mid between new after → ReadsOn old before new after
reads_on_on old before mid between new after first next = record {
  reads = λ begun reads. next.reads begun (first.reads begun reads);
  text = text_on old.bytes mid.bytes new.bytes before.bytes between.bytes after.bytes first.text next.text;
  room = omega (arith, first.room, next.room);
}

-- the text that is left is that of the script
pub text_told : (held : Held) (bytes : Option (List ℕ)) (new : List ℕ) (rest : Option (List ℕ)) (script : List ℕ) → held ≡ nothing_held → bytes ≡ Some script → SameText held.bytes bytes new rest
    → SameText [] (Some script) new rest
text_told held bytes new rest script is told same =
    subst (λ (o : Option (List ℕ)). SameText [] o new rest) told (subst (λ (h : Held). SameText h.bytes bytes new rest) is same)

-- before the first read
pub nothing_read : (held : Held) (now : Told) → held ≡ nothing_held → IsReadTo now held now
nothing_read held now is = subst (λ (h : Held). IsReadTo now h now) (sym is) (record { left = all_left now.bytes; pieces = none_counted now.pieces; failures = refl }) where
  all_left : (script : Option (List ℕ)) → IsLeftOf script nothing_held script
  all_left None = tt
  all_left (Some script) = record { used = []; whole = refl; lines = refl; pieces = omega arith; ended = λ is. absurd (let both : false ≡ true = is in cc) }

-- less is left to come
pub room_used : (old new : Held) → Drops old new → length new.bytes < length old.bytes → room new < room old
room_used old new drops shorter =
    let same : 1000000000 - new.pieces ≡ 1000000000 - old.pieces = ap (λ (n : ℕ). 1000000000 - n) drops.pieces in
    omega (arith, shorter, same)

-- ---- whose fault a failure is

-- what a part of a replay answers is what the whole answers
pub reader_blamed_on : (begun now : Told) (result : Result (Unit {0}) ReplayFault) (fault : ReplayFault) → result ≡ Err fault
    → (let part : Result (Unit {0}) ReplayFault = Err fault in BlamesReader part begun now) → BlamesReader result begun now
reader_blamed_on begun now result fault is blames = subst (λ (r : Result (Unit {0}) ReplayFault). BlamesReader r begun now) (sym is) blames

-- what follows for a whole replay
pub read_failed : (begun now : Told) (result : Result (Unit {0}) ReplayFault) → BlamesReader result begun now → result ≡ Err Read
    → (now.failures ≡ count_after 1 begun.failures) ⊎ (now.pieces ≡ count_after 1000000000 begun.pieces)
read_failed begun now result blames is = on (subst (λ (r : Result (Unit {0}) ReplayFault). BlamesReader r begun now) is blames) where
  on : (now.failures ≡ count_after 1 begun.failures) ⊎ ((now.pieces ≡ count_after 1000000000 begun.pieces) × IfSome begun.bytes (λ script. 1000000000 ≤ length script))
      → (now.failures ≡ count_after 1 begun.failures) ⊎ (now.pieces ≡ count_after 1000000000 begun.pieces)
  on (inl failed) = inl failed
  on (inr many) = inr many.0

pub read_of_few_failed : (begun now : Told) (result : Result (Unit {0}) ReplayFault) → BlamesReader result begun now → result ≡ Err Read
    → IfSome begun.bytes (λ script. length script < 1000000000 → now.failures ≡ count_after 1 begun.failures)
read_of_few_failed begun now result blames is = on (subst (λ (r : Result (Unit {0}) ReplayFault). BlamesReader r begun now) is blames) where
  few : (o : Option (List ℕ)) → IfSome o (λ script. 1000000000 ≤ length script) → IfSome o (λ script. length script < 1000000000 → now.failures ≡ count_after 1 begun.failures)
  few None many = tt
  few (Some script) many = λ short. absurd (omega (arith, short, many))

  any : (o : Option (List ℕ)) → now.failures ≡ count_after 1 begun.failures → IfSome o (λ script. length script < 1000000000 → now.failures ≡ count_after 1 begun.failures)
  any None failed = tt
  any (Some script) failed = λ short. failed

  on : (now.failures ≡ count_after 1 begun.failures) ⊎ ((now.pieces ≡ count_after 1000000000 begun.pieces) × IfSome begun.bytes (λ script. 1000000000 ≤ length script))
      → IfSome begun.bytes (λ script. length script < 1000000000 → now.failures ≡ count_after 1 begun.failures)
  on (inl failed) = any begun.bytes failed
  on (inr many) = few begun.bytes many.1

pub no_read_failed : (begun now : Told) (result : Result (Unit {0}) ReplayFault) → BlamesReader result begun now → result ≢ Err Read → now.failures ≡ begun.failures
no_read_failed begun now (Ok u) blames other = blames
no_read_failed begun now (Err Read) blames other = absurd (other refl)
no_read_failed begun now (Err Write) blames other = blames
no_read_failed begun now (Err NoMemory) blames other = blames
no_read_failed begun now (Err (BadLine number)) blames other = blames

-- ---- where what is left begins

pub line_of_left : (script : List ℕ) (held : Held) (rest : List ℕ) (n : ℕ) → IsLeft script held rest → n ≡ 1 + held.lines → n ≡ number_of_line script (held.bytes ++ rest)
line_of_left script held rest n left is =
    let text = held.bytes ++ rest in
    let long : length script - length text ≡ length left.used = omega (arith, ap length left.whole, length-append left.used text) in
    let front : take (length script - length text) script ≡ left.used =
    ap (λ (k : ℕ). take k script) long ∙ ap (take (length left.used)) left.whole ∙ take-append_seam left.used text in
    is ∙ ap (λ (k : ℕ). 1 + k) left.lines ∙ ap (λ (t : List ℕ). 1 + ends_of_lines t) (sym front)
