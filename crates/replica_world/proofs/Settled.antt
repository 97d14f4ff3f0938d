-- What is read at the front of a text doesn't change as more text comes.
use Rattle.std.proofs.Common.{◌≡◌, ℕ, zero, suc, ◌+◌, ◌-◌, ◌<◌, ◌≤◌, inl, inr, Bool, true, false, ◌==◌, ◌||◌, nat_lt, if◌then◌else◌, List, [], ◌∷◌, ◌++◌}
use Rattle.std.proofs.Common.{length, take, drop, Option, Some, None, refl, sym, ap, subst, ◌∙◌, append_assoc, append-nil, arith}
use Rattle.std.specs.Option.{option_map}
use Rattle.std.proofs.lemmas.Grind.{common_steps}
use Rattle.std.proofs.lemmas.List.{length-append, take-append-le, drop-append-le, length-drop}
use Rattle.text_fields.specs.Parts.{Lacks, parts_at}
use Rattle.text_fields.proofs.PartLemmas.{no_split, parts_are, parts_none_lacks}
use Rattle.replica_world.specs.Fields.{first_line, after_line_end, block_of, line_of, lines_of, longest_line}
use Rattle.replica_world.specs.Form as form
use Rattle.replica_world.specs.Form.{Form, form_of}
use Rattle.replica_events.specs.declared.event.Event.TheVariants.{Receive, Ask}
use Rattle.replica_world.specs.Script.{Command, Take, Step, Start, taking_of, command_of, command_at, start_of, start_at}
use Rattle.replica_world.specs.Layout.{IsLine}
use Rattle.replica_world.specs.Reading.{IsSettledBy, before_more}
use Rattle.replica_world.proofs.LaidOut.{line_is, is_no_block}
use Rattle.link_format.specs.Scan.{◌>>=◌}

-- ---- a line

-- a text whose first line is this
line_when : (text : List ℕ) (p : List ℕ × List ℕ) → first_line text ≡ p → 0 < length text → line_of text ≡ (if nat_lt longest_line (length p.0) then None else Some p)
unfolding line_of
line_when text p is some =
    let not_empty : (length text == 0) ≡ false = grind (arith, common_steps) in
    ap (λ (q : List ℕ × List ℕ). if (length text == 0) || nat_lt longest_line (length q.0) then None else Some q) is
    ∙ ap (λ (b : Bool). if b || nat_lt longest_line (length p.0) then None else Some p) not_empty

more_unless : (b : Bool) (p : List ℕ × List ℕ) (more : List ℕ) → (let whole : List ℕ × List ℕ = (p.0, p.1 ++ more) in if b then None else Some whole) ≡ before_more more (if b then None else Some p)
more_unless true p more = refl
more_unless false p more = refl

-- where LF ends it
pub line_ended : (text : List ℕ) (p : List ℕ × List ℕ) → parts_at 10 text ≡ Some p → IsSettledBy line_of text
line_ended text p is more =
    let laid = (parts_are 10 text p).0 is in
    let long : length text ≡ length p.0 + suc (length p.1) = ap length laid.1 ∙ length-append p.0 (10 ∷ p.1) in
    let some : 0 < length text = omega (arith, long) in
    let whole : parts_at 10 (text ++ more) ≡ Some (p.0, p.1 ++ more) =
    (parts_are 10 (text ++ more) (p.0, p.1 ++ more)).1 (laid.0, ap (λ (t : List ℕ). t ++ more) laid.1 ∙ append_assoc p.0 (10 ∷ p.1) more) in
    let first : first_line text ≡ p = cc in
    let later : first_line (text ++ more) ≡ (p.0, p.1 ++ more) = cc in
    line_when (text ++ more) (p.0, p.1 ++ more) later (omega (arith, some, length-append text more))
    ∙ more_unless (nat_lt longest_line (length p.0)) p more
    ∙ ap (before_more more) (sym (line_when text p first some))

-- a front of a text that holds a byte is shorter than one that lacks it
split_front : (a b c d : List ℕ) (x : ℕ) → a ++ b ≡ c ++ x ∷ d → length c < length a → (e : List ℕ) × (a ≡ c ++ x ∷ e)
split_front [] b c d x same short = absurd (omega (arith, short))
split_front (y ∷ a) b [] d x same short = (a, (let heads : y ≡ x = cc in λ i. heads i ∷ a))
split_front (y ∷ a) b (z ∷ c) d x same short =
    let heads : y ≡ z = cc in
    let tails : a ++ b ≡ c ++ x ∷ d = cc in
    let less : length c < length a = omega (arith, short) in
    let rest = split_front a b c d x tails less in
    (rest.0, λ i. heads i ∷ rest.1 i)

-- a text without LF that is too long begins no line
no_line : (text more : List ℕ) → Lacks 10 text → 65536 < length text → (p : List ℕ × List ℕ) → line_of (text ++ more) ≡ Some p → ⊥
no_line text more lacks long p is = on ((line_is (text ++ more) p).0 is) where
  on : IsLine (text ++ more) p → ⊥
  on (some, short, first, inl whole) =
      let split = split_front text more p.0 p.1 10 whole (omega (arith, short, long)) in
      no_split 10 p.0 split.0 (subst (Lacks 10) split.1 lacks)
  on (some, short, first, inr whole) = absurd (omega (arith, short, long, length-append text more, ap length whole.0))

is_none_if : {A : Type 0} (o : Option A) → ((x : A) → o ≡ Some x → ⊥) → o ≡ None
is_none_if None never = refl
is_none_if (Some x) never = absurd (never x refl)

line_too_long : (text : List ℕ) → parts_at 10 text ≡ None → 65536 < length text → IsSettledBy line_of text
line_too_long text none long more =
    let lacks = parts_none_lacks 10 text none in
    let here : line_of text ≡ None = is_none_if (line_of text) (λ p is. no_line text [] lacks long p (ap line_of (append-nil text) ∙ is)) in
    is_none_if (line_of (text ++ more)) (no_line text more lacks long) ∙ ap (before_more more) (sym here)

-- where it is long
pub long_settled : (text : List ℕ) → 65536 < length text → IsSettledBy line_of text
long_settled text long = on (parts_at 10 text) refl where
  on : (found : Option (List ℕ × List ℕ)) → parts_at 10 text ≡ found → IsSettledBy line_of text
  on None is = line_too_long text is long
  on (Some p) is = line_ended text p is

-- ---- lines and blocks

no_lines_settled : (text : List ℕ) → IsSettledBy (lines_of zero) text
unfolding lines_of
no_lines_settled text more = refl

-- one line more in front
line_and_lines : (line after more : List ℕ) (found : Option (List (List ℕ) × List ℕ))
    → (before_more more found >>= λ more. Some (line ∷ more.0, more.1)) ≡ before_more more (found >>= λ more. Some (line ∷ more.0, more.1))
line_and_lines line after more None = refl
line_and_lines line after more (Some found) = refl

pub lines_settled_on : (count : ℕ) (text line after : List ℕ) → IsSettledBy line_of text → line_of text ≡ Some (line, after) → IsSettledBy (lines_of count) after
    → IsSettledBy (lines_of (suc count)) text
unfolding lines_of
lines_settled_on count text line after first is rest more =
    let whole : line_of (text ++ more) ≡ Some (line, after ++ more) = first more ∙ ap (before_more more) is in
    ap (λ (o : Option (List ℕ × List ℕ)). o >>= λ line. lines_of count line.1 >>= λ more. Some (line.0 ∷ more.0, more.1)) whole
    ∙ ap (λ (o : Option (List (List ℕ) × List ℕ)). o >>= λ more. Some (line ∷ more.0, more.1)) (rest more)
    ∙ line_and_lines line after more (lines_of count after)
    ∙ ap (λ (o : Option (List ℕ × List ℕ)). before_more more (o >>= λ line. lines_of count line.1 >>= λ more. Some (line.0 ∷ more.0, more.1))) (sym is)

pub lines_settled_none : (count : ℕ) (text : List ℕ) → IsSettledBy line_of text → line_of text ≡ None → IsSettledBy (lines_of (suc count)) text
unfolding lines_of
lines_settled_none count text first is more =
    let whole : line_of (text ++ more) ≡ None = first more ∙ ap (before_more more) is in
    ap (λ (o : Option (List ℕ × List ℕ)). o >>= λ line. lines_of count line.1 >>= λ more. Some (line.0 ∷ more.0, more.1)) whole
    ∙ ap (λ (o : Option (List ℕ × List ℕ)). before_more more (o >>= λ line. lines_of count line.1 >>= λ more. Some (line.0 ∷ more.0, more.1))) (sym is)

-- as they are counted
pub lines_counted : (count done : ℕ) (text : List ℕ) → done < count → IsSettledBy (lines_of (suc (count - (done + 1)))) text → IsSettledBy (lines_of (count - done)) text
lines_counted count done text less settled =
    let same : suc (count - (done + 1)) ≡ count - done = omega (arith, less) in
    subst (λ (n : ℕ). IsSettledBy (lines_of n) text) same settled

pub lines_done : (count done : ℕ) (text : List ℕ) → count ≤ done → IsSettledBy (lines_of (count - done)) text
lines_done count done text all =
    let same : zero ≡ count - done = omega (arith, all) in
    subst (λ (n : ℕ). IsSettledBy (lines_of n) text) same (no_lines_settled text)

-- a block that would be too long
pub long_block_settled : (len : ℕ) (text : List ℕ) → 300000000 < len → IsSettledBy (block_of len) text
unfolding block_of
long_block_settled len text long more =
    let here : is_no_block len text ≡ true = grind (arith, common_steps, long) in
    let later : is_no_block len (text ++ more) ≡ true = grind (arith, common_steps, long) in
    ap (λ (b : Bool). if b then None else option_map (λ rest. (take len (text ++ more), rest)) (after_line_end (drop len (text ++ more)))) later
    ∙ ap (λ (b : Bool). before_more more (if b then None else option_map (λ rest. (take len text, rest)) (after_line_end (drop len text)))) (sym here)

-- a byte behind a block
ended_settled : (part tail more : List ℕ) → 0 < length tail
    → option_map {U = List ℕ × List ℕ} (λ rest. (part, rest)) (after_line_end (tail ++ more)) ≡ before_more more (option_map (λ rest. (part, rest)) (after_line_end tail))
ended_settled part [] more some = absurd (omega (arith, some))
ended_settled part (b ∷ tail) more some = on (b == 10) where
  on : (ends : Bool)
      → option_map {U = List ℕ × List ℕ} (λ rest. (part, rest)) (if ends then Some (tail ++ more) else None) ≡ before_more more (option_map (λ rest. (part, rest)) (if ends then Some tail else None))
  on true = refl
  on false = refl

pub block_settled : (len : ℕ) (text : List ℕ) → len < length text → IsSettledBy (block_of len) text
unfolding block_of
block_settled len text within more =
    let both : length (text ++ more) ≡ length text + length more = length-append text more in
    let same : is_no_block len (text ++ more) ≡ is_no_block len text = grind (arith, common_steps, within, both) in
    let front : take len (text ++ more) ≡ take len text = take-append-le len text more (omega (arith, within)) in
    let back : drop len (text ++ more) ≡ drop len text ++ more = drop-append-le len text more (omega (arith, within)) in
    let some : 0 < length (drop len text) = omega (arith, within, length-drop len text) in
    (λ i. if same i then None else option_map (λ rest. (front i, rest)) (after_line_end (back i)))
    ∙ on (is_no_block len text) (ended_settled (take len text) (drop len text) more some) where
      on : (none : Bool)
          → option_map {U = List ℕ × List ℕ} (λ rest. (take len text, rest)) (after_line_end (drop len text ++ more))
          ≡ before_more more (option_map (λ rest. (take len text, rest)) (after_line_end (drop len text)))
          → (let whole = option_map {U = List ℕ × List ℕ} (λ rest. (take len text, rest)) (after_line_end (drop len text ++ more)) in if none then None else whole)
          ≡ before_more more (if none then None else option_map (λ rest. (take len text, rest)) (after_line_end (drop len text)))
      on true same = refl
      on false same = same

-- ---- commands

-- what a block or lines make
with_block : (found whole : Option (List ℕ × List ℕ)) (make : List ℕ → Command) (more : List ℕ) → whole ≡ before_more more found
    → (whole >>= λ body. Some (make body.0, body.1)) ≡ before_more more (found >>= λ body. Some (make body.0, body.1))
with_block found whole make more is = ap (λ (o : Option (List ℕ × List ℕ)). o >>= λ body. Some (make body.0, body.1)) is ∙ on found where
  on : (found : Option (List ℕ × List ℕ)) → (before_more more found >>= λ body. Some (make body.0, body.1)) ≡ before_more more (found >>= λ body. Some (make body.0, body.1))
  on None = refl
  on (Some body) = refl

with_lines : (found whole : Option (List (List ℕ) × List ℕ)) (make : List (List ℕ) → Command) (more : List ℕ) → whole ≡ before_more more found
    → (whole >>= λ asked. Some (make asked.0, asked.1)) ≡ before_more more (found >>= λ asked. Some (make asked.0, asked.1))
with_lines found whole make more is = ap (λ (o : Option (List (List ℕ) × List ℕ)). o >>= λ asked. Some (make asked.0, asked.1)) is ∙ on found where
  on : (found : Option (List (List ℕ) × List ℕ)) → (before_more more found >>= λ asked. Some (make asked.0, asked.1)) ≡ before_more more (found >>= λ asked. Some (make asked.0, asked.1))
  on None = refl
  on (Some asked) = refl

-- what must be settled behind a command's line
abbrev pub IsRestSettled : Form → List ℕ → Type 0
IsRestSettled (form.Take f) rest = IsSettledBy (block_of f.len) rest
IsRestSettled (form.Map replica original) rest = Unit {0}
IsRestSettled (form.Gate replica original) rest = Unit {0}
IsRestSettled (form.GateAt replica original asked) rest = Unit {0}
IsRestSettled (form.Ask f) rest = IsSettledBy (lines_of f.count) rest
IsRestSettled (form.Send replica) rest = Unit {0}
IsRestSettled (form.SendFrom replica merges) rest = Unit {0}
IsRestSettled (form.Deliver replica message) rest = Unit {0}
IsRestSettled (form.Receive replica len) rest = IsSettledBy (block_of len) rest
IsRestSettled (form.Restart replica) rest = Unit {0}

pub form_settled : (said : Form) (rest : List ℕ) → IsRestSettled said rest → IsSettledBy (command_of said) rest
unfolding command_of
form_settled (form.Take f) rest settled more = with_block (block_of f.len rest) (block_of f.len (rest ++ more)) (λ body. Take (taking_of f body)) more (settled more)
form_settled (form.Map replica original) rest settled more = refl
form_settled (form.Gate replica original) rest settled more = refl
form_settled (form.GateAt replica original asked) rest settled more = refl
form_settled (form.Ask f) rest settled more =
    with_lines (lines_of f.count rest) (lines_of f.count (rest ++ more)) (λ asked. Step (Ask f.replica (record { method = f.method; target = f.target; asked = asked }))) more (settled more)
form_settled (form.Send replica) rest settled more = refl
form_settled (form.SendFrom replica merges) rest settled more = refl
form_settled (form.Deliver replica message) rest settled more = refl
form_settled (form.Receive replica len) rest settled more = with_block (block_of len rest) (block_of len (rest ++ more)) (λ body. Step (Receive replica body)) more (settled more)
form_settled (form.Restart replica) rest settled more = refl

-- a command whose line isn't one
pub no_line_settled : (text : List ℕ) → IsSettledBy line_of text → line_of text ≡ None → IsSettledBy command_at text
unfolding command_at
no_line_settled text first is more =
    let whole : line_of (text ++ more) ≡ None = first more ∙ ap (before_more more) is in
    ap (λ (o : Option (List ℕ × List ℕ)). o >>= λ line. form_of line.0 >>= λ said. command_of said line.1) whole
    ∙ ap (λ (o : Option (List ℕ × List ℕ)). before_more more (o >>= λ line. form_of line.0 >>= λ said. command_of said line.1)) (sym is)

-- one whose line says nothing
pub no_form_settled : (text line after : List ℕ) → IsSettledBy line_of text → line_of text ≡ Some (line, after) → form_of line ≡ None → IsSettledBy command_at text
unfolding command_at
no_form_settled text line after first is none more =
    let whole : line_of (text ++ more) ≡ Some (line, after ++ more) = first more ∙ ap (before_more more) is in
    ap (λ (o : Option (List ℕ × List ℕ)). o >>= λ line. form_of line.0 >>= λ said. command_of said line.1) whole
    ∙ ap (λ (o : Option Form). o >>= λ said. command_of said (after ++ more)) none
    ∙ ap (λ (o : Option Form). before_more more (o >>= λ said. command_of said after)) (sym none)
    ∙ ap (λ (o : Option (List ℕ × List ℕ)). before_more more (o >>= λ line. form_of line.0 >>= λ said. command_of said line.1)) (sym is)

-- any other
pub command_settled : (text line after : List ℕ) (said : Form) → IsSettledBy line_of text → line_of text ≡ Some (line, after) → form_of line ≡ Some said → IsSettledBy (command_of said) after
    → IsSettledBy command_at text
unfolding command_at
command_settled text line after said first is form_is rest more =
    let whole : line_of (text ++ more) ≡ Some (line, after ++ more) = first more ∙ ap (before_more more) is in
    ap (λ (o : Option (List ℕ × List ℕ)). o >>= λ line. form_of line.0 >>= λ said. command_of said line.1) whole
    ∙ ap (λ (o : Option Form). o >>= λ said. command_of said (after ++ more)) form_is
    ∙ rest more
    ∙ ap (λ (o : Option Form). before_more more (o >>= λ said. command_of said after)) (sym form_is)
    ∙ ap (λ (o : Option (List ℕ × List ℕ)). before_more more (o >>= λ line. form_of line.0 >>= λ said. command_of said line.1)) (sym is)

-- ---- the first line

with_start : (found : Option Start) (after more : List ℕ)
    → (found >>= λ begin. Some (begin, after ++ more)) ≡ before_more more (found >>= λ begin. Some (begin, after))
with_start None after more = refl
with_start (Some begin) after more = refl

start_on : (text more : List ℕ) (found : Option (List ℕ × List ℕ)) → line_of text ≡ found → line_of (text ++ more) ≡ before_more more found → start_at (text ++ more) ≡ before_more more (start_at text)
unfolding start_at
start_on text more None is whole =
    ap (λ (o : Option (List ℕ × List ℕ)). o >>= λ line. start_of line.0 >>= λ begin. Some (begin, line.1)) whole
    ∙ ap (λ (o : Option (List ℕ × List ℕ)). before_more more (o >>= λ line. start_of line.0 >>= λ begin. Some (begin, line.1))) (sym is)
start_on text more (Some line) is whole =
    ap (λ (o : Option (List ℕ × List ℕ)). o >>= λ line. start_of line.0 >>= λ begin. Some (begin, line.1)) whole
    ∙ with_start (start_of line.0) line.1 more
    ∙ ap (λ (o : Option (List ℕ × List ℕ)). before_more more (o >>= λ line. start_of line.0 >>= λ begin. Some (begin, line.1))) (sym is)

pub start_settled : (text : List ℕ) → IsSettledBy line_of text → IsSettledBy start_at text
start_settled text settled more = start_on text more (line_of text) refl (settled more)
