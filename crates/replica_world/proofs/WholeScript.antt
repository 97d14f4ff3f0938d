-- A script is read to its end or to a bad line.
use Rattle.std.proofs.Common.{◌≡◌, ℕ, zero, suc, ◌+◌, ◌<◌, ◌≤◌, inl, inr, List, [], ◌∷◌, length, replicate, Option, Some, None, refl, sym, ap, subst, ◌∙◌, arith}
use Rattle.std.specs.Prelude.{IfSome}
use Rattle.std.proofs.lemmas.List.{length-append}
use Rattle.replica_world.specs.Fields.{after_empty_lines, block_of, line_of, lines_of}
use Rattle.replica_world.specs.Form as form
use Rattle.replica_world.specs.Form.{Form, form_of}
use Rattle.replica_world.specs.Script.{Commands, Found, Start, command_of, command_at, commands_within, commands_of, onward, start_of, start_at}
use Rattle.replica_world.specs.Stands.{Kept}
use Rattle.replica_world.specs.Performing.{IsFirstPerformed}
use Rattle.replica_world.specs.Layout.{IsEnded, IsLine, IsCommandAt, IsReadAs}
use Rattle.replica_world.proofs.LaidOut.{line_is, block_is, after_empty_lines_is}
use Rattle.replica_world.proofs.Commands.{command_is}
use Rattle.link_format.specs.Scan.{◌>>=◌}

-- ---- what is left gets shorter

-- a part that is ended leaves no more than there was
ended_shorter : (text : List ℕ) (parts : List ℕ × List ℕ) → IsEnded text parts → length parts.1 ≤ length text
ended_shorter text parts (inl whole) = let both : length text ≡ length parts.0 + suc (length parts.1) = ap length whole ∙ length-append parts.0 (10 ∷ parts.1) in omega (arith, both)
ended_shorter text parts (inr whole) = let none : length parts.1 ≡ 0 = ap length whole.1 in omega (arith, none)

line_shorter : (text : List ℕ) (parts : List ℕ × List ℕ) → line_of text ≡ Some parts → length parts.1 < length text
line_shorter text parts is = on ((line_is text parts).0 is) where
  on : IsLine text parts → length parts.1 < length text
  on (some, short, lacks, inl whole) = let both : length text ≡ length parts.0 + suc (length parts.1) = ap length whole ∙ length-append parts.0 (10 ∷ parts.1) in omega (arith, both)
  on (some, short, lacks, inr whole) = let none : length parts.1 ≡ 0 = ap length whole.1 in omega (arith, none, some)

block_shorter : (len : ℕ) (text : List ℕ) (parts : List ℕ × List ℕ) → block_of len text ≡ Some parts → length parts.1 ≤ length text
block_shorter len text parts is = ended_shorter text parts ((block_is len text parts).0 is).2

pub empty_lines_shorter : (text : List ℕ) → length (after_empty_lines text) ≤ length text
empty_lines_shorter text =
    let is = after_empty_lines_is text in
    let both : length text ≡ length (replicate is.lines 10) + length (after_empty_lines text) = ap length is.whole ∙ length-append (replicate is.lines 10) (after_empty_lines text) in
    omega (arith, both)

-- what holds of each thing that is found
pub if_bound : {A B : Type 0} (o : Option A) (f : A → Option B) (P : B → Type 0) → ((x : A) → o ≡ Some x → IfSome (f x) P) → IfSome (o >>= f) P
if_bound None f P h = tt
if_bound (Some x) f P h = h x refl

pub if_some : {A : Type 0} (o : Option A) (P : A → Type 0) (x : A) → IfSome o P → o ≡ Some x → P x
if_some {A} o P x h is = subst (λ (o : Option A). IfSome o P) is h

lines_shorter : (count : ℕ) (text : List ℕ) → IfSome (lines_of count text) (λ found. length found.1 ≤ length text)
unfolding lines_of
lines_shorter zero text = omega arith
lines_shorter (suc count) text =
    if_bound (line_of text) _ _ (λ line is. if_bound (lines_of count line.1) _ _ (λ more rest. omega (arith, line_shorter text line is, if_some _ _ more (lines_shorter count line.1) rest)))

-- what is left behind a command
abbrev Leaves : List ℕ → Found → Type 0
Leaves rest found = IfSome found (λ c. length c.1 ≤ length rest)

-- whatever its line says
said_shorter : (said : Form) (rest : List ℕ) → Leaves rest (command_of said rest)
unfolding command_of
said_shorter (form.Take f) rest = if_bound (block_of f.len rest) _ _ (λ body is. block_shorter f.len rest body is)
said_shorter (form.Map replica original) rest = omega arith
said_shorter (form.Gate replica original) rest = omega arith
said_shorter (form.GateAt replica original asked) rest = omega arith
said_shorter (form.Ask f) rest = if_bound (lines_of f.count rest) _ _ (λ asked is. if_some _ _ asked (lines_shorter f.count rest) is)
said_shorter (form.Send replica) rest = omega arith
said_shorter (form.SendFrom replica merges) rest = omega arith
said_shorter (form.Deliver replica message) rest = omega arith
said_shorter (form.Receive replica len) rest = if_bound (block_of len rest) _ _ (λ body is. block_shorter len rest body is)
said_shorter (form.Restart replica) rest = omega arith

pub command_shorter : (text : List ℕ) → IfSome (command_at text) (λ c. length c.1 < length text)
unfolding command_at
command_shorter text =
    if_bound (line_of text) _ _ (λ line is. if_bound (form_of line.0) _ _ (λ said _. on line.1 (command_of said line.1) (line_shorter text line is) (said_shorter said line.1))) where
      on : (rest : List ℕ) (found : Found) → length rest < length text → Leaves rest found → IfSome found (λ c. length c.1 < length text)
      on rest None less leaves = tt
      on rest (Some c) less leaves = omega (arith, less, leaves)

-- nor is what is left behind the first line longer than the script
pub start_shorter : (text : List ℕ) (begin : Start) (rest : List ℕ) → start_at text ≡ Some (begin, rest) → length rest < length text
unfolding start_at
start_shorter text begin rest is =
    let all : IfSome (start_at text) (λ p. length p.1 < length text) = if_bound (line_of text) _ _ (λ line here. if_bound (start_of line.0) _ _ (λ begin _. line_shorter text line here)) in
    if_some (start_at text) (λ p. length p.1 < length text) (begin, rest) all is

-- the text from the next command on is shorter
pub first_shorter : (old : Kept) (text said rest : List ℕ) (new : Kept) → IsFirstPerformed old text said rest new → length rest < length text
first_shorter old text said rest new first =
    let behind : length first.after < length text = if_some (command_at text) (λ c. length c.1 < length text) (first.command, first.after) (command_shorter text) first.found in
    let here : length rest ≡ length (after_empty_lines first.after) = ap length first.rest_is in
    omega (arith, behind, here, empty_lines_shorter first.after)

-- ---- a whole script

-- the commands of a text, whose first line behind the empty ones begins what is left
read_rest : (bytes : ℕ) (text rest : List ℕ) → after_empty_lines text ≡ rest → length rest ≤ bytes → IsReadAs text (commands_within bytes rest).list (commands_within bytes rest).bad
unfolding commands_within
read_rest zero text [] is enough = is
read_rest zero text (b ∷ rest) is enough = absurd (omega arith)
read_rest (suc bytes) text [] is enough = is
read_rest (suc bytes) text (b ∷ rest) is enough =
    on (command_at (b ∷ rest)) refl (command_shorter (b ∷ rest)) (λ after. read_rest bytes after (after_empty_lines after) refl) where
      later : Commands → Type 0
      later commands = IsReadAs text commands.list commands.bad

      on : (found : Found) → command_at (b ∷ rest) ≡ found → IfSome found (λ c. length c.1 < suc (length rest))
          → ((after : List ℕ) → length (after_empty_lines after) ≤ bytes → IsReadAs after (commands_within bytes (after_empty_lines after)).list (commands_within bytes (after_empty_lines after)).bad)
          → later (onward (b ∷ rest) found (λ rest. commands_within bytes (after_empty_lines rest)))
      on None found shorter more = (is, omega arith, λ command after laid. let none : None ≡ Some (command, after) = sym found ∙ (command_is (b ∷ rest) (command, after)).1 laid in absurd (cc))
      on (Some c) found shorter more =
          (c.1, subst (λ (t : List ℕ). IsCommandAt t c.0 c.1) (sym is) ((command_is (b ∷ rest) c).0 found), more c.1 (omega (arith, shorter, empty_lines_shorter c.1, enough)))

-- a text is read to its end, or to a bad line
pub commands_are : (text : List ℕ) → IsReadAs text (commands_of text).list (commands_of text).bad
unfolding commands_of
commands_are text = read_rest (length text) text (after_empty_lines text) refl (empty_lines_shorter text)
