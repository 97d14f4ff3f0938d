-- What is left behind a part of a script is the end of the text.
use Rattle.std.proofs.Common.{◌≡◌, ℕ, zero, suc, ◌<◌, ◌≤◌, inl, inr, Bool, true, false, ◌==◌, if◌then◌else◌, List, [], ◌∷◌, ◌++◌, length, replicate}
use Rattle.std.proofs.Common.{Some, None, refl, sym, ap, subst, ◌∙◌, append_assoc, append-nil, arith}
use Rattle.std.specs.Prelude.{IfSome}
use Rattle.std.proofs.lemmas.List.{length-append}
use Rattle.replica_world.specs.Fields.{after_empty_lines, block_of, line_of, lines_of}
use Rattle.replica_world.specs.Form as form
use Rattle.replica_world.specs.Form.{Form, form_of}
use Rattle.replica_world.specs.Script.{Found, Start, command_of, command_at, start_of, start_at}
use Rattle.replica_world.specs.Stands.{Kept}
use Rattle.replica_world.specs.Performing.{IsFirstPerformed}
use Rattle.replica_world.specs.Layout.{IsEnded}
use Rattle.replica_world.proofs.LaidOut.{line_is, block_is, after_empty_lines_is}
use Rattle.replica_world.proofs.WholeScript.{if_bound, if_some}

-- a text ends with the rest
pub record EndsWith (text rest : List ℕ) : Type 0 where
  pub front : List ℕ
  pub whole : text ≡ front ++ rest

all_of : (text : List ℕ) → EndsWith text text
all_of text = record { front = []; whole = refl }

ends_on : (text rest last : List ℕ) → EndsWith text rest → EndsWith rest last → EndsWith text last
ends_on text rest last p q = record {
  front = p.front ++ q.front;
  whole = p.whole ∙ ap (λ (t : List ℕ). p.front ++ t) q.whole ∙ sym (append_assoc p.front q.front last);
}

ended_end : (text : List ℕ) (parts : List ℕ × List ℕ) → IsEnded text parts → EndsWith text parts.1
ended_end text parts (inl whole) = record { front = parts.0 ++ 10 ∷ []; whole = whole ∙ sym (append_assoc parts.0 (10 ∷ []) parts.1) }
ended_end text parts (inr whole) = record { front = text; whole = sym (append-nil text) ∙ ap (λ (t : List ℕ). text ++ t) (sym whole.1) }

line_end : (text : List ℕ) (parts : List ℕ × List ℕ) → line_of text ≡ Some parts → EndsWith text parts.1
line_end text parts is = ended_end text parts ((line_is text parts).0 is).3

block_end : (len : ℕ) (text : List ℕ) (parts : List ℕ × List ℕ) → block_of len text ≡ Some parts → EndsWith text parts.1
block_end len text parts is = ended_end text parts ((block_is len text parts).0 is).2

pub empty_lines_end : (text : List ℕ) → EndsWith text (after_empty_lines text)
empty_lines_end text = let is = after_empty_lines_is text in record { front = replicate is.lines 10; whole = is.whole }

lines_end : (count : ℕ) (text : List ℕ) → IfSome (lines_of count text) (λ found. EndsWith text found.1)
unfolding lines_of
lines_end zero text = all_of text
lines_end (suc count) text =
    if_bound (line_of text) _ _ (λ line is. if_bound (lines_of count line.1) _ _ (λ more rest. ends_on text line.1 more.1 (line_end text line is) (if_some _ _ more (lines_end count line.1) rest)))

said_end : (said : Form) (rest : List ℕ) → IfSome (command_of said rest) (λ c. EndsWith rest c.1)
unfolding command_of
said_end (form.Take f) rest = if_bound (block_of f.len rest) _ _ (λ body is. block_end f.len rest body is)
said_end (form.Map replica original) rest = all_of rest
said_end (form.Gate replica original) rest = all_of rest
said_end (form.GateAt replica original asked) rest = all_of rest
said_end (form.Ask f) rest = if_bound (lines_of f.count rest) _ _ (λ asked is. if_some _ _ asked (lines_end f.count rest) is)
said_end (form.Send replica) rest = all_of rest
said_end (form.SendFrom replica merges) rest = all_of rest
said_end (form.Deliver replica message) rest = all_of rest
said_end (form.Receive replica len) rest = if_bound (block_of len rest) _ _ (λ body is. block_end len rest body is)
said_end (form.Restart replica) rest = all_of rest

command_end : (text : List ℕ) → IfSome (command_at text) (λ c. EndsWith text c.1)
unfolding command_at
command_end text =
    if_bound (line_of text) _ _ (λ line is. if_bound (form_of line.0) _ _ (λ said _. on line.1 (command_of said line.1) (line_end text line is) (said_end said line.1))) where
      on : (rest : List ℕ) (found : Found) → EndsWith text rest → IfSome found (λ c. EndsWith rest c.1) → IfSome found (λ c. EndsWith text c.1)
      on rest None here there = tt
      on rest (Some c) here there = ends_on text rest c.1 here there

-- what follows the first line
pub start_end : (text : List ℕ) (begin : Start) (rest : List ℕ) → start_at text ≡ Some (begin, rest) → EndsWith text rest
unfolding start_at
start_end text begin rest is =
    let all : IfSome (start_at text) (λ p. EndsWith text p.1) = if_bound (line_of text) _ _ (λ line here. if_bound (start_of line.0) _ _ (λ begin _. line_end text line here)) in
    if_some (start_at text) (λ p. EndsWith text p.1) (begin, rest) all is

-- the text from the next command on
pub first_end : (old : Kept) (text said rest : List ℕ) (new : Kept) → IsFirstPerformed old text said rest new → EndsWith text rest
first_end old text said rest new first =
    let behind : EndsWith text first.after = if_some (command_at text) (λ c. EndsWith text c.1) (first.command, first.after) (command_end text) first.found in
    subst (EndsWith text) (sym first.rest_is) (ends_on text first.after (after_empty_lines first.after) behind (empty_lines_end first.after))

pub end_within : (text rest : List ℕ) → EndsWith text rest → length rest ≤ length text
end_within text rest ends = omega (arith, ap length ends.whole, length-append ends.front rest)

-- two ends of one text with the same length
pub one_end : (front other rest last : List ℕ) → front ++ rest ≡ other ++ last → length rest ≡ length last → rest ≡ last
one_end [] [] rest last same long = same
one_end [] (b ∷ other) rest last same long = absurd (omega (arith, ap length same, length-append (b ∷ other) last, long))
one_end (a ∷ front) [] rest last same long = absurd (omega (arith, ap length same, length-append (a ∷ front) rest, long))
one_end (a ∷ front) (b ∷ other) rest last same long = let tails : front ++ rest ≡ other ++ last = cc in one_end front other rest last tails long

-- ---- empty lines, as more text comes

pub empty_lines_twice : (text more : List ℕ) → after_empty_lines (after_empty_lines text ++ more) ≡ after_empty_lines (text ++ more)
unfolding after_empty_lines
empty_lines_twice [] more = refl
empty_lines_twice (b ∷ text) more = on (b == 10) refl (empty_lines_twice text more) where
  on : (empty : Bool) → (b == 10) ≡ empty → after_empty_lines (after_empty_lines text ++ more) ≡ after_empty_lines (text ++ more)
      → after_empty_lines ((if empty then after_empty_lines text else b ∷ text) ++ more) ≡ (if empty then after_empty_lines (text ++ more) else b ∷ (text ++ more))
  on true is same = same
  on false is same = ap (λ (e : Bool). if e then after_empty_lines (text ++ more) else b ∷ (text ++ more)) is

pub none_behind : (text rest : List ℕ) → rest ≡ after_empty_lines text → after_empty_lines rest ≡ rest
none_behind text rest is =
    ap after_empty_lines (is ∙ sym (append-nil (after_empty_lines text))) ∙ empty_lines_twice text [] ∙ ap after_empty_lines (append-nil text) ∙ sym is

-- a text that begins with no empty line
pub none_empty : (text more : List ℕ) → after_empty_lines text ≡ text → 0 < length text → after_empty_lines (text ++ more) ≡ text ++ more
unfolding after_empty_lines
none_empty [] more clean some = absurd (omega (arith, some))
none_empty (b ∷ text) more clean some = on (b == 10) refl where
  on : (empty : Bool) → (b == 10) ≡ empty → after_empty_lines ((b ∷ text) ++ more) ≡ (b ∷ text) ++ more
  on false is = ap (λ (e : Bool). if e then after_empty_lines (text ++ more) else b ∷ (text ++ more)) is
  on true is =
      let shorter : after_empty_lines text ≡ b ∷ text = sym (ap (λ (e : Bool). if e then after_empty_lines text else b ∷ text) is) ∙ clean in
      absurd (omega (arith, ap length shorter, end_within text (after_empty_lines text) (empty_lines_end text)))
