-- A replay's loop over what was read and what its reader still has.
use Rattle.std.proofs.Common.{◌≡◌, ℕ, ◌+◌, ◌<◌, ◌≤◌, ◌⊎◌, inl, inr, List, [], ◌∷◌, ◌++◌, length}
use Rattle.std.proofs.Common.{Option, Some, None, Result, Ok, Err, refl, sym, ap, subst, ◌∙◌, append-nil, length-append, arith}
use Rattle.std.specs.Prelude.{IfSome}
use Rattle.std.specs.Io.KnownBytes.{Appends, Keeps}
use Rattle.std.proofs.KnownBytes.{Appends-kept, Appends-nil, Appends-trans}
use Rattle.replica_world.specs.declared.replaying.fault.ReplayFault.{ReplayFault}
use Rattle.replica_world.specs.declared.replaying.fault.ReplayFault.TheVariants.{BadLine, Read, Write, NoMemory}
use Rattle.replica_world.specs.declared.replaying.settled.Part.{Part}
use Rattle.replica_world.specs.declared.replaying.settled.Part.TheVariants as part
use Rattle.replica_events.specs.World.{World, start}
use Rattle.replica_world.specs.Stands.{Kept, Stands}
use Rattle.replica_world.specs.Devices.{AppendsBeginning, IsBreak}
use Rattle.replica_world.specs.Fields.{after_empty_lines}
use Rattle.replica_world.specs.Script.{Start, command_at, start_at}
use Rattle.replica_world.specs.Output.{Replayed, Replays, ReplaysFrom}
use Rattle.replica_world.specs.Performing.{IsFirstPerformed}
use Rattle.replica_world.specs.Reading.{Held, Told, IsLeft, IsLeftOf, IsReadTo, IsSettledBy, IsWhole, SameText, before_more}
use Rattle.replica_world.proofs.Once.{OnePage}
use Rattle.replica_world.proofs.WholeScript.{empty_lines_shorter, first_shorter}
use Rattle.replica_world.proofs.Progress.{Progress, progress_start, progress_next, progress_end, progress_bad, progress_broken, progress_unwritten, replays_nothing, replays_bad_start, replays_on}
use Rattle.replica_world.proofs.Ends.{empty_lines_twice, none_empty}
use Rattle.replica_world.proofs.Windows.{line_of_left}

-- nothing was written
pub nothing_written : (old new : Option (List ℕ)) → Keeps old new → Appends old new []
nothing_written old new keeps = Appends-kept old old new [] (Appends-nil old) keeps

-- ---- what is read in the window is read in the whole text

before_none : {A : Type 0} (found : Option (A × List ℕ)) → found ≡ before_more [] found
before_none None = refl
before_none (Some p) = λ i. Some (p.0, sym (append-nil p.1) i)

read_whole : {A : Type 0} (read : List ℕ → Option (A × List ℕ)) (text more : List ℕ) → ((more ≡ []) ⊎ IsSettledBy read text) → read (text ++ more) ≡ before_more more (read text)
read_whole {A} read text more (inl none) =
    subst (λ (m : List ℕ). read (text ++ m) ≡ before_more m (read text)) (sym none) (ap read (append-nil text) ∙ before_none (read text))
read_whole {A} read text more (inr settled) = settled more

command_whole : (script : List ℕ) (held : Held) (rest : List ℕ) → IsLeft script held rest → IsWhole part.Command held → command_at (held.bytes ++ rest) ≡ before_more rest (command_at held.bytes)
command_whole script held rest left (inl ended) = read_whole command_at held.bytes rest (inl (left.ended ended))
command_whole script held rest left (inr settled) = read_whole command_at held.bytes rest (inr settled.0)

start_whole : (script : List ℕ) (held : Held) (rest : List ℕ) → IsLeft script held rest → IsWhole part.Start held → start_at (held.bytes ++ rest) ≡ before_more rest (start_at held.bytes)
start_whole script held rest left (inl ended) = read_whole start_at held.bytes rest (inl (left.ended ended))
start_whole script held rest left (inr settled) = read_whole start_at held.bytes rest (inr settled.0)

-- the command at the front of the window is that of the whole text
first_whole : (script : List ℕ) (held : Held) (rest : List ℕ) (kept next_kept : Kept) (said next : List ℕ) → IsLeft script held rest → IsWhole part.Command held
    → IsFirstPerformed kept held.bytes said next next_kept → IsFirstPerformed kept (held.bytes ++ rest) said (after_empty_lines (next ++ rest)) next_kept
first_whole script held rest kept next_kept said next left whole first = record {
  command = first.command;
  after = first.after ++ rest;
  found = command_whole script held rest left whole ∙ ap (before_more rest) first.found;
  performed = first.performed;
  rest_is = ap (λ (t : List ℕ). after_empty_lines (t ++ rest)) first.rest_is ∙ empty_lines_twice first.after rest;
}

-- ---- the loop

-- where the reader tells its bytes
pub left_told : (begun : Told) (script : List ℕ) (held : Held) (now : Told) → begun.bytes ≡ Some script → IsReadTo begun held now → IsLeftOf (Some script) held now.bytes
left_told begun script held now is read = subst (λ (o : Option (List ℕ)). IsLeftOf o held now.bytes) is read.left

pub if_told : (o : Option (List ℕ)) (P : List ℕ → Type 0) → ((script : List ℕ) → o ≡ Some script → P script) → IfSome o P
if_told None P each = tt
if_told (Some script) P each = each script refl

-- as `Progress`, where the reader tells its bytes
abbrev pub ProgressLeft : List ℕ → World → List ℕ → Kept → List ℕ → Option (List ℕ) → Option (List ℕ) → Option (List ℕ) → Type 0
ProgressLeft base w text kept held None old new = ⊥
ProgressLeft base w text kept held (Some rest) old new = Progress base w text kept (after_empty_lines (held ++ rest)) old new

-- what was written was flushed
progress_flushed : (base : List ℕ) (w : World) (text : List ℕ) (kept : Kept) (rest : List ℕ) (old mid new : Option (List ℕ)) → Progress base w text kept rest old mid → Keeps mid new
    → Progress base w text kept rest old new
progress_flushed base w text kept rest old mid new p keeps = record {
  bytes = p.bytes;
  enough = p.enough;
  before = p.before;
  said = p.said;
  mid = p.mid;
  says = p.says;
  stands = p.stands;
  base_is = p.base_is;
  commands_are = p.commands_are;
  written = Appends-kept old mid new p.said p.written keeps;
}

-- before the first command
pub left_start : (w : World) (kept : Kept) (held rest : List ℕ) (left old : Option (List ℕ)) → Stands kept w → left ≡ Some rest → ProgressLeft kept.base w (held ++ rest) kept held left old old
left_start w kept held rest left old stands is =
    subst (λ (l : Option (List ℕ)). ProgressLeft kept.base w (held ++ rest) kept held l old old) (sym is)
    (progress_start w (held ++ rest) (after_empty_lines (held ++ rest)) kept old stands refl (empty_lines_shorter (held ++ rest)))

-- more was read, and what was written was flushed
pub left_read : (base : List ℕ) (w : World) (text : List ℕ) (kept : Kept) (held new : List ℕ) (rest left old mid last : Option (List ℕ)) → ProgressLeft base w text kept held rest old mid
    → SameText held rest new left → Keeps mid last → ProgressLeft base w text kept new left old last
left_read base w text kept held new None left old mid last p same keeps = absurd p
left_read base w text kept held new (Some rest) None old mid last p same keeps = absurd same
left_read base w text kept held new (Some rest) (Some left) old mid last p same keeps =
    let there : Progress base w text kept (after_empty_lines (new ++ left)) old mid = subst (λ (t : List ℕ). Progress base w text kept t old mid) (sym same) p in
    progress_flushed base w text kept (after_empty_lines (new ++ left)) old mid last there keeps

-- one command more
pub left_next : (script base : List ℕ) (w : World) (text : List ℕ) (kept next_kept : Kept) (held : Held) (rest old mid new : Option (List ℕ)) (said next bytes : List ℕ)
    → IsLeftOf (Some script) held rest → ProgressLeft base w text kept held.bytes rest old mid → after_empty_lines held.bytes ≡ held.bytes → 0 < length held.bytes → IsWhole part.Command held
    → IsFirstPerformed kept held.bytes said next next_kept → Appends mid new said → bytes ≡ next → ProgressLeft base w text next_kept bytes rest old new
left_next script base w text kept next_kept held None old mid new said next bytes left p front some whole first wrote is = absurd left
left_next script base w text kept next_kept held (Some rest) old mid new said next bytes left p front some whole first wrote is =
    let turn = first_whole script held rest kept next_kept said next left whole first in
    let here : Progress base w text kept (held.bytes ++ rest) old mid =
    subst (λ (t : List ℕ). Progress base w text kept t old mid) (none_empty held.bytes rest front some) p in
    let long : 0 < length (held.bytes ++ rest) = omega (arith, some, length-append held.bytes rest) in
    subst (λ (b : List ℕ). Progress base w text next_kept (after_empty_lines (b ++ rest)) old new) (sym is)
    (progress_next base w text kept next_kept (held.bytes ++ rest) (after_empty_lines (next ++ rest)) old mid new said said here long turn
    (first_shorter kept (held.bytes ++ rest) said (after_empty_lines (next ++ rest)) next_kept turn) refl wrote)

-- a bad line
pub left_bad : (script base : List ℕ) (w : World) (text : List ℕ) (kept : Kept) (held : Held) (rest old new : Option (List ℕ)) (n : ℕ)
    → IsLeftOf (Some script) held rest → ProgressLeft base w text kept held.bytes rest old new → after_empty_lines held.bytes ≡ held.bytes → 0 < length held.bytes → IsWhole part.Command held
    → command_at held.bytes ≡ None → n ≡ 1 + held.lines → ReplaysFrom base w script text old new (Err (BadLine n))
left_bad script base w text kept held None old new n left p front some whole none number = absurd left
left_bad script base w text kept held (Some rest) old new n left p front some whole none number =
    let here : Progress base w text kept (held.bytes ++ rest) old new =
    subst (λ (t : List ℕ). Progress base w text kept t old new) (none_empty held.bytes rest front some) p in
    let long : 0 < length (held.bytes ++ rest) = omega (arith, some, length-append held.bytes rest) in
    progress_bad base w script text kept (held.bytes ++ rest) old new n here long (command_whole script held rest left whole ∙ ap (before_more rest) none)
    (line_of_left script held rest n left number)

-- nothing is left, once the end was seen
nothing_left : (part : Part) (script : List ℕ) (held : Held) (rest : List ℕ) → IsLeft script held rest → IsWhole part held → length held.bytes ≡ 0 → (held.bytes ++ rest) ≡ []
nothing_left part script held rest left (inr settled) none = absurd (omega (arith, settled.1, none))
nothing_left part script held rest left (inl ended) none = on held.bytes none where
  on : (bytes : List ℕ) → length bytes ≡ 0 → bytes ++ rest ≡ []
  on [] none = left.ended ended
  on (b ∷ bytes) none = absurd (omega (arith, none))

pub left_end : (script base : List ℕ) (w : World) (text : List ℕ) (kept : Kept) (held : Held) (rest old new : Option (List ℕ)) (u : Unit {0})
    → IsLeftOf (Some script) held rest → ProgressLeft base w text kept held.bytes rest old new → length held.bytes ≡ 0 → IsWhole part.Command held → ReplaysFrom base w script text old new (Ok u)
left_end script base w text kept held None old new u left p none whole = absurd left
left_end script base w text kept held (Some rest) old new u left p none whole =
    let all : held.bytes ++ rest ≡ [] = nothing_left part.Command script held rest left whole none in
    let short : length (after_empty_lines (held.bytes ++ rest)) ≤ length (held.bytes ++ rest) = empty_lines_shorter (held.bytes ++ rest) in
    progress_end base w script text kept (after_empty_lines (held.bytes ++ rest)) old new u p (omega (arith, short, ap length all))

-- a break
broken : (fault : ReplayFault) → IsBreak fault → (P : List ℕ → Type 0) (bad : Option ℕ) (old new : Option (List ℕ)) → ((output : List ℕ) → P output → AppendsBeginning old new output)
    → Replayed P bad old new (Err fault)
broken Read is P bad old new all = all
broken Write is P bad old new all = all
broken NoMemory is P bad old new all = all
broken (BadLine number) is P bad old new all = absurd is

pub left_broken : OnePage → (script base : List ℕ) (w : World) (text : List ℕ) (kept : Kept) (held : List ℕ) (rest old mid new : Option (List ℕ)) (fault : ReplayFault)
    (result : Result (Unit {0}) ReplayFault) → ProgressLeft base w text kept held rest old mid → Keeps mid new → IsBreak fault → result ≡ Err fault → ReplaysFrom base w script text old new result
left_broken one script base w text kept held None old mid new fault result p keeps is same = absurd p
left_broken one script base w text kept held (Some rest) old mid new fault result p keeps is same =
    let there : Progress base w text kept (after_empty_lines (held ++ rest)) old new = progress_flushed base w text kept (after_empty_lines (held ++ rest)) old mid new p keeps in
    subst (λ (r : Result (Unit {0}) ReplayFault). ReplaysFrom base w script text old new r) (sym same)
    (broken fault is _ _ old new (progress_broken one base w text kept (after_empty_lines (held ++ rest)) old new there))

-- what a command says was cut short
pub left_cut : OnePage → (script base : List ℕ) (w : World) (text : List ℕ) (kept next_kept : Kept) (held : Held) (rest old mid new : Option (List ℕ)) (said next : List ℕ)
    (result : Result (Unit {0}) ReplayFault) → IsLeftOf (Some script) held rest → ProgressLeft base w text kept held.bytes rest old mid → after_empty_lines held.bytes ≡ held.bytes
    → 0 < length held.bytes → IsWhole part.Command held → IsFirstPerformed kept held.bytes said next next_kept → AppendsBeginning mid new said → result ≡ Err Write
    → ReplaysFrom base w script text old new result
left_cut one script base w text kept next_kept held None old mid new said next result left p front some whole first wrote is = absurd left
left_cut one script base w text kept next_kept held (Some rest) old mid new said next result left p front some whole first wrote is =
    let turn = first_whole script held rest kept next_kept said next left whole first in
    let here : Progress base w text kept (held.bytes ++ rest) old mid =
    subst (λ (t : List ℕ). Progress base w text kept t old mid) (none_empty held.bytes rest front some) p in
    let long : 0 < length (held.bytes ++ rest) = omega (arith, some, length-append held.bytes rest) in
    subst (λ (r : Result (Unit {0}) ReplayFault). ReplaysFrom base w script text old new r) (sym is)
    (progress_unwritten one base w text kept next_kept (held.bytes ++ rest) (after_empty_lines (next ++ rest)) old mid new said here long turn
    (first_shorter kept (held.bytes ++ rest) said (after_empty_lines (next ++ rest)) next_kept turn) wrote)

-- ---- a whole script

-- the text behind the empty lines of the script
front_is : (script : List ℕ) (held : List ℕ) (rest : List ℕ) → SameText [] (Some script) held (Some rest) → after_empty_lines held ≡ held → 0 < length held → held ++ rest ≡ after_empty_lines script
front_is script held rest same front some = sym (none_empty held rest front some) ∙ same

-- nothing but empty lines
pub stream_nothing : (script : List ℕ) (held : Held) (rest old new : Option (List ℕ)) (u : Unit {0}) → IsLeftOf (Some script) held rest → SameText [] (Some script) held.bytes rest
    → IsWhole part.Start held → length held.bytes ≡ 0 → Keeps old new → Replays script old new (Ok u)
stream_nothing script held None old new u left same whole none keeps = absurd left
stream_nothing script held (Some rest) old new u left same whole none keeps =
    let all : held.bytes ++ rest ≡ [] = nothing_left part.Start script held rest left whole none in
    let empty : after_empty_lines script ≡ after_empty_lines [] = sym same ∙ ap after_empty_lines all in
    let short : length (after_empty_lines []) ≤ 0 = empty_lines_shorter [] in
    replays_nothing script (after_empty_lines script) old new u refl (omega (arith, short, ap length empty)) (nothing_written old new keeps)

-- a bad first line
pub stream_bad : (script : List ℕ) (held : Held) (rest old new : Option (List ℕ)) (n : ℕ) → IsLeftOf (Some script) held rest → SameText [] (Some script) held.bytes rest → IsWhole part.Start held
    → after_empty_lines held.bytes ≡ held.bytes → 0 < length held.bytes → start_at held.bytes ≡ None → n ≡ 1 + held.lines → Keeps old new → Replays script old new (Err (BadLine n))
stream_bad script held None old new n left same whole front some none number keeps = absurd left
stream_bad script held (Some rest) old new n left same whole front some none number keeps =
    replays_bad_start script (held.bytes ++ rest) old new n (front_is script held.bytes rest same front some) (omega (arith, some, length-append held.bytes rest))
    (start_whole script held rest left whole ∙ ap (before_more rest) none) (line_of_left script held rest n left number) (nothing_written old new keeps)

-- what a replay from here on writes, it writes behind nothing
replayed_kept : (P : List ℕ → Type 0) (bad : Option ℕ) (old mid new : Option (List ℕ)) (result : Result (Unit {0}) ReplayFault) → Keeps old mid → Replayed P bad mid new result
    → Replayed P bad old new result
replayed_kept P bad old mid new result keeps = on result where
  written : (output : List ℕ) → Appends mid new output → Appends old new output
  written output wrote = Appends-trans old mid new [] output (nothing_written old mid keeps) wrote

  begins : (output : List ℕ) → AppendsBeginning mid new output → AppendsBeginning old new output
  begins output (done, more, is, wrote) = (done, more, is, written done wrote)

  on : (result : Result (Unit {0}) ReplayFault) → Replayed P bad mid new result → Replayed P bad old new result
  on (Ok u) (output, is, wrote, none) = (output, is, written output wrote, none)
  on (Err (BadLine number)) (output, is, wrote, some) = (output, is, written output wrote, some)
  on (Err Read) all = λ output is. begins output (all output is)
  on (Err Write) all = λ output is. begins output (all output is)
  on (Err NoMemory) all = λ output is. begins output (all output is)

-- the commands of any other script
pub stream_on : (script : List ℕ) (held : Held) (rest old mid new : Option (List ℕ)) (begin : Start) (after bytes : List ℕ) (kept : Kept) (result : Result (Unit {0}) ReplayFault)
    → IsLeftOf (Some script) held rest → SameText [] (Some script) held.bytes rest → IsWhole part.Start held → after_empty_lines held.bytes ≡ held.bytes → 0 < length held.bytes
    → start_at held.bytes ≡ Some (begin, after) → bytes ≡ after → Stands kept (start begin.replicas) → kept.base ≡ begin.base → Keeps old mid
    → ((more : List ℕ) → rest ≡ Some more → (w : World) → Stands kept w → ReplaysFrom kept.base w script (bytes ++ more) mid new result) → Replays script old new result
stream_on script held None old mid new begin after bytes kept result left same whole front some is bytes_are stands base_is keeps replayed = absurd left
stream_on script held (Some rest) old mid new begin after bytes kept result left same whole front some is bytes_are stands base_is keeps replayed =
    replayed_kept _ _ old mid new result keeps
    (replays_on script (held.bytes ++ rest) (after ++ rest) begin kept mid new result (front_is script held.bytes rest same front some) (omega (arith, some, length-append held.bytes rest))
    (start_whole script held rest left whole ∙ ap (before_more rest) is) stands base_is
    (λ w standing. subst (λ (b : List ℕ). ReplaysFrom kept.base w script (b ++ rest) mid new result) bytes_are (replayed rest refl w standing)))

-- a break before the first command
pub stream_broken : (script : List ℕ) (old new : Option (List ℕ)) (fault : ReplayFault) (result : Result (Unit {0}) ReplayFault) → Keeps old new → IsBreak fault → result ≡ Err fault
    → Replays script old new result
stream_broken script old new fault result keeps is same =
    subst (λ (r : Result (Unit {0}) ReplayFault). Replays script old new r) (sym same)
    (broken fault is _ _ old new (λ output _. ([], output, refl, nothing_written old new keeps)))
