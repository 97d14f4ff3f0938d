-- A replay's loop over the commands of a text.
use Rattle.std.proofs.Common.{◌≡◌, ℕ, Bool, true, false, ◌==◌, zero, suc, ◌<◌, ◌≤◌, List, [], ◌∷◌, ◌++◌, length, Option, Some, None, Result, Ok, Err}
use Rattle.std.proofs.Common.{refl, sym, ap, ◌∙◌, append_assoc, append-nil, arith, subst}
use Rattle.std.specs.Option.{option_map}
use Rattle.std.proofs.lemmas.Grind.{common_steps}
use Rattle.std.specs.Io.KnownBytes.{Appends}
use Rattle.std.proofs.KnownBytes.{Appends-nil, Appends-trans}
use Rattle.replica_world.specs.declared.replaying.fault.ReplayFault.{ReplayFault}
use Rattle.replica_world.specs.declared.replaying.fault.ReplayFault.TheVariants.{BadLine, Write}
use Rattle.replica_events.specs.World.{World, start}
use Rattle.replica_world.specs.Stands.{Kept, Stands}
use Rattle.replica_world.specs.Devices.{AppendsBeginning}
use Rattle.replica_world.specs.Fields.{after_empty_lines}
use Rattle.replica_world.specs.Script.{Command, Commands, Found, Start, Script, command_at, commands_within, commands_of, onward, start_at, script_begun_by, script_from, script_of, number_of_line}
use Rattle.replica_world.specs.Output.{Performs, Says, Writes, Replayed, Replays, ReplaysFrom}
use Rattle.replica_world.specs.Performing.{IsFirstPerformed}
use Rattle.replica_world.proofs.Once.{OnePage, says_once, performs_once, says_split, says_push}

-- ---- the commands of a text

-- those that were read before others
abbrev pub read_before : List Command → Commands → Commands
read_before before later = record { list = before ++ later.list; bad = later.bad }

-- the command at the front, and those behind it
commands_next : (bytes : ℕ) (rest next after : List ℕ) (command : Command) → 0 < length rest → length rest ≤ bytes → command_at rest ≡ Some (command, after)
    → next ≡ after_empty_lines after → length next < length rest
    → (fewer : ℕ) × (length next ≤ fewer) × (commands_within bytes rest ≡ read_before (command ∷ []) (commands_within fewer next))
unfolding commands_within
commands_next bytes [] next after command some most is next_is shorter = absurd (omega arith)
commands_next zero (b ∷ rest) next after command some most is next_is shorter = absurd (omega arith)
commands_next (suc bytes) (b ∷ rest) next after command some most is next_is shorter = (
  bytes,
  omega arith,
  ap (λ (found : Found). onward (b ∷ rest) found (λ rest. commands_within bytes (after_empty_lines rest))) is
      ∙ ap (λ (text : List ℕ). read_before (command ∷ []) (commands_within bytes text)) (sym next_is),
)

-- a bad line at the front
commands_bad : (bytes : ℕ) (rest : List ℕ) → 0 < length rest → length rest ≤ bytes → command_at rest ≡ None → commands_within bytes rest ≡ record { list = []; bad = Some rest }
unfolding commands_within
commands_bad bytes [] some most is = absurd (omega arith)
commands_bad zero (b ∷ rest) some most is = absurd (omega arith)
commands_bad (suc bytes) (b ∷ rest) some most is = ap (λ (found : Found). onward (b ∷ rest) found (λ rest. commands_within bytes (after_empty_lines rest))) is

-- the end of the text
commands_none : (bytes : ℕ) (rest : List ℕ) → length rest ≡ 0 → commands_within bytes rest ≡ record { list = []; bad = None }
unfolding commands_within
commands_none zero rest none = refl
commands_none (suc bytes) [] none = refl
commands_none (suc bytes) (b ∷ rest) none = absurd (omega arith)

-- ---- the loop

-- the commands before what is left of the text have written what the writer got, and led to a world that the code's
-- stands for
pub record Progress (base : List ℕ) (w : World) (text : List ℕ) (kept : Kept) (rest : List ℕ) (old new : Option (List ℕ)) : Type 0 where
  pub bytes : ℕ
  pub enough : length rest ≤ bytes
  pub before : List Command
  pub said : List ℕ
  pub mid : World
  pub says : Says base w before said mid
  pub stands : Stands kept mid
  pub base_is : kept.base ≡ base
  pub commands_are : commands_of text ≡ read_before before (commands_within bytes rest)
  pub written : Appends old new said

-- before the first command
pub progress_start : (w : World) (text rest : List ℕ) (kept : Kept) (old : Option (List ℕ)) → Stands kept w → rest ≡ after_empty_lines text → length rest ≤ length text
    → Progress kept.base w text kept rest old old
unfolding commands_of
progress_start w text rest kept old stands rest_is within = record {
  bytes = length text;
  enough = within;
  before = [];
  said = [];
  mid = w;
  says = (refl, refl);
  stands = stands;
  base_is = refl;
  commands_are = ap (λ (t : List ℕ). commands_within (length text) t) (sym rest_is);
  written = Appends-nil old;
}

-- a command after those read before
read_before-push : (before : List Command) (command : Command) (later : Commands) → read_before before (read_before (command ∷ []) later) ≡ read_before (before ++ command ∷ []) later
read_before-push before command later = ap (λ (l : List Command). record { list = l; bad = later.bad }) (sym (append_assoc before (command ∷ []) later.list))

-- one command more was performed, and its text written
pub progress_next : (base : List ℕ) (w : World) (text : List ℕ) (kept next_kept : Kept) (rest next : List ℕ) (old mid new : Option (List ℕ)) (said bytes : List ℕ)
    → Progress base w text kept rest old mid → 0 < length rest → IsFirstPerformed kept rest said next next_kept → length next < length rest → bytes ≡ said → Appends mid new bytes
    → Progress base w text next_kept next old new
progress_next base w text kept next_kept rest next old mid new said bytes p some first shorter bytes_are wrote =
    let command = first.command in
    let turn = commands_next p.bytes rest next first.after command some p.enough first.found first.rest_is shorter in
    let reached = first.performed.1 p.mid p.stands in
    let performs : Performs base p.mid command said reached.next = subst (λ (b : List ℕ). Performs b p.mid command said reached.next) p.base_is reached.written in
    record {
      bytes = turn.0;
      enough = turn.1;
      before = p.before ++ command ∷ [];
      said = p.said ++ said;
      mid = reached.next;
      says = says_push base w p.before p.said p.mid command said reached.next p.says performs;
      stands = reached.kept;
      base_is = first.performed.0 ∙ p.base_is;
      commands_are = p.commands_are ∙ ap (read_before p.before) turn.2 ∙ read_before-push p.before command (commands_within turn.0 next);
      written = Appends-trans old mid new p.said said p.written (subst (λ (b : List ℕ). Appends mid new b) bytes_are wrote);
    }

-- all commands are done
all_said : (base : List ℕ) (w : World) (text : List ℕ) (kept : Kept) (rest : List ℕ) (old new : Option (List ℕ)) (bad : Option (List ℕ)) (p : Progress base w text kept rest old new)
    → commands_within p.bytes rest ≡ record { list = []; bad = bad }
    → Says base w (commands_of text).list p.said p.mid × ((commands_of text).bad ≡ bad)
all_said base w text kept rest old new bad p last =
    let all : commands_of text ≡ record { list = p.before; bad = bad } =
    p.commands_are ∙ ap (read_before p.before) last ∙ ap (λ (l : List Command). record { list = l; bad = bad }) (append-nil p.before) in
    (subst (λ (l : List Command). Says base w l p.said p.mid) (sym (ap (λ (c : Commands). c.list) all)) p.says, ap (λ (c : Commands). c.bad) all)

-- the loop ends at the end of the text
pub progress_end : (base : List ℕ) (w : World) (script text : List ℕ) (kept : Kept) (rest : List ℕ) (old new : Option (List ℕ)) (u : Unit {0})
    → Progress base w text kept rest old new → length rest ≡ 0 → ReplaysFrom base w script text old new (Ok u)
progress_end base w script text kept rest old new u p none =
    let all = all_said base w text kept rest old new None p (commands_none p.bytes rest none) in
    (p.said, (p.mid, all.0), p.written, ap (option_map (number_of_line script)) all.1)

-- it ends at a bad line
pub progress_bad : (base : List ℕ) (w : World) (script text : List ℕ) (kept : Kept) (rest : List ℕ) (old new : Option (List ℕ)) (n : ℕ)
    → Progress base w text kept rest old new → 0 < length rest → command_at rest ≡ None → n ≡ number_of_line script rest → ReplaysFrom base w script text old new (Err (BadLine n))
progress_bad base w script text kept rest old new n p some is number =
    let all = all_said base w text kept rest old new (Some rest) p (commands_bad p.bytes rest some p.enough is) in
    (p.said, (p.mid, all.0), p.written, ap (option_map (number_of_line script)) all.1 ∙ ap (λ (k : ℕ). Some k) (sym number))

-- what was written is a beginning of each output
pub progress_broken : OnePage → (base : List ℕ) (w : World) (text : List ℕ) (kept : Kept) (rest : List ℕ) (old new : Option (List ℕ)) → Progress base w text kept rest old new
    → (output : List ℕ) → ((end : World) × Says base w (commands_of text).list output end) → AppendsBeginning old new output
progress_broken one base w text kept rest old new p output (end, says) =
    let parts = says_split base w p.before (commands_within p.bytes rest).list output end
    (subst (λ (l : List Command). Says base w l output end) (ap (λ (c : Commands). c.list) p.commands_are) says) in
    let same = says_once one base w p.before parts.0 parts.1 p.said p.mid parts.3 p.says in
    (p.said, parts.2, parts.5 ∙ ap (λ (t : List ℕ). t ++ parts.2) same.0, p.written)

regroup : (a b c d : List ℕ) → a ++ ((b ++ c) ++ d) ≡ (a ++ b) ++ (c ++ d)
regroup a b c d = simp append_assoc

-- and so is what was written before the text of a command was cut short
pub progress_unwritten : OnePage → (base : List ℕ) (w : World) (text : List ℕ) (kept next_kept : Kept) (rest next : List ℕ) (old mid new : Option (List ℕ)) (said : List ℕ)
    → Progress base w text kept rest old mid → 0 < length rest → IsFirstPerformed kept rest said next next_kept → length next < length rest → AppendsBeginning mid new said
    → (output : List ℕ) → ((end : World) × Says base w (commands_of text).list output end) → AppendsBeginning old new output
progress_unwritten one base w text kept next_kept rest next old mid new said p some performed shorter (done, more, said_is, wrote) output (end, says) =
    let command = performed.command in
    let turn = commands_next p.bytes rest next performed.after command some p.enough performed.found performed.rest_is shorter in
    let reached = performed.performed.1 p.mid p.stands in
    let performs : Performs base p.mid command said reached.next = subst (λ (b : List ℕ). Performs b p.mid command said reached.next) p.base_is reached.written in
    let all : (commands_of text).list ≡ p.before ++ (command ∷ (commands_within turn.0 next).list) = ap (λ (c : Commands). c.list) (p.commands_are ∙ ap (read_before p.before) turn.2) in
    let parts = says_split base w p.before (command ∷ (commands_within turn.0 next).list) output end (subst (λ (l : List Command). Says base w l output end) all says) in
    let same = says_once one base w p.before parts.0 parts.1 p.said p.mid parts.3 p.says in
    let first = parts.4 in
    let one_said = performs_once one base parts.1 command first.0 first.1 said reached.next first.3 (subst (λ (m : World). Performs base m command said reached.next) (sym same.1) performs) in (
      p.said ++ done,
      more ++ first.2,
      parts.5 ∙ ap (λ (t : List ℕ). t ++ parts.2) same.0 ∙ ap (λ (t : List ℕ). p.said ++ t) (first.5 ∙ ap (λ (t : List ℕ). t ++ first.2) (one_said.0 ∙ said_is))
          ∙ regroup p.said done more first.2,
      Appends-trans old mid new p.said done p.written wrote,
    )

-- ---- in the words of the code

-- it ends as a write fails
pub progress_cut : OnePage → (base : List ℕ) (w : World) (script text : List ℕ) (kept next_kept : Kept) (rest next : List ℕ)
    (old mid new : Option (List ℕ)) (said bytes : List ℕ) (result : Result (Unit {0}) ReplayFault)
    → Progress base w text kept rest old mid → 0 < length rest → IsFirstPerformed kept rest said next next_kept → length next < length rest → bytes ≡ said → AppendsBeginning mid new bytes
    → result ≡ Err Write → ReplaysFrom base w script text old new result
progress_cut one base w script text kept next_kept rest next old mid new said bytes result p some performed shorter bytes_are wrote result_is =
    subst (λ (r : Result (Unit {0}) ReplayFault). ReplaysFrom base w script text old new r) (sym result_is)
    (progress_unwritten one base w text kept next_kept rest next old mid new said p some performed shorter (subst (λ (b : List ℕ). AppendsBeginning mid new b) bytes_are wrote))

-- what the loop's test says
pub some_left : (rest : List ℕ) (empty : Bool) → empty ≡ (length rest == 0) → empty ≡ false → 0 < length rest
some_left [] empty is not_empty = let both : true ≡ false = sym is ∙ not_empty in cc
some_left (b ∷ rest) empty is not_empty = omega arith

pub none_left : (rest : List ℕ) (empty : Bool) → empty ≡ (length rest == 0) → empty ≡ true → length rest ≡ 0
none_left rest empty is all = let both : (length rest == 0) ≡ true = sym is ∙ all in grind (arith, common_steps)

-- ---- a whole script

-- a script is replayed as what it is read as
replays_as : (text : List ℕ) (script : Script) (old new : Option (List ℕ)) (result : Result (Unit {0}) ReplayFault) → script_of text ≡ script
    → Replayed (Writes script.start script.commands.list) (option_map (number_of_line text) script.commands.bad) old new result → Replays text old new result
replays_as text script old new result is replayed =
    subst (λ (s : Script). Replayed (Writes s.start s.commands.list) (option_map (number_of_line text) s.commands.bad) old new result) (sym is) replayed

-- a script of empty lines
script_none : (text rest : List ℕ) → rest ≡ after_empty_lines text → length rest ≡ 0 → script_of text ≡ record { start = None; commands = record { list = []; bad = None } }
unfolding script_of
script_none text [] rest_is none = ap script_from (sym rest_is)
script_none text (b ∷ rest) rest_is none = absurd (omega arith)

-- a script with a first line
script_at : (text rest : List ℕ) → rest ≡ after_empty_lines text → 0 < length rest → script_of text ≡ script_begun_by rest (start_at rest)
unfolding script_of
script_at text [] rest_is some = absurd (omega arith)
script_at text (b ∷ rest) rest_is some = ap script_from (sym rest_is)

-- nothing is written of the first
pub replays_nothing : (text rest : List ℕ) (old new : Option (List ℕ)) (u : Unit {0}) → rest ≡ after_empty_lines text → length rest ≡ 0 → Appends old new [] → Replays text old new (Ok u)
replays_nothing text rest old new u rest_is none written = replays_as text _ old new (Ok u) (script_none text rest rest_is none) ([], refl, written, refl)

-- nor of one with a bad first line
pub replays_bad_start : (text rest : List ℕ) (old new : Option (List ℕ)) (n : ℕ) → rest ≡ after_empty_lines text → 0 < length rest → start_at rest ≡ None → n ≡ number_of_line text rest
    → Appends old new [] → Replays text old new (Err (BadLine n))
replays_bad_start text rest old new n rest_is some is number written =
    replays_as text _ old new (Err (BadLine n)) (script_at text rest rest_is some ∙ ap (script_begun_by rest) is) ([], refl, written, ap (λ (k : ℕ). Some k) (sym number))

-- the commands of any other are replayed in a new world
pub replays_on : (text rest after : List ℕ) (begin : Start) (kept : Kept) (old new : Option (List ℕ)) (result : Result (Unit {0}) ReplayFault) → rest ≡ after_empty_lines text → 0 < length rest
    → start_at rest ≡ Some (begin, after) → Stands kept (start begin.replicas) → kept.base ≡ begin.base
    → ((w : World) → Stands kept w → ReplaysFrom kept.base w text after old new result) → Replays text old new result
replays_on text rest after begin kept old new result rest_is some is stands base_is replayed =
    replays_as text _ old new result (script_at text rest rest_is some ∙ ap (script_begun_by rest) is)
    (subst (λ (b : List ℕ). ReplaysFrom b (start begin.replicas) text after old new result) base_is (replayed (start begin.replicas) stands))
