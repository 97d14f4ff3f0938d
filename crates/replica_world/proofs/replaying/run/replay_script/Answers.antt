use Rattle.std.proofs.Common.{◌≡◌, ◌<◌, ◌∙◌, Err, None, Some, length, arith, ap, sym}
use Rattle.std.proofs.lemmas.Result.{err_from_is_err_and}
use Rattle.replica_world.specs.declared.replaying.fault.ReplayFault.{ReplayFault}
use Rattle.replica_world.specs.declared.replaying.fault.ReplayFault.TheVariants.{NoMemory}
use Rattle.replica_world.specs.Script.{start_at}
use Rattle.replica_world.specs.Spelled.{start_view}
use Rattle.replica_world.proofs.Progress.{some_left, none_left}
use Rattle.replica_world.proofs.Ends.{start_end, end_within}
use Rattle.replica_world.proofs.Streams.{if_told, left_told, stream_nothing, stream_bad, stream_on}
use Rattle.replica_world.proofs.Windows.{nothing_read, reads_dropped, dropped_to, reader_blamed_on, text_told}
use Rattle.replica_world.proofs.replaying.run.replay_script.Goals as goal

pub returns-then-is_empty-clause-replays : goal.returns-then-is_empty-clause-replays
returns-then-is_empty-clause-replays g c =
    let read = c.in_ok-await_part.ensures.on.reads _ (nothing_read c.args.window.now _ c.requires) in
    let none : length c.await_part.new.window.bytes ≡ 0 = ap length (sym c.bytes.ensures) ∙ none_left _ _ c.is_empty.ensures c.if-is_empty.true in
    if_told _ _ (λ script is.
    stream_nothing script c.await_part.new.window _ _ _ _ (left_told _ script _ _ is read) (text_told c.args.window.now _ _ _ script c.requires is c.in_ok-await_part.ensures.on.text)
    c.in_ok-await_part.ensures.whole none c.in_ok-await_part.ensures.kept)

pub returns-then-is_empty-clause-reader : goal.returns-then-is_empty-clause-reader
returns-then-is_empty-clause-reader g c =
    let read = c.in_ok-await_part.ensures.on.reads _ (nothing_read c.args.window.now _ c.requires) in
    read.failures

pub returns-in_err-start-clause-reader : goal.returns-in_err-start-clause-reader
returns-in_err-start-clause-reader g c =
    let read = c.in_ok-await_part.ensures.on.reads _ (nothing_read c.args.window.now _ c.requires) in
    let p = err_from_is_err_and c.from_residual-in_err-start.result c.from_residual-in_err-start.ensures.1 in
    reader_blamed_on _ _ _ NoMemory (p.1 ∙ ap (λ (e : ReplayFault). Err e) p.2) read.failures

pub returns-in_default-clause-replays : goal.returns-in_default-clause-replays
returns-in_default-clause-replays g c =
    let read = c.in_ok-await_part.ensures.on.reads _ (nothing_read c.args.window.now _ c.requires) in
    let some : 0 < length c.await_part.new.window.bytes = omega (arith, ap length c.bytes.ensures, some_left _ _ c.is_empty.ensures c.if-is_empty.false) in
    let none : start_at c.await_part.new.window.bytes ≡ None = ap start_at (sym c.bytes-2.ensures) ∙ sym (rw c.in_default.is at c.in_ok-start.ensures.found) in
    if_told _ _ (λ script is.
    stream_bad script c.await_part.new.window _ _ _ _ (left_told _ script _ _ is read) (text_told c.args.window.now _ _ _ script c.requires is c.in_ok-await_part.ensures.on.text)
    c.in_ok-await_part.ensures.whole c.in_ok-await_part.ensures.front some none c.line_number.ensures c.in_ok-await_part.ensures.kept)

pub returns-in_default-clause-reader : goal.returns-in_default-clause-reader
returns-in_default-clause-reader g c =
    let read = c.in_ok-await_part.ensures.on.reads _ (nothing_read c.args.window.now _ c.requires) in
    read.failures

pub keep-requires : goal.keep-requires
keep-requires g c =
    let at : start_at c.await_part.new.window.bytes ≡ Some (start_view c.in-Some.start, c.in-Some.rest.now) =
    ap start_at (sym c.bytes-2.ensures) ∙ sym (rw c.in-Some.is at c.in_ok-start.ensures.found) in
    end_within _ _ (start_end _ _ _ at)

pub returns-in_err-world-clause-reader : goal.returns-in_err-world-clause-reader
returns-in_err-world-clause-reader g c =
    let read = c.in_ok-await_part.ensures.on.reads _ (nothing_read c.args.window.now _ c.requires) in
    let p = err_from_is_err_and c.from_residual-in_err-world.result c.from_residual-in_err-world.ensures.1 in
    reader_blamed_on _ _ _ NoMemory (p.1 ∙ ap (λ (e : ReplayFault). Err e) p.2) read.failures

pub returns-clause-reader : goal.returns-clause-reader
returns-clause-reader g c =
    let read = c.in_ok-await_part.ensures.on.reads _ (nothing_read c.args.window.now _ c.requires) in
    c.replay_commands.ensures.reader _ (reads_dropped _ _ _ _ read c.keep.ensures.drops)

pub returns-clause-replays : goal.returns-clause-replays
returns-clause-replays g c =
    let read = c.in_ok-await_part.ensures.on.reads _ (nothing_read c.args.window.now _ c.requires) in
    let some : 0 < length c.await_part.new.window.bytes = omega (arith, ap length c.bytes.ensures, some_left _ _ c.is_empty.ensures c.if-is_empty.false) in
    let at : start_at c.await_part.new.window.bytes ≡ Some (start_view c.in-Some.start, c.in-Some.rest.now) =
    ap start_at (sym c.bytes-2.ensures) ∙ sym (rw c.in-Some.is at c.in_ok-start.ensures.found) in
    let kept : c.keep.new.self.bytes ≡ c.in-Some.rest.now = dropped_to _ _ _ c.keep.ensures.drops (start_end _ _ _ at) c.keep.ensures.left in
    let dropped = reads_dropped _ _ _ _ read c.keep.ensures.drops in
    if_told _ _ (λ script is.
    stream_on script c.await_part.new.window _ _ _ _ (start_view c.in-Some.start) c.in-Some.rest.now _ _ _ (left_told _ script _ _ is read)
    (text_told c.args.window.now _ _ _ script c.requires is c.in_ok-await_part.ensures.on.text) c.in_ok-await_part.ensures.whole c.in_ok-await_part.ensures.front some at kept
    c.in_ok-world.ensures.stands c.in_ok-world.ensures.base c.in_ok-await_part.ensures.kept
    (λ more told w stands. c.replay_commands.ensures.replays _ script more is told dropped w stands))
