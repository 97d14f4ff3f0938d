use Rattle.std.proofs.Common.{◌≡◌, ◌<◌, ◌∙◌, List, ℕ, Err, None, length, arith, ap, sym, subst, refl}
use Rattle.std.proofs.KnownBytes.{Keeps-refl}
use Rattle.std.proofs.lemmas.Result.{err_from_is_err_and}
use Rattle.replica_world.specs.declared.replaying.fault.ReplayFault.{ReplayFault}
use Rattle.replica_world.specs.declared.replaying.fault.ReplayFault.TheVariants.{NoMemory}
use Rattle.replica_world.specs.Script.{command_at}
use Rattle.replica_world.specs.Performing.{IsFirstPerformed}
use Rattle.replica_world.proofs.Progress.{some_left, none_left}
use Rattle.replica_world.proofs.WholeScript.{first_shorter}
use Rattle.replica_world.proofs.Ends.{first_end, end_within}
use Rattle.replica_world.proofs.Streams.{left_start, left_read, left_told, left_next, left_bad, left_end, left_broken, left_cut}
use Rattle.replica_world.proofs.Windows.{reads_dropped, dropped_to, room_used, reader_blamed_on}
use Rattle.replica_world.proofs.replaying.run.replay_commands.Goals as goal

pub commands-init : goal.commands-init
commands-init g c = record {
  reads = λ begun read. read;
  progress = λ begun script rest told left read w stands. left_start w _ _ rest _ _ stands left;
  failures = refl;
}

pub returns-in_err-await_part-clause-replays : goal.returns-in_err-await_part-clause-replays
returns-in_err-await_part-clause-replays g c = λ begun script rest told left read w stands.
    let p = err_from_is_err_and c.from_residual.result c.from_residual.ensures.1 in
    left_broken c.one_page.ensures script _ w _ _ _ _ _ _ _ _ _ (c.commands.invariant.progress begun script rest told left read w stands) c.in_err-await_part.ensures.kept
    c.in_err-await_part.ensures.fault (p.1 ∙ ap (λ (e : ReplayFault). Err e) p.2)

pub returns-in_err-await_part-clause-reader : goal.returns-in_err-await_part-clause-reader
returns-in_err-await_part-clause-reader g c = λ begun read.
    let p = err_from_is_err_and c.from_residual.result c.from_residual.ensures.1 in
    reader_blamed_on _ _ _ _ (p.1 ∙ ap (λ (e : ReplayFault). Err e) p.2) (c.in_err-await_part.ensures.reader begun (c.commands.invariant.reads begun read))

pub returns-then-is_empty-clause-replays : goal.returns-then-is_empty-clause-replays
returns-then-is_empty-clause-replays g c = λ begun script rest told left read w stands.
    let on = c.in_ok-await_part.ensures.on in
    let left_is = left_told begun script _ _ told (on.reads begun (c.commands.invariant.reads begun read)) in
    let progress = left_read _ w _ _ _ _ _ _ _ _ _ (c.commands.invariant.progress begun script rest told left read w stands) on.text c.in_ok-await_part.ensures.kept in
    let none : length c.await_part.new.window.bytes ≡ 0 = ap length (sym c.bytes.ensures) ∙ none_left _ _ c.is_empty.ensures c.if-is_empty.true in
    left_end script _ w _ _ _ _ _ _ _ left_is progress none c.in_ok-await_part.ensures.whole

pub returns-in_err-said-clause-replays : goal.returns-in_err-said-clause-replays
returns-in_err-said-clause-replays g c = λ begun script rest told left read w stands.
    let on = c.in_ok-await_part.ensures.on in
    let left_is = left_told begun script _ _ told (on.reads begun (c.commands.invariant.reads begun read)) in
    let progress = left_read _ w _ _ _ _ _ _ _ _ _ (c.commands.invariant.progress begun script rest told left read w stands) on.text c.in_ok-await_part.ensures.kept in
    let p = err_from_is_err_and c.from_residual-in_err-said.result c.from_residual-in_err-said.ensures.1 in
    left_broken c.one_page.ensures script _ w _ _ _ _ _ _ _ NoMemory _ progress (Keeps-refl _) tt (p.1 ∙ ap (λ (e : ReplayFault). Err e) p.2)

pub returns-in_default-clause-replays : goal.returns-in_default-clause-replays
returns-in_default-clause-replays g c = λ begun script rest told left read w stands.
    let on = c.in_ok-await_part.ensures.on in
    let left_is = left_told begun script _ _ told (on.reads begun (c.commands.invariant.reads begun read)) in
    let progress = left_read _ w _ _ _ _ _ _ _ _ _ (c.commands.invariant.progress begun script rest told left read w stands) on.text c.in_ok-await_part.ensures.kept in
    let some : 0 < length c.await_part.new.window.bytes = omega (arith, ap length c.bytes.ensures, some_left _ _ c.is_empty.ensures c.if-is_empty.false) in
    let none : command_at c.await_part.new.window.bytes ≡ None = ap command_at (sym c.bytes-in-commands.ensures) ∙ (rw c.in_default.is at c.in_ok-said.ensures) in
    left_bad script _ w _ _ _ _ _ _ _ left_is progress c.in_ok-await_part.ensures.front some c.in_ok-await_part.ensures.whole none c.line_number.ensures

pub returns-in_err-write-clause-replays : goal.returns-in_err-write-clause-replays
returns-in_err-write-clause-replays g c = λ begun script rest told left read w stands.
    let on = c.in_ok-await_part.ensures.on in
    let left_is = left_told begun script _ _ told (on.reads begun (c.commands.invariant.reads begun read)) in
    let progress = left_read _ w _ _ _ _ _ _ _ _ _ (c.commands.invariant.progress begun script rest told left read w stands) on.text c.in_ok-await_part.ensures.kept in
    let some : 0 < length c.await_part.new.window.bytes = omega (arith, ap length c.bytes.ensures, some_left _ _ c.is_empty.ensures c.if-is_empty.false) in
    let first : IsFirstPerformed c.commands.world c.await_part.new.window.bytes c.in-Some.said c.in-Some.rest.now c.perform_first.new.world =
    subst (λ (t : List ℕ). IsFirstPerformed c.commands.world t c.in-Some.said c.in-Some.rest.now c.perform_first.new.world) c.bytes-in-commands.ensures (rw c.in-Some.is at c.in_ok-said.ensures) in
    let p = err_from_is_err_and c.from_residual-in_err-write.result c.from_residual-in_err-write.ensures.1 in
    left_cut c.one_page.ensures script _ w _ _ _ _ _ _ _ _ _ _ _ left_is progress c.in_ok-await_part.ensures.front some c.in_ok-await_part.ensures.whole first c.in_err-write.ensures.err
    (rw (p.1, p.2) c.in_err-write.ensures.write)

pub keep-requires : goal.keep-requires
keep-requires g c =
    let first : IsFirstPerformed c.commands.world c.await_part.new.window.bytes c.in-Some.said c.in-Some.rest.now c.perform_first.new.world =
    subst (λ (t : List ℕ). IsFirstPerformed c.commands.world t c.in-Some.said c.in-Some.rest.now c.perform_first.new.world) c.bytes-in-commands.ensures (rw c.in-Some.is at c.in_ok-said.ensures) in
    end_within _ _ (first_end _ _ _ _ _ first)

pub commands-preserved : goal.commands-preserved
commands-preserved g c =
    let some : 0 < length c.await_part.new.window.bytes = omega (arith, ap length c.bytes.ensures, some_left _ _ c.is_empty.ensures c.if-is_empty.false) in
    let first : IsFirstPerformed c.commands.world c.await_part.new.window.bytes c.in-Some.said c.in-Some.rest.now c.perform_first.new.world =
    subst (λ (t : List ℕ). IsFirstPerformed c.commands.world t c.in-Some.said c.in-Some.rest.now c.perform_first.new.world) c.bytes-in-commands.ensures (rw c.in-Some.is at c.in_ok-said.ensures) in
    let kept : c.keep.new.self.bytes ≡ c.in-Some.rest.now = dropped_to _ _ _ c.keep.ensures.drops (first_end _ _ _ _ _ first) c.keep.ensures.left in
    record {
      reads = λ begun read. reads_dropped begun _ _ _ (c.in_ok-await_part.ensures.on.reads begun (c.commands.invariant.reads begun read)) c.keep.ensures.drops;
      progress = λ begun script rest told left read w stands.
          let on = c.in_ok-await_part.ensures.on in
          let left_is = left_told begun script _ _ told (on.reads begun (c.commands.invariant.reads begun read)) in
          let progress = left_read _ w _ _ _ _ _ _ _ _ _ (c.commands.invariant.progress begun script rest told left read w stands) on.text c.in_ok-await_part.ensures.kept in
          left_next script _ w _ _ _ _ _ _ _ _ _ _ _ left_is progress c.in_ok-await_part.ensures.front some c.in_ok-await_part.ensures.whole first c.in_ok-write.ensures.ok kept;
      failures = c.in_ok-write.ensures.not_failed ∙ (c.in_ok-await_part.ensures.writer ∙ c.commands.invariant.failures);
    }

pub commands-smaller : goal.commands-smaller
commands-smaller g c =
    let first : IsFirstPerformed c.commands.world c.await_part.new.window.bytes c.in-Some.said c.in-Some.rest.now c.perform_first.new.world =
    subst (λ (t : List ℕ). IsFirstPerformed c.commands.world t c.in-Some.said c.in-Some.rest.now c.perform_first.new.world) c.bytes-in-commands.ensures (rw c.in-Some.is at c.in_ok-said.ensures) in
    let shorter : length c.keep.new.self.bytes < length c.await_part.new.window.bytes = omega (arith, c.keep.ensures.left, first_shorter _ _ _ _ _ first) in
    let less = room_used _ _ c.keep.ensures.drops shorter in
    omega (arith, less, c.in_ok-await_part.ensures.on.room)
