use Rattle.std.proofs.Common.{◌≡◌, false, length, Some, sym, ap, ◌∙◌}
use Rattle.std.proofs.lemmas.Bool.{eqb-true}
use Rattle.std.proofs.lemmas.List.{nil_from_length}
use Rattle.std.proofs.lemmas.Result.{err_from_is_err_and}
use Rattle.std.specs.Prelude.{◌==◌}
use Rattle.link_format.specs.Bytes.{is_blank}
use Rattle.link_format.specs.Scan.{past, element_at}
use Rattle.link_format.specs.Spans.{links_from}
use Rattle.link_format.specs.Walk.{in_list, left_by}
use Rattle.link_format.proofs.Begins.{element_ends, element_goes_on}
use Rattle.link_format.proofs.Kept.{reading_fails, reading_goes_on, step_stuck, step_ends, links_shrink}
use Rattle.link_format.proofs.Sound.{after_byte_is}
use Rattle.link_format.proofs.Walks.{blanks_in_list, comma_walks, comma_stops, left_as, left_here}
use Rattle.link_format.proofs.scan.step.Goals as goal

pub returns-in_err-found-clause-links : goal.returns-in_err-found-clause-links
returns-in_err-found-clause-links c =
    let p = err_from_is_err_and c.from_residual.result c.from_residual.ensures.1 in
    rw p.1 (reading_fails c.args.text.now (ap element_at (sym c.skip_while.ensures) ∙ c.in_err-found.ensures.0))

pub returns-in_err-found-clause-place : goal.returns-in_err-found-clause-place
returns-in_err-found-clause-place c =
    let p = err_from_is_err_and c.from_residual.result c.from_residual.ensures.1 in
    let walked = left_as in_list in_list c.args.text.now (past is_blank c.args.text.now) (blanks_in_list c.args.text.now) in
    rw p.1 (p.2 ∙ c.in_err-found.ensures.1 ∙ ap (left_by in_list) c.skip_while.ensures ∙ sym walked)

pub returns-then-is_empty-clause-begins : goal.returns-then-is_empty-clause-begins
returns-then-is_empty-clause-begins c =
    let h : element_at (past is_blank c.args.text.now) ≡ Some (links_from c.in_ok-found.found, c.in_ok-found.after.now) = ap element_at (sym c.skip_while.ensures) ∙ c.in_ok-found.ensures in
    element_ends c.args.text.now (links_from c.in_ok-found.found, c.in_ok-found.after.now) h (nil_from_length c.in_ok-found.after.now (eqb-true _ _ (sym c.is_empty.ensures ∙ c.if-is_empty.true)))

pub returns-then-is_empty-clause-links : goal.returns-then-is_empty-clause-links
returns-then-is_empty-clause-links c =
    let h : element_at (past is_blank c.args.text.now) ≡ Some (links_from c.in_ok-found.found, c.in_ok-found.after.now) = ap element_at (sym c.skip_while.ensures) ∙ c.in_ok-found.ensures in
    step_ends c.args.text.now (links_from c.in_ok-found.found, c.in_ok-found.after.now) h (sym c.is_empty.ensures ∙ c.if-is_empty.true)

pub returns-in-Some-clause-links : goal.returns-in-Some-clause-links
returns-in-Some-clause-links c =
    let h : element_at (past is_blank c.args.text.now) ≡ Some (links_from c.in_ok-found.found, c.in_ok-found.after.now) = ap element_at (sym c.skip_while.ensures) ∙ c.in_ok-found.ensures in
    sym (reading_goes_on c.args.text.now c.in-Some.rest.now (links_from c.in_ok-found.found, c.in_ok-found.after.now) h c.in-Some.ensures)

pub returns-in-Some-clause-begins : goal.returns-in-Some-clause-begins
returns-in-Some-clause-begins c =
    let h : element_at (past is_blank c.args.text.now) ≡ Some (links_from c.in_ok-found.found, c.in_ok-found.after.now) = ap element_at (sym c.skip_while.ensures) ∙ c.in_ok-found.ensures in
    element_goes_on c.args.text.now c.in-Some.rest.now (links_from c.in_ok-found.found, c.in_ok-found.after.now) h (after_byte_is 44 c.in_ok-found.after.now c.in-Some.rest.now c.in-Some.ensures)

pub returns-in-Some-clause-place : goal.returns-in-Some-clause-place
returns-in-Some-clause-place c =
    let h : element_at (past is_blank c.args.text.now) ≡ Some (links_from c.in_ok-found.found, c.in_ok-found.after.now) = ap element_at (sym c.skip_while.ensures) ∙ c.in_ok-found.ensures in
    sym (left_as in_list in_list c.args.text.now c.in-Some.rest.now (comma_walks c.args.text.now c.in-Some.rest.now (links_from c.in_ok-found.found, c.in_ok-found.after.now) h c.in-Some.ensures))

pub returns-in-Some-clause-shorter : goal.returns-in-Some-clause-shorter
returns-in-Some-clause-shorter c =
    let h : element_at (past is_blank c.args.text.now) ≡ Some (links_from c.in_ok-found.found, c.in_ok-found.after.now) = ap element_at (sym c.skip_while.ensures) ∙ c.in_ok-found.ensures in
    links_shrink c.args.text.now c.in-Some.rest.now (links_from c.in_ok-found.found, c.in_ok-found.after.now) h c.in-Some.ensures

pub returns-in-None-clause-links : goal.returns-in-None-clause-links
returns-in-None-clause-links c =
    let h : element_at (past is_blank c.args.text.now) ≡ Some (links_from c.in_ok-found.found, c.in_ok-found.after.now) = ap element_at (sym c.skip_while.ensures) ∙ c.in_ok-found.ensures in
    step_stuck c.args.text.now (links_from c.in_ok-found.found, c.in_ok-found.after.now) h c.in-None.ensures (sym c.is_empty.ensures ∙ c.if-is_empty.false)

pub returns-in-None-clause-place : goal.returns-in-None-clause-place
returns-in-None-clause-place c =
    let h : element_at (past is_blank c.args.text.now) ≡ Some (links_from c.in_ok-found.found, c.in_ok-found.after.now) = ap element_at (sym c.skip_while.ensures) ∙ c.in_ok-found.ensures in
    let z : (length c.in_ok-found.after.now == 0) ≡ false = sym c.is_empty.ensures ∙ c.if-is_empty.false in
    sym (left_here in_list c.args.text.now c.in_ok-found.after.now (comma_stops c.args.text.now (links_from c.in_ok-found.found, c.in_ok-found.after.now) h c.in-None.ensures z))
