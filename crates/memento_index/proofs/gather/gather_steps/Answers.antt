use Rattle.std.proofs.Common.{◌≡◌, map, take, take_all, List, ℕ, Option, None, IfSome, sym, ap, subst, ◌∙◌}
use Rattle.std.specs.BTreeMap as tree
use Rattle.std.specs.Map.{lookup}
use Rattle.std.specs.BTreeMap.{is_at}
use Rattle.memento_time.specs.Mementos.{text_cmp}
use Rattle.harvest_lattice.specs.Lattice.{Key, Kept}
use Rattle.harvest_lattice.specs.Rows.{row_entry}
use Rattle.harvest_lattice.specs.declared.row.Row.{Row}
use Rattle.memento_index.specs.declared.counted.Steps.{Steps}
use Rattle.memento_index.specs.Lists.{steps_or_none, tally_of, FitsList, AreGathered}
use Rattle.memento_index.proofs.Gathering.{none_gathered, one_more_gathered, row_is_news, rows_turn}
use Rattle.memento_index.proofs.gather.gather_steps.Goals as goal

pub loop-row-init : goal.loop-row-init
loop-row-init c =
    let none : (o : List ℕ) → tree.get text_cmp c.new-all.result o ≡ None =
    λ o. ap (λ (es : List (List ℕ × Steps)). lookup (is_at (text_cmp o)) es) c.new-all.ensures.empty in
    record {
      gathered = none_gathered c.args.state.now c.new-all.result (λ o. ap (λ (s : Option Steps). steps_or_none s) (none o));
      fit = λ o. subst (λ (s : Option Steps). IfSome s (FitsList (tally_of c.args.lists.now o))) (sym (none o)) tt;
    }

pub gather_row-requires-clause-news : goal.gather_row-requires-clause-news
gather_row-requires-clause-news c = row_is_news c.args.state.now c.args.changes.now c.rows-row-items.result.now
    c.loop-row.row-index c.row-item.result c.requires c.rows-row-items.ensures c.loop-row-test.true c.row-item.is

pub loop-row-preserved : goal.loop-row-preserved
loop-row-preserved c =
    let rows = c.rows-row-items.result.now in
    let x = c.args.state.now in
    let item : Row = c.row-item.result in
    record {
      gathered = subst (λ (es : List (Key × Kept)). AreGathered x es c.gather_row.new.all)
          (sym (rows_turn rows c.loop-row.row-index item c.loop-row-test.true c.row-item.is))
          (one_more_gathered x (map row_entry (take c.loop-row.row-index rows)) (row_entry item) c.loop-row.all
          c.gather_row.new.all c.loop-row.invariant.gathered c.in_ok-gather_row.ensures.shifted
          c.in_ok-gather_row.ensures.others);
      fit = c.in_ok-gather_row.ensures.fit;
    }

pub returns-clause-gathered : goal.returns-clause-gathered
returns-clause-gathered c =
    let rows = c.rows-row-items.result.now in
    let all = take_all c.loop-row.row-index rows c.loop-row-test.false in
    subst (λ (es : List (Key × Kept)). AreGathered c.args.state.now es c.loop-row.all)
    (ap (λ (rs : List Row). map row_entry rs) all ∙ c.rows-row-items.ensures) c.loop-row.invariant.gathered
