use Rattle.std.proofs.Common.{◌≡◌, ℕ, Bool, ◌+◌, ◌≤◌, List, cond, get_or, length, take_all, sym, ap, ◌∙◌, arith}
use Rattle.std.specs.FinMap as fmap
use Rattle.std.specs.List.{filter}
use Rattle.std.proofs.lemmas.List.Filters.{length-filter_more}
use Rattle.round_values.specs.Ahead.{is_ahead}
use Rattle.round_values.proofs.AheadLemmas.{at_most_one, key_at, keys_length, one_if}
use Rattle.round_values.proofs.ahead.count_in.Goals as goal

pub overflow_add-count : goal.overflow_add-count
overflow_add-count c =
    let few = c.loop-k.invariant.few in
    let test = c.loop-k-test.true in
    let one : c.from-count.result ≤ 1 = at_most_one c.is_ahead.result c.from-count.result c.from-count.ensures in
    omega (arith, few, test, one, c.revisions-k-end.type_inv)

pub loop-k-preserved : goal.loop-k-preserved
loop-k-preserved c =
    let last = c.args.last.0 in
    let keys = fmap.keys c.args.entry.now.revisions in
    let k = c.loop-k.k in
    let at = key_at keys k c.revision.result c.revision.ensures in
    let one : c.from-count.result ≤ 1 = at_most_one c.is_ahead.result c.from-count.result c.from-count.ensures in
    let same : c.from-count.result ≡ cond (is_ahead last (get_or keys k 0)) 1 0 =
    c.from-count.ensures ∙ (one_if c.is_ahead.result ∙ ap (λ (b : Bool). cond b 1 0) (c.is_ahead.ensures ∙ ap (is_ahead last) (sym at.1))) in
    let few = c.loop-k.invariant.few in
    record {
      count = (λ i. c.loop-k.invariant.count i + same i) ∙ sym (length-filter_more (is_ahead last) keys k 0 at.0);
      few = omega (arith, few, one);
    }

pub returns : goal.returns
returns c =
    let keys = fmap.keys c.args.entry.now.revisions in
    let all : c.revisions-k-end.result ≡ length keys = c.revisions-k-end.ensures ∙ keys_length c.args.entry.now.revisions in
    let test = c.loop-k-test.false in
    let past : length keys ≤ c.loop-k.k = omega (arith, all, test) in
    c.loop-k.invariant.count ∙ ap (λ (ks : List ℕ). length (filter (is_ahead c.args.last.0) ks)) (take_all c.loop-k.k keys past)
