use Rattle.std.proofs.Common.{List, ℕ, ◌++◌, ◌∙◌, ap, sym, append_assoc}
use Rattle.std.specs.Prelude.{flat_map}
use Rattle.std.proofs.lemmas.Grind.{flat_map-append}
use Rattle.service_status.specs.Exposition.{sample_line}
use Rattle.service_status.specs.Metrics.{name_of}
use Rattle.service_status.specs.Samples.{lines_of}
use Rattle.service_status.proofs.Loops.{one_written}
use Rattle.service_status.proofs.writing.push_each.Goals as goal

pub loop-left-preserved : goal.loop-left-preserved
loop-left-preserved g c =
    let m = c.args.metric in
    let samples = g.T.Sampled.samples m in
    let out = c.loop-left.out.items in
    let x = c.one-item.result in
    one_written (λ xs. lines_of m (flat_map samples xs)) out c.push_samples.new.out.items (c.args.out.now.items ++ lines_of m (flat_map samples c.args.each.now))
    c.loop-left.left.now x
    c.in-len1-up.len_at_least c.one-item.is
    (λ rest. ap (λ (t : List ℕ). t ++ lines_of m (flat_map samples rest)) c.in_ok-push_samples.ensures
    ∙ append_assoc out (lines_of m (samples x)) (lines_of m (flat_map samples rest))
    ∙ ap (λ (t : List ℕ). out ++ t) (sym (flat_map-append (sample_line (name_of m)) (samples x) (flat_map samples rest))))
    c.loop-left.invariant
