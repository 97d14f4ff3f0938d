use Rattle.std.proofs.Common.{rules, List, ℕ, ◌++◌, ◌∙◌, ap, sym}
use Rattle.std.specs.Prelude.{codes}
use Rattle.service_status.specs.Exposition.{first_labels, label_text}
use Rattle.service_status.specs.Labels.{as_label, as_labels}
use Rattle.service_status.proofs.LabelLemmas.{braced, joined}
use Rattle.service_status.proofs.exposition.push_labels.Goals as goal

pub returns : goal.returns
returns c =
    let out = c.args.out.now.items in
    let first = as_labels c.args.labels.now in
    let last = as_label c.args.last in
    let whole =
    ap (λ (t : List ℕ). t ++ codes "}")
    (c.in_ok-push_label.ensures
    ∙ ap (λ (t : List ℕ). t ++ label_text last)
    (c.in_ok-push_first.ensures ∙ ap (λ (t : List ℕ). t ++ first_labels first) c.in_ok-extend_from_slice.ensures.items))
    ∙ joined out (codes "{") (first_labels first) (label_text last) (codes "}")
    ∙ ap (λ (t : List ℕ). out ++ t) (sym (braced first last)) in
    rw (sym whole) (search rules)
