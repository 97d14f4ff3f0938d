use Rattle.std.proofs.Common.{List, ℕ, ◌++◌, ◌∙◌, ap, codes}
use Rattle.timemap_formats.specs.Addresses.{timegate_at}
use Rattle.timemap_formats.specs.Cdxj.{with_quoted}
use Rattle.timemap_formats.proofs.WritingLemmas.{two_written}
use Rattle.timemap_formats.proofs.cdxj.push_original.Goals as goal

pub returns : goal.returns
returns c =
    let out = c.args.out.now.items in
    let first = c.push_quoted.new.out.items in
    two_written out first c.push_quoted-2.new.out.items
    (with_quoted (codes "!meta {\"original_uri\": ") c.args.head.now.original (codes "}\n"))
    (with_quoted (codes "!meta {\"timegate_uri\": ") (timegate_at c.args.head.now) (codes "}\n"))
    (c.in_ok-push_quoted.ensures
    ∙ ap (λ (t : List ℕ). out ++ with_quoted (codes "!meta {\"original_uri\": ") t (codes "}\n")) c.as_str-original.ensures.value)
    (c.in_ok-push_quoted-2.ensures
    ∙ ap (λ (t : List ℕ). first ++ with_quoted (codes "!meta {\"timegate_uri\": ") t (codes "}\n")) (c.as_str.ensures.value ∙ c.in_ok-timegate.ensures))
