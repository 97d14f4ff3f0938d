use Rattle.std.proofs.Common.{List, ℕ, ◌++◌, ◌∙◌, ap, codes}
use Rattle.timemap_formats.specs.Addresses.{itself_at}
use Rattle.timemap_formats.specs.Cdxj.{with_quoted}
use Rattle.timemap_formats.proofs.WritingLemmas.{three_written}
use Rattle.timemap_formats.proofs.cdxj.push_name.Goals as goal

pub returns : goal.returns
returns c =
    let first = c.extend_from_slice.new.self.items in
    three_written c.args.out.now.items first c.push_quoted.new.out.items c.extend_from_slice-2.new.self.items
    _ (with_quoted (codes "!id {\"uri\": ") (itself_at (codes "cdxj") c.args.head.now) (codes "}\n")) _
    c.in_ok-extend_from_slice.ensures.items
    (c.in_ok-push_quoted.ensures
    ∙ ap (λ (t : List ℕ). first ++ with_quoted (codes "!id {\"uri\": ") t (codes "}\n")) (c.as_str.ensures.value ∙ c.in_ok-itself.ensures))
    c.in_ok-extend_from_slice-2.ensures.items
