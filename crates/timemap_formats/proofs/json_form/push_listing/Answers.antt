use Rattle.std.proofs.Common.{List, ◌++◌, ◌∙◌, ap}
use Rattle.json.specs.Tree.{members_tokens}
use Rattle.timemap_formats.specs.declared.listing.Row.{Row}
use Rattle.timemap_formats.specs.Json.{last_members, listed_member}
use Rattle.timemap_formats.proofs.WritingLemmas.{object_written}
use Rattle.timemap_formats.proofs.json_form.push_listing.Goals as goal

pub returns : goal.returns
returns c =
    let head = c.args.listing.now.head in
    let first = c.push_first.new.out in
    object_written c.args.out.now first c.push_listed.new.out c.push_last.new.out _ _ (members_tokens (last_members head))
    c.in_ok-push_first.ensures
    (c.in_ok-push_listed.ensures (last_members head)
    ∙ ap (λ (rows : List Row). first ++ members_tokens (listed_member head.base rows (last_members head))) c.as_slice-rows.ensures)
    c.in_ok-push_last.ensures
