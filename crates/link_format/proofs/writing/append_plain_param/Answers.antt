use Rattle.link_format.proofs.Appended.{plain_pieces}
use Rattle.link_format.proofs.writing.append_plain_param.Goals as goal

pub returns-clause-ok : goal.returns-clause-ok
returns-clause-ok c =
    rw (c.in_ok-push.ensures.items, c.in_ok-extend_from_slice.ensures.items, c.in_ok-append_name.ensures.ok)
    (plain_pieces c.args.out.now.items c.args.name.now c.args.value.now c.requires)
