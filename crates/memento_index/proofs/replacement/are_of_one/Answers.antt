use Rattle.std.proofs.lemmas.Bool.{eqb-true}
use Rattle.memento_index.proofs.Gathering.{are_of_one}
use Rattle.memento_index.proofs.replacement.are_of_one.Goals as goal

pub returns : goal.returns
returns c same =
    are_of_one c.args.left.now c.args.right.now c.revisions.result c.revisions-else-revisions-ne1.result c.revision.result c.revision-2.result
    c.revisions.ensures c.revisions-else-revisions-ne1.ensures c.if-revisions-ne1.false c.if-revisions-ne1-2.false
    c.revision.ensures c.revision-2.ensures (eqb-true c.revision.result c.revision-2.result same)
