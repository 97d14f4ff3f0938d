use Rattle.std.proofs.lemmas.Bool.Decides.{same_from_decides}
use Rattle.link_format.proofs.Named.{same_decides}
use Rattle.link_format.proofs.params.is_same_name.Goals as goal

pub returns : goal.returns
returns c = same_from_decides _ _ c.eq_ignore_ascii_case.ensures.test (same_decides _ _)
