use Rattle.std.proofs.Common.{sym, ap, ◌∙◌}
use Rattle.std.specs.Arc.{arc_value}
use Rattle.harvest_lattice.specs.Knowledge.{mementos_of}
use Rattle.harvest_lattice.specs.Shapes.{kept_by}
use Rattle.harvest_lattice.specs.declared.shape.Shape.{Shape}
use Rattle.harvest_lattice.proofs.Outcomes.{if_ok_shows}
use Rattle.harvest_lattice.proofs.ShownLemmas.{shown_alone}
use Rattle.harvest_lattice.proofs.shape.Shape.shown.Goals as goal

pub returns-in-One : goal.returns-in-One
returns-in-One c =
    if_ok_shows (λ x. arc_value x) c.share.result (shown_alone _ c.in-One.first
    ∙ ap (λ (shape : Shape). mementos_of (kept_by shape)) (sym c.in-One.is)) c.share.ensures
