use Rattle.std.proofs.Common.{ap, sym, ◌∙◌}
use Rattle.service_settings.specs.declared.settings.Settings.{Settings}
use Rattle.round_standing.specs.Listing.{list_of}
use Rattle.round_course.proofs.CourseLemmas.{withdrawn_at}
use Rattle.round_course.proofs.course.Course.is_withdrawn.Goals as goal

pub returns-in-Ok : goal.returns-in-Ok
returns-in-Ok g c = λ yes.
    (let settings = c.settings-settings.ensures in
    let all = c.args.self.now.standing.originals.all in
    withdrawn_at _ _ _ _ _ c.args.turn c.in-Some.archive.now c.in-Some.original.now settings
    (c.list-list.ensures ∙ ap (λ (it : Settings). list_of all it.originals) settings)
    c.in-Some.ensures.archive c.in-Some.ensures.original (sym c.in-Ok.ensures ∙ yes))
