use Rattle.std.proofs.Common.{ap, sym, ◌∙◌}
use Rattle.service_settings.specs.declared.settings.Settings.{Settings}
use Rattle.round_standing.specs.Listing.{list_of}
use Rattle.round_course.proofs.CourseLemmas.{known_at}
use Rattle.round_course.proofs.course.Course.is_known.Goals as goal

pub returns : goal.returns
returns g c = λ young.
    (let settings = c.settings-settings.ensures in
    let all = c.args.self.now.standing.originals.all in
    known_at _ _ _ _ _ _ c.args.turn c.in-Some.archive.now c.in-Some.original.now c.second_now-second.result.0 settings
    c.merger-merger.ensures.merger (c.list-list.ensures ∙ ap (λ (it : Settings). list_of all it.originals) settings)
    c.in-Some.ensures.archive c.in-Some.ensures.original (sym c.is_young.ensures ∙ young))
