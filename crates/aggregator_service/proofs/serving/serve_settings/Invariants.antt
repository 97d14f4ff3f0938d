use Rattle.std.specs.Prelude.{⊤}
use Rattle.std.specs.Arc.{arc_value}
use Rattle.harvest_workers.specs.Errands.{archive_of}
use Rattle.service_threads.specs.Jobs.{IsJobOf, MayAnswer}
use Rattle.aggregator_service.proofs.serving.serve_settings.Given as goal

-- the service begins with the merger as it is then
abbrev pub ghosts-serve_opened-P-Begins : goal.ghosts-serve_opened-P-Begins
ghosts-serve_opened-P-Begins g a = record { begun = a.opened.merger }

-- the jobs of these settings, and what may be fetched by them
abbrev pub ghosts-serve_opened-P-WalkRules : goal.ghosts-serve_opened-P-WalkRules
ghosts-serve_opened-P-WalkRules g a = record {
  jobs = λ errand. IsJobOf (arc_value a.settings.now) (archive_of errand);
  answers = MayAnswer (arc_value a.settings.now);
  faults = λ _ _. ⊤;
}

-- the base and the forms of these settings
abbrev pub ghosts-serve_opened-P-NamesBase : goal.ghosts-serve_opened-P-NamesBase
ghosts-serve_opened-P-NamesBase g a = record { base = (arc_value a.settings.now).base }

abbrev pub ghosts-serve_opened-P-NamesForms : goal.ghosts-serve_opened-P-NamesForms
ghosts-serve_opened-P-NamesForms g a = record { forms = (arc_value a.settings.now).forms }
