use Rattle.std.specs.Arc.{arc_value}
use Rattle.question_threads.specs.Jobs.{MayAnswer, any_fault, jobs_of}
use Rattle.question_threads.proofs.asking.ask_one.Given as goal

-- the jobs of these settings, and what may be fetched by them
abbrev pub ghosts-answer_one : goal.ghosts-answer_one
ghosts-answer_one g a = record {
  jobs = jobs_of (arc_value a.sources);
  answers = MayAnswer (arc_value a.sources);
  faults = any_fault;
}
