use Rattle.replica_world.proofs.Reached.{commands_run, question_of_merges, answers_twice}
use Rattle.replica_world.proofs.replaying.laws.scripts_are_runs.Goals as goal

pub returns : goal.returns
returns c = record { runs = commands_run c.one_page.ensures; replies = question_of_merges c.one_page.ensures; twice = answers_twice c.one_page.ensures }
