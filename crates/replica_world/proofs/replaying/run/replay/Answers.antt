use Rattle.replica_world.proofs.Windows.{read_failed, read_of_few_failed, no_read_failed}
use Rattle.replica_world.proofs.Written.{write_failed, no_write_failed}
use Rattle.replica_world.proofs.replaying.run.replay.Goals as goal

pub returns-clause-read : goal.returns-clause-read
returns-clause-read g c = read_failed _ _ c.replay_script.result c.replay_script.ensures.reader

pub returns-clause-read_of_few : goal.returns-clause-read_of_few
returns-clause-read_of_few g c = read_of_few_failed _ _ c.replay_script.result c.replay_script.ensures.reader

pub returns-clause-no_read_failed : goal.returns-clause-no_read_failed
returns-clause-no_read_failed g c = no_read_failed _ _ c.replay_script.result c.replay_script.ensures.reader

pub returns-clause-write : goal.returns-clause-write
returns-clause-write g c = write_failed c.replay_script.result _ _ c.replay_script.ensures.writer

pub returns-clause-no_write_failed : goal.returns-clause-no_write_failed
returns-clause-no_write_failed g c = no_write_failed c.replay_script.result _ _ c.replay_script.ensures.writer
