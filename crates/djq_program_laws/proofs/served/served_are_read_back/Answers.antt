-- What lines of a log give is sayable, and what is sent from there on is read back by a mirror.
use Rattle.djq_program_laws.specs.Served.{AreReadBack}
use Rattle.djq_program_laws.proofs.ServedRuns.{served_are_read_back, serve_too, replay_too}
use Rattle.djq_program_laws.proofs.served.served_are_read_back.Goals as goal

pub returns-clause-every : goal.returns-clause-every
returns-clause-every c = served_are_read_back

pub returns-clause-serve : goal.returns-clause-serve
returns-clause-serve c = serve_too AreReadBack served_are_read_back

pub returns-clause-replay : goal.returns-clause-replay
returns-clause-replay c = replay_too AreReadBack served_are_read_back
