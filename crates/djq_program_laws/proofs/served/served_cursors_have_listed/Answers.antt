-- What lines of a log give is a state to start from, and along each run from one finished cursors have listed.
use Rattle.djq_program_laws.specs.Served.{HaveListed}
use Rattle.djq_program_laws.proofs.ServedRuns.{served_have_listed, serve_too, replay_too}
use Rattle.djq_program_laws.proofs.served.served_cursors_have_listed.Goals as goal

pub returns-clause-every : goal.returns-clause-every
returns-clause-every c = served_have_listed

pub returns-clause-serve : goal.returns-clause-serve
returns-clause-serve c = serve_too HaveListed served_have_listed

pub returns-clause-replay : goal.returns-clause-replay
returns-clause-replay c = replay_too HaveListed served_have_listed
