-- What lines of a log give is a state to start from, and from there on cursors give what they should.
use Rattle.djq_program_laws.specs.Served.{StayLive}
use Rattle.djq_program_laws.proofs.ServedRuns.{served_stay_live, serve_too, replay_too}
use Rattle.djq_program_laws.proofs.served.served_stay_live.Goals as goal

pub returns-clause-every : goal.returns-clause-every
returns-clause-every c = served_stay_live

pub returns-clause-serve : goal.returns-clause-serve
returns-clause-serve c = serve_too StayLive served_stay_live

pub returns-clause-replay : goal.returns-clause-replay
returns-clause-replay c = replay_too StayLive served_stay_live
