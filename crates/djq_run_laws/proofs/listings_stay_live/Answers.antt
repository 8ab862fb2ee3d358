-- What a finished cursor has given is a listing, and to a listing a watching session adds up its deltas.
use Rattle.djq_run_laws.proofs.Watchers.{listings_stay_live}
use Rattle.djq_run_laws.proofs.Starts.{runs_stay_live}
use Rattle.djq_run_laws.proofs.listings_stay_live.Goals as goal

pub returns-clause-live : goal.returns-clause-live
returns-clause-live c = listings_stay_live

pub returns-clause-started : goal.returns-clause-started
returns-clause-started c = runs_stay_live
