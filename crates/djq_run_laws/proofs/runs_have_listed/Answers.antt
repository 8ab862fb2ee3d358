-- No cursor is open in a state to start from, each step keeps what cursors give, and a finished one's is a listing.
use Rattle.djq_run_laws.proofs.Starts.{runs_have_listed}
use Rattle.djq_run_laws.proofs.runs_have_listed.Goals as goal

pub returns : goal.returns
returns c = runs_have_listed
