-- Only the lines of `quit` and `stop` are of the form that ends a session, and lines of that form aren't kept.
use Rattle.djq_run_laws.proofs.Sessions.{kept_says_no_stop}
use Rattle.djq_run_laws.proofs.kept_says_no_stop.Goals as goal

pub returns : goal.returns
returns c = kept_says_no_stop
