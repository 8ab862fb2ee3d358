-- By induction over the steps: a page that is told comes behind those before, and names keep cursors apart.
use Rattle.djq_run_laws.proofs.CursorListings.{given_is_told, listed_is_told}
use Rattle.djq_run_laws.proofs.given_is_told.Goals as goal

pub returns-clause-given : goal.returns-clause-given
returns-clause-given c = given_is_told

pub returns-clause-listed : goal.returns-clause-listed
returns-clause-listed c = listed_is_told
