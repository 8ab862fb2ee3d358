-- At each moment the headline says what cursors gave; from there listings stay live, by djq_run_laws.
use Rattle.djq_program_laws.proofs.ProgramRuns.{run_is_live}
use Rattle.djq_program_laws.proofs.laws.run_stays_live.Goals as goal

pub returns : goal.returns
returns c = run_is_live
