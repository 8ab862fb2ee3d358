-- The opening state is sayable, and what a course from a sayable state sends is read back by a mirror.
use Rattle.djq_program_laws.proofs.ProgramRuns.{run_is_read_back, run_moments_are_read_back}
use Rattle.djq_program_laws.proofs.laws.run_is_read_back.Goals as goal

pub returns-clause-end : goal.returns-clause-end
returns-clause-end c = run_is_read_back

pub returns-clause-moments : goal.returns-clause-moments
returns-clause-moments c = run_moments_are_read_back
