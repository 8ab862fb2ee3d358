-- The state that a log's lines give is sayable, and what is served from there is read back by a mirror.
use Rattle.djq_program_laws.proofs.ProgramRuns.{serve_is_read_back, serve_moments_are_read_back}
use Rattle.djq_program_laws.proofs.laws.serve_is_read_back.Goals as goal

pub returns-clause-end : goal.returns-clause-end
returns-clause-end c = serve_is_read_back

pub returns-clause-moments : goal.returns-clause-moments
returns-clause-moments c = serve_moments_are_read_back
