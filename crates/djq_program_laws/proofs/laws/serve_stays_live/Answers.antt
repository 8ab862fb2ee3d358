-- The state that a log's lines give is one to start from, so cursors give what they should from there on.
use Rattle.djq_program_laws.proofs.ProgramRuns.{serve_is_live}
use Rattle.djq_program_laws.proofs.laws.serve_stays_live.Goals as goal

pub returns : goal.returns
returns c = serve_is_live
