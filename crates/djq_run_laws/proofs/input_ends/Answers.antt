-- The session that the event is of is there, and has a cause already or gets that of its input's end.
use Rattle.djq_run_laws.proofs.Courses.{ended_facts}
use Rattle.djq_run_laws.proofs.input_ends.Goals as goal

pub returns : goal.returns
returns c = ended_facts
