-- The session that the event is of is there, and only where memory is wanting is a line queued to it.
use Rattle.djq_run_laws.proofs.Courses.{fed_facts}
use Rattle.djq_run_laws.proofs.bytes_come.Goals as goal

pub returns : goal.returns
returns c = fed_facts
