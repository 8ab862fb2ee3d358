-- The session that the event is of is there, and nothing is queued to it as bytes of it are taken.
use Rattle.djq_run_laws.proofs.Courses.{took_facts}
use Rattle.djq_run_laws.proofs.bytes_are_taken.Goals as goal

pub returns : goal.returns
returns c = took_facts
