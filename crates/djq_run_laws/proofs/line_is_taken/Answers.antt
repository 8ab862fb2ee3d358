-- The session that the event is of is there and hadn't ended, and its front says what is taken of it.
use Rattle.djq_run_laws.proofs.Courses.{stepped_facts}
use Rattle.djq_run_laws.proofs.line_is_taken.Goals as goal

pub returns : goal.returns
returns c = stepped_facts
